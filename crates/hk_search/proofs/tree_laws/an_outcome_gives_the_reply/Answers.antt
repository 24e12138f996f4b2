use Rattle.hk_search.proofs.Replies.{search_replies}
use Rattle.hk_search.proofs.tree_laws.an_outcome_gives_the_reply.Goals as goal

pub returns : goal.returns
returns c = λ p width budget told valid some. search_replies p valid width some budget told
