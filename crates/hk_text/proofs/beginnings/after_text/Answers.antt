use Rattle.hk_text.proofs.TokenTexts.{tokens_after}
use Rattle.hk_text.proofs.beginnings.after_text.Goals as goal

pub returns-clause-tokens : goal.returns-clause-tokens
returns-clause-tokens c = tokens_after c.in_ok-token.ensures.cases.0 c.requires
