use Rattle.std.proofs.Common.{◌-◌}
use Rattle.hk_search.proofs.DueFronts.{finish_front}
use Rattle.hk_search.proofs.tree_laws.what_was_told_begins_what_is_due.Goals as goal

pub returns : goal.returns
returns c = λ r budget heard waiting. finish_front r (budget - heard.outcome.nodes) heard waiting
