use Rattle.hk_kinds.proofs.StateLaws.{StateCovers-join}
use Rattle.hk_kinds.proofs.laws.covering_by_joins.Goals as goal

pub returns : goal.returns
returns c = StateCovers-join
