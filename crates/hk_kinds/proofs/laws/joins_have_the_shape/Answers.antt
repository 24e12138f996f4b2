use Rattle.hk_kinds.proofs.StateLaws.{HasShape-join}
use Rattle.hk_kinds.proofs.laws.joins_have_the_shape.Goals as goal

pub returns : goal.returns
returns c = HasShape-join
