use Rattle.hk_kinds.proofs.StateLaws.{HasShape-top}
use Rattle.hk_kinds.proofs.laws.tops_have_the_shape.Goals as goal

pub returns : goal.returns
returns c = HasShape-top
