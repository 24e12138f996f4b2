use Rattle.hk_spec.proofs.StepLaws.{down_step_has_shape}
use Rattle.hk_spec.proofs.laws.down_steps_keep_the_shape.Goals as goal

pub returns : goal.returns
returns c = down_step_has_shape
