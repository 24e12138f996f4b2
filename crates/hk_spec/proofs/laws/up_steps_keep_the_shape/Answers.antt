use Rattle.hk_spec.proofs.StepLaws.{up_step_has_shape}
use Rattle.hk_spec.proofs.laws.up_steps_keep_the_shape.Goals as goal

pub returns : goal.returns
returns c = up_step_has_shape
