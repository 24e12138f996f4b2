use Rattle.hk_kinds.proofs.StateLaws.{length-HasShape}
use Rattle.hk_samples.proofs.groups.walked.Goals as goal

pub step_down-requires-clause-to : goal.step_down-requires-clause-to
step_down-requires-clause-to c = length-HasShape c.requires.to

pub step_down-requires-2-clause-to : goal.step_down-requires-2-clause-to
step_down-requires-2-clause-to c = length-HasShape c.requires.from

pub step_down-requires-3-clause-to : goal.step_down-requires-3-clause-to
step_down-requires-3-clause-to c = length-HasShape c.step_down.ensures.shape
