use Rattle.std.proofs.Common.{[], ◌∷◌, ◌++◌, ap, ◌∙◌}
use Rattle.hk_lib.proofs.Growing.{shifts_grow}
use Rattle.hk_lib.proofs.sequences.steps.Goals as goal

pub loop-place-preserved : goal.loop-place-preserved
loop-place-preserved c = c.in_default.ensures.ok ∙ (ap (λ shift. c.loop-place.steps ++ shift ∷ []) c.shift.ensures ∙ shifts_grow c.loop-place.steps _ c.loop-place.place c.loop-place.invariant)
