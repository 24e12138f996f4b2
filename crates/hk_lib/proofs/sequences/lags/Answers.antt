use Rattle.std.proofs.Common.{◌∙◌}
use Rattle.hk_lib.proofs.Growing.{lags_grow}
use Rattle.hk_lib.proofs.sequences.lags.Goals as goal

pub loop-place-preserved : goal.loop-place-preserved
loop-place-preserved c = c.in_default.ensures ∙ lags_grow c.loop-place.lags c.loop-place.place c.loop-place.invariant
