use Rattle.hk_layers.proofs.Targets.{TakeIn-both, halves_rows}
use Rattle.hk_layers.proofs.olds.take_all.Goals as goal

pub returns-clause-taken : goal.returns-clause-taken
returns-clause-taken c = TakeIn-both _ _ _ _ _ _ _ _ (halves_rows _ _ _ c.halves-low.ensures.set c.halves-low.ensures.low) c.take_half.ensures.long c.take_half.ensures.taken c.take_half-2.ensures.taken
