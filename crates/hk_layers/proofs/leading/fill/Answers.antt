use Rattle.std.proofs.Common.{arith}
use Rattle.hk_layers.proofs.StepRows.{rows_few}
use Rattle.hk_layers.proofs.leading.fill.Goals as goal

pub unite_all-requires : goal.unite_all-requires
unite_all-requires c = record { few = omega (arith, c.len.ensures, rows_few _ _ _ _ c.in_ok-join_steps.ensures.rows, c.requires.spot.few_rows) }
