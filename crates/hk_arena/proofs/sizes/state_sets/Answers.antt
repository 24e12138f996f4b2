use Rattle.std.proofs.Common.{arith}
use Rattle.std.proofs.lemmas.List.{at_drop_more}
use Rattle.hk_kinds.specs.declared.kinds.Kind.TheVariants.{Min}
use Rattle.hk_arena.proofs.CellCounts.{sets_in-le}
use Rattle.hk_arena.specs.Forms.{sets_in}
use Rattle.hk_arena.proofs.sizes.state_sets.Goals as goal

pub overflow_add-cells : goal.overflow_add-cells
overflow_add-cells c = omega (arith, sets_in-le c.args.kinds.now, at_drop_more sets_in c.args.kinds.now c.loop-kind.kind-index Min (omega arith))

pub loop-kind-preserved : goal.loop-kind-preserved
loop-kind-preserved c = omega (arith, at_drop_more sets_in c.args.kinds.now c.loop-kind.kind-index Min (omega arith))
