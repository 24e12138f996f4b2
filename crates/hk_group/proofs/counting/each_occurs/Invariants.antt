use Rattle.std.proofs.Common.{take}
use Rattle.hk_spec.specs.Meanings.{EachOccurs}
use Rattle.hk_group.specs.Solutions.{scope_values}
use Rattle.hk_group.proofs.counting.each_occurs.Given as goal

abbrev pub invariant-loop-row : goal.invariant-loop-row
invariant-loop-row l = EachOccurs (take l.row-index l.rows) (scope_values l.scope l.values)
