use Rattle.std.proofs.Common.{◌≡◌, ◌+◌, drop}
use Rattle.hk_spec.specs.Meanings.{count_in}
use Rattle.hk_group.specs.Solutions.{scope_values}
use Rattle.hk_group.proofs.counting.count_in.Given as goal

abbrev pub invariant-loop-variable : goal.invariant-loop-variable
invariant-loop-variable l = count_in l.set (scope_values l.scope l.values) ≡ l.count + count_in l.set (scope_values (drop l.variable-index l.scope) l.values)
