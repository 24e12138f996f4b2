use Rattle.std.proofs.Common.{◌≢◌, ◌↔◌, AllPairs, drop}
use Rattle.hk_group.specs.Solutions.{scope_values}
use Rattle.hk_group.proofs.Distinct.{AreFresh}
use Rattle.hk_group.proofs.judging.are_different.Given as goal

abbrev pub invariant-loop-variable : goal.invariant-loop-variable
invariant-loop-variable l = AllPairs (λ x y. x ≢ y) (scope_values l.scope l.values) ↔ AreFresh l.seen (scope_values (drop l.variable-index l.scope) l.values)
