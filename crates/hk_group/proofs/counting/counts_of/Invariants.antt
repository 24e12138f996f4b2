use Rattle.std.proofs.Common.{drop}
use Rattle.hk_group.specs.Solutions.{scope_values}
use Rattle.hk_group.proofs.Counts.{Counted}
use Rattle.hk_group.proofs.counting.counts_of.Given as goal

abbrev pub invariant-loop-variable : goal.invariant-loop-variable
invariant-loop-variable l = Counted (scope_values l.scope l.values) (scope_values (drop l.variable-index l.scope) l.values) l.counts
