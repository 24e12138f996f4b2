use Rattle.std.proofs.Common.{◌≡◌, take}
use Rattle.hk_group.specs.Solutions.{scope_values}
use Rattle.hk_group.proofs.judging.values_of.Given as goal

abbrev pub invariant-loop-variable : goal.invariant-loop-variable
invariant-loop-variable l = l.own ≡ scope_values (take l.variable-index l.scope) l.values
