use Rattle.std.proofs.Common.{◌≡◌, length}
use Rattle.hk_samples.proofs.sizes.first_variables.Given as goal

abbrev pub invariant-loop-variable : goal.invariant-loop-variable
invariant-loop-variable l = length l.scope ≡ l.variable
