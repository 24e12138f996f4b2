use Rattle.std.proofs.Common.{◌≡◌, ◌<◌, length, All, ◌+ℤ◌}
use Rattle.hk_group.specs.Limits.{greatest_coefficient}
use Rattle.hk_group.specs.Problems.{IsWithin}
use Rattle.hk_group.specs.Solutions.{linear_value}
use Rattle.hk_group.proofs.SumSizes.{HasRoom}
use Rattle.hk_group.proofs.linear.linear_value.Given as goal

abbrev pub invariant-loop-variable : goal.invariant-loop-variable
invariant-loop-variable l = record {
  whole : linear_value l.scope l.coefs l.values ≡ l.sum +ℤ linear_value l.variable-iterator.a.rest.now l.variable-iterator.b.rest.now l.values;
  declared : All (λ variable. variable < length l.values) l.variable-iterator.a.rest.now;
  small : All (IsWithin greatest_coefficient) l.variable-iterator.b.rest.now;
  room : HasRoom l.sum (length l.variable-iterator.a.rest.now);
}
