use Rattle.std.proofs.Common.{◌-◌, ◌<◌, ◌≤◌, All, length}
use Rattle.hk_group.specs.Solutions.{scope_values}
use Rattle.hk_group.proofs.Windows.{Slides}
use Rattle.hk_group.proofs.counting.each_window.Given as goal

abbrev pub invariant-loop-leaves : goal.invariant-loop-leaves
invariant-loop-leaves l = record {
  slides : Slides l.window (l.window - 1) l.set l.least l.most (scope_values l.scope l.values) (scope_values l.leaves-iterator.a.rest.now l.values) (scope_values l.leaves-iterator.b.rest.now l.values) l.count;
  leaving : All (λ variable. variable < length l.values) l.leaves-iterator.a.rest.now;
  coming : All (λ variable. variable < length l.values) l.leaves-iterator.b.rest.now;
  few : length l.leaves-iterator.a.rest.now ≤ 256;
}
