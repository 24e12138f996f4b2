use Rattle.std.proofs.Common.{◌≡◌, ◌++◌, map, drop, slice_index}
use Rattle.hk_sweep.proofs.shaping.sets_of.Given as goal

-- all sets are the ones so far and those of the variables that are left
abbrev pub invariant-loop-variable : goal.invariant-loop-variable
invariant-loop-variable l = map (λ variable. slice_index l.sets variable) l.vars ≡ l.chosen ++ map (λ variable. slice_index l.sets variable) (drop l.variable-index l.vars)
