use Rattle.std.proofs.Common.{◌≡◌, ◌++◌, drop}
use Rattle.hk_group.specs.Composed.{plan_of}
use Rattle.hk_group.proofs.plan.plan_of.Given as goal

-- the plan is what is found so far, and then that of the variables that are left
abbrev pub invariant-loop-variable : goal.invariant-loop-variable
invariant-loop-variable l = plan_of l.parts l.vars ≡ l.plan ++ plan_of l.parts (drop l.variable-index l.vars)
