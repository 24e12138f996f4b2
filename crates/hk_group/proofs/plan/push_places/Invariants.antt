use Rattle.std.proofs.Common.{◌≡◌, ◌++◌, drop}
use Rattle.hk_group.specs.Composed.{places_of}
use Rattle.hk_group.proofs.plan.push_places.Given as goal

-- the plan that is to be is what is pushed so far, and then the places of the parts that are left
abbrev pub invariant-loop-part : goal.invariant-loop-part
invariant-loop-part l = l.initial.plan ++ places_of l.parts l.variable ≡ l.plan ++ places_of (drop l.part-index l.parts) l.variable
