use Rattle.std.proofs.Common.{◌≡◌}
use Rattle.hk_kinds.specs.inside.Keys.{key_numbers}
use Rattle.hk_kinds.proofs.PlaceSteps.{TakenUpTo}
use Rattle.hk_kinds.proofs.places.place_steps.Given as goal

-- so many of the sorted rows are taken
abbrev pub invariant-loop-i : goal.invariant-loop-i
invariant-loop-i l = TakenUpTo l.states.rows (key_numbers l.keys) l.i l.steps.rows l.places × (l.steps.width ≡ l.initial.steps.width)
