use Rattle.std.proofs.Common.{◌≡◌, ◌≤◌, length, reverse, take}
use Rattle.hk_base.specs.Inputs.{told_of}
use Rattle.hk_base.proofs.inputs.open_last.Given as goal

-- none of the inputs from here on has the name
abbrev pub invariant-inputs : goal.invariant-inputs
invariant-inputs l = (l.input ≤ length l.inputs) × (told_of (reverse l.inputs) l.name ≡ told_of (reverse (take l.input l.inputs)) l.name)

abbrev pub decreases-inputs : goal.decreases-inputs
decreases-inputs l = l.input
