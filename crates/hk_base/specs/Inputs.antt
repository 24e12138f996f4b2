-- The named inputs of a host in memory, and what is left of one that is read.
use Rattle.std.specs.Prelude.{ℕ, suc, zero, ◌<◌, ◌≤◌, List, [], ◌∷◌, length, drop, bytes_eq, if◌then◌else◌, Option, Some, None}
use Rattle.hk_base.specs.declared.inputs.Input.{Input}
use Rattle.hk_base.specs.declared.inputs.Reading.{Reading}

-- the bytes of the first of these inputs that has this name
abbrev pub told_of : List Input → List ℕ → Option (List ℕ)
told_of [] name = None
told_of (input ∷ older) name = if bytes_eq input.name name then Some input.bytes else told_of older name

-- the bytes of the input at a place, of which there are none past the last
abbrev pub bytes_at : List Input → ℕ → List ℕ
bytes_at [] place = []
bytes_at (input ∷ more) zero = input.bytes
bytes_at (input ∷ more) (suc place) = bytes_at more place

-- what is left to read, where something is read
abbrev pub left_of : List Input → Option Reading → Option (List ℕ)
left_of inputs None = None
left_of inputs (Some reading) = Some (drop reading.at (bytes_at inputs reading.input))

-- what is read is one of these inputs, up to a place within it
abbrev pub IsWithin : List Input → Option Reading → Type 0
IsWithin inputs None = Unit {0}
IsWithin inputs (Some reading) = (reading.input < length inputs) × (reading.at ≤ length (bytes_at inputs reading.input))
