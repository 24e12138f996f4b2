-- Parts of a longer state.
use Rattle.std.specs.Prelude.{ℕ, ◌+◌, List, ◌++◌, length, take, drop}
use Rattle.hk_kinds.specs.declared.properties.Prop.{Prop}

-- the part of a longer state that begins at a place and has so many properties
abbrev pub part_at : ℕ → ℕ → List Prop → List Prop
part_at first count state = take count (drop first state)

-- the longer state with another part from this place on, all else as it was
abbrev pub with_part : ℕ → List Prop → List Prop → List Prop
with_part first part state = take first state ++ (part ++ drop (first + length part) state)
