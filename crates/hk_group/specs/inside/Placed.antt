-- Steps and tests of parts at places that are at hand.
use Rattle.std.specs.Prelude.{ℕ, ℤ, ◌<◌, ◌&&◌, Bool, true, List, [], ◌∷◌, ◌++◌, take, drop, Option, IfSome}
use Rattle.std.specs.List.{AllZip}
use Rattle.hk_kinds.specs.declared.properties.Prop.{Prop}
use Rattle.hk_group.specs.Groups.{Part, down_at, up_at, passes_at, down_width, up_width}

-- the place, where there is one, is a position of the part's specification
abbrev pub IsPlaceOf : Part → Option ℕ → Type 0
IsPlaceOf part place = IfSome place (λ at. at < part.bound.len)

-- one such place a part
abbrev pub ArePlaces : List Part → List (Option ℕ) → Type 0
ArePlaces = AllZip IsPlaceOf

-- the step of a state of parts, each at its place
abbrev pub down_by : List Part → List (Option ℕ) → ℕ → List Prop → List Prop
down_by (part ∷ parts) (place ∷ places) value state = down_at part place value (take (down_width part) state) ++ down_by parts places value (drop (down_width part) state)
down_by _ _ value state = []

-- the same of an up state
abbrev pub up_by : List Part → List (Option ℕ) → ℕ → List Prop → List Prop
up_by (part ∷ parts) (place ∷ places) value state = up_at part place value (take (up_width part) state) ++ up_by parts places value (drop (up_width part) state)
up_by _ _ value state = []

-- whether all tests of parts hold, each at its place
abbrev pub passes_by : List Part → List (Option ℕ) → ℕ → ℤ → List Prop → List Prop → Bool
passes_by (part ∷ parts) (place ∷ places) value best down up = passes_at part place value best (take (down_width part) down) (take (up_width part) up) && passes_by parts places value best (drop (down_width part) down) (drop (up_width part) up)
passes_by _ _ value best down up = true
