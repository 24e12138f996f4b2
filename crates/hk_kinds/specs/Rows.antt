-- Lists of states of one length, as they are laid out: the properties of all of them, one state after the other.
use Rattle.std.specs.Prelude.{ℕ, zero, suc, List, [], ◌∷◌, take, drop}
use Rattle.hk_kinds.specs.declared.properties.Prop.{Prop}

-- states of as many properties each as the width says, first to last
pub record Rows : Type 0 where
  pub width : ℕ
  pub rows : List (List Prop)

-- a list cut into so many rows of a width
abbrev pub rows_of : {X : Type 0} → ℕ → ℕ → List X → List (List X)
rows_of zero width items = []
rows_of (suc count) width items = take width items ∷ rows_of count width (drop width items)
