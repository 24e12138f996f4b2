-- What contracts see of the flat lists.
use Rattle.std.specs.Prelude.{ℕ, Bool, true, false, List, [], ◌∷◌, Option, None, Some}
use Rattle.hk_kinds.specs.declared.properties.Prop.{Prop}
use Rattle.hk_layers.specs.Layers.{Half}
use Rattle.hk_layers.specs.declared.marks.Fate.{Fate}

-- rows on the way down, and how many properties their states have
pub record FrontView : Type 0 where
  pub width : ℕ
  pub halves : List Half

-- up states of rows, where they have one, and how many properties each has
pub record UpsView : Type 0 where
  pub width : ℕ
  pub ups : List (Option (List Prop))

-- the state, where the row has one
abbrev pub up_if : Bool → List Prop → Option (List Prop)
up_if true state = Some state
up_if false state = None

-- the same of rows
abbrev pub ups_by : List Bool → List (List Prop) → List (Option (List Prop))
ups_by [] states = []
ups_by (there ∷ more) [] = []
ups_by (there ∷ more) (state ∷ states) = up_if there state ∷ ups_by more states

-- the up state of one row so far, where it has one, and how many properties it has
pub record RisingView : Type 0 where
  pub width : ℕ
  pub up : Option (List Prop)

-- candidates for steps, and how many properties they have; for each value of each row, what becomes of it, and the set of
-- old rows that it leads to
pub record MarksView : Type 0 where
  pub width : ℕ
  pub candidates : List (List Prop)
  pub fates : List Fate
  pub sets : List ℕ
