-- What tables allow of the variables: tests of what a table supports.
use Rattle.std.specs.Prelude.{ℕ, zero, suc, ◌&&◌, Bool, true, false, List, ◌∷◌, slice_get, Option, None, Some}
use Rattle.std.specs.List.{list_any}
use Rattle.hk_group.specs.Groups.{PlainGroup, place_in}
use Rattle.hk_layers.specs.Layers.{old_entry}
use Rattle.hk_sweep.specs.Loose.{group_shape}
use Rattle.hk_table.specs.Tables.{PlainShape, layer_values}
use Rattle.hk_table.specs.declared.entries.Entry.{Entry}
use Rattle.hk_table.specs.declared.entries.Entry.TheVariants.{Live}
use Rattle.hk_prop.specs.Contents.{PlainTable}

-- the entry is Live, and leads to a row that passes a test
abbrev pub is_live_where : (ℕ → Bool) → Entry → Bool
is_live_where passes (Live next) = passes next
is_live_where passes _ = false

-- a row that Live entries reach from this row of the first of these layers, so many layers on, has a Live entry at the value
abbrev pub supports_from : List (List ℕ) → PlainTable → ℕ → ℕ → ℕ → Bool
supports_from (values ∷ more) (layer ∷ layers) zero c value = is_live_where (λ next. true) (old_entry values (slice_get layer c) value)
supports_from (values ∷ more) (layer ∷ layers) (suc level) c value =
    list_any (λ step. is_live_where (λ next. supports_from more layers level next value) (old_entry values (slice_get layer c) step)) values
supports_from _ _ level c value = false

-- a table supports a value at a layer
abbrev pub supports : PlainShape → PlainTable → ℕ → ℕ → Bool
supports shape table level value = supports_from (layer_values shape) table level 0 value

-- a table allows a value at a layer that it supports there, and every value where no layer is named
abbrev pub allows_at : PlainShape → PlainTable → Option ℕ → ℕ → Bool
allows_at shape table None value = true
allows_at shape table (Some level) value = supports shape table level value

-- the table of a group allows a variable a value: it supports it at the variable's layer, where the group has that variable
abbrev pub allows : List ℕ → PlainGroup → PlainTable → ℕ → ℕ → Bool
allows sets g table variable value = allows_at (group_shape g sets) table (place_in g.vars variable) value

-- the tables of all groups do
abbrev pub all_allow : List ℕ → List PlainGroup → List PlainTable → ℕ → ℕ → Bool
all_allow sets (g ∷ groups) (table ∷ tables) variable value = allows sets g table variable value && all_allow sets groups tables variable value
all_allow sets _ _ variable value = true
