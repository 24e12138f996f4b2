-- When a tight revision is exact.
use Rattle.std.specs.Prelude.{◌≡◌, ℕ, ◌+◌, ◌≤◌, List, [], ◌∷◌, ◌++◌, length, slice_get, Some}
use Rattle.hk_kinds.specs.Distinct.{distinct_states}
use Rattle.hk_kinds.specs.declared.properties.Prop.{Prop}
use Rattle.hk_table.specs.Tables.{PlainRow, NamesRow, entry_for}
use Rattle.hk_table.specs.declared.entries.Entry.{Entry}
use Rattle.hk_table.specs.declared.entries.Entry.TheVariants.{Dead, Live}
use Rattle.hk_layers.specs.Transitions.{Transitions}

-- from a row of the first of these layers on, Live and Dead entries at these values lead to this row of a later layer
pub data PathTo : List (List ℕ) → List (List PlainRow) → ℕ → List ℕ → PlainRow → Type 0 where
  path_ends : {more : List (List ℕ)} {layer : List PlainRow} {layers : List (List PlainRow)} {c : ℕ} {row : PlainRow} → slice_get layer c ≡ Some row → PathTo more (layer ∷ layers) c [] row
  path_goes_on : {values : List ℕ} {more : List (List ℕ)} {layer : List PlainRow} {layers : List (List PlainRow)} {c next value : ℕ} {rest : List ℕ} {row end : PlainRow}
      → slice_get layer c ≡ Some row → NamesRow (entry_for values row.entries value) next → PathTo more layers next rest end
      → PathTo (values ∷ more) (layer ∷ layers) c (value ∷ rest) end

-- the step of a Live or Dead entry of a row, which stands for this value
abbrev pub step_of_entry : Transitions → ℕ → PlainRow → ℕ → Entry → List (List Prop)
step_of_entry t layer row value (Live c) = t.down layer value row.down ∷ []
step_of_entry t layer row value (Dead c) = t.down layer value row.down ∷ []
step_of_entry t layer row value _ = []

-- the same of a row's entries
abbrev pub steps_of_entries : Transitions → ℕ → PlainRow → List ℕ → List Entry → List (List Prop)
steps_of_entries t layer row [] entries = []
steps_of_entries t layer row (value ∷ values) [] = []
steps_of_entries t layer row (value ∷ values) (entry ∷ entries) = step_of_entry t layer row value entry ++ steps_of_entries t layer row values entries

-- the same of rows
abbrev pub steps_of_rows : Transitions → ℕ → List ℕ → List PlainRow → List (List Prop)
steps_of_rows t layer values [] = []
steps_of_rows t layer values (row ∷ rows) = steps_of_entries t layer row values row.entries ++ steps_of_rows t layer values rows

-- each layer has at most so many distinct steps
pub data HasFewSteps (t : Transitions) (width : ℕ) : ℕ → List (List ℕ) → List (List PlainRow) → Type 0 where
  few_on_last : {layer : ℕ} {last : List PlainRow} → HasFewSteps t width layer [] (last ∷ [])
  few_on_layer : {layer : ℕ} {values : List ℕ} {more : List (List ℕ)} {rows : List PlainRow} {layers : List (List PlainRow)}
      → length (distinct_states (steps_of_rows t layer values rows)) ≤ width → HasFewSteps t width (layer + 1) more layers
      → HasFewSteps t width layer (values ∷ more) (rows ∷ layers)
