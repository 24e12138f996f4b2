-- What a loose revision of a table is: seven rules that keep every solution.
use Rattle.std.specs.Prelude.{◌≡◌, ℕ, ℤ, ◌+◌, ◌<◌, ◌↔◌, List, [], ◌∷◌, length, slice_get, All, Some, IsFalse}
use Rattle.std.specs.List.Sorted.{IsStrictlyIncreasing}
use Rattle.hk_base.specs.Sets.{Has}
use Rattle.hk_kinds.specs.Covers.{StateCovers}
use Rattle.hk_kinds.specs.Tops.{top_state}
use Rattle.hk_kinds.specs.declared.properties.Prop.{Prop}
use Rattle.hk_group.specs.Groups.{PlainGroup}
use Rattle.hk_table.specs.Fits.{LayersFit}
use Rattle.hk_table.specs.Members.{Member}
use Rattle.hk_table.specs.Tables.{PlainRow, PlainShape, NamesRow, entry_for, layer_values}
use Rattle.hk_table.specs.declared.entries.Entry.TheVariants.{Gone, Cut, Dead, Live}
use Rattle.hk_layers.specs.Transitions.{Transitions, transitions_of, layer_sets}

-- of two layers of the old table, a row of the first that is named here has a Live entry at the value, which leads to this
-- row of the second, and it is there
pub record LeadsTo (values : List ℕ) (old old_next : List PlainRow) (from : List ℕ) (value c : ℕ) : Type 0 where
  pub origin : ℕ
  pub named : Member origin from
  pub row : PlainRow
  pub is : slice_get old origin ≡ Some row
  pub live : entry_for values row.entries value ≡ Live c
  pub there : c < length old_next

-- a value goes on from these rows: it is in the domain, and leads to some row
pub record GoesOn (values : List ℕ) (domain : ℕ) (old old_next : List PlainRow) (from : List ℕ) (value : ℕ) : Type 0 where
  pub allowed : Has domain value
  pub to : ℕ
  pub leads : LeadsTo values old old_next from value to

-- the row that an entry of a row names is there; it comes from all old rows that the value leads to, and its down state
-- covers the step of the row's
pub record ReceivesStep (t : Transitions) (layer : ℕ) (values : List ℕ) (old old_next next : List PlainRow) (row : PlainRow) (value c : ℕ) : Type 0 where
  pub target : PlainRow
  pub is : slice_get next c ≡ Some target
  pub comes : (other : ℕ) → LeadsTo values old old_next row.from value other → Member other target.from
  pub covers : StateCovers t.down_shape target.down (t.down layer value row.down)

-- why an entry of a row may be Dead: the row that it names has no Live entry, and isn't on the last layer, as layers come
-- after it; or it has an up state with which the test fails
pub data DeadCause (t : Transitions) (best : ℤ) (layer after : ℕ) (row : PlainRow) (value : ℕ) (target : PlainRow) : Type 0 where
  leads_nowhere : 0 < after → ((c : ℕ) → Member (Live c) target.entries → ⊥) → DeadCause t best layer after row value target
  test_fails : {up : List Prop} → target.up ≡ Some up → IsFalse (t.passes layer value best row.down up) → DeadCause t best layer after row value target

-- such a cause of the row that is named
pub record IsDeadEnd (t : Transitions) (best : ℤ) (layer after : ℕ) (next : List PlainRow) (row : PlainRow) (value c : ℕ) : Type 0 where
  pub target : PlainRow
  pub is : slice_get next c ≡ Some target
  pub cause : DeadCause t best layer after row value target

-- the row and the one that its Live entry names have up states, and the first covers the step of the second
pub record CoversUp (t : Transitions) (layer : ℕ) (next : List PlainRow) (row : PlainRow) (value c : ℕ) : Type 0 where
  pub up : List Prop
  pub own : row.up ≡ Some up
  pub target : PlainRow
  pub is : slice_get next c ≡ Some target
  pub later : List Prop
  pub has : target.up ≡ Some later
  pub covers : StateCovers t.up_shape up (t.up layer value later)

-- rule 1: layer 0 has one row, which comes from row 0, and its down state covers the initial one
pub record Begins (t : Transitions) (table : List (List PlainRow)) : Type 0 where
  pub row : PlainRow
  pub layers : List (List PlainRow)
  pub one : table ≡ (row ∷ []) ∷ layers
  pub comes : row.from ≡ 0 ∷ []
  pub covers : StateCovers t.down_shape row.down t.initial_down

-- rule 2, of every row: the rows of the old layer that it comes from ascend, and are there
pub record Comes (old : List PlainRow) (row : PlainRow) : Type 0 where
  pub ascend : IsStrictlyIncreasing row.from
  pub there : All (λ origin. origin < length old) row.from

-- rules 2 to 7 of a row before the last layer. So many layers come after the next one
pub record RowIsLoose (t : Transitions) (best : ℤ) (layer : ℕ) (values : List ℕ) (domain : ℕ) (old old_next next : List PlainRow) (after : ℕ) (row : PlainRow) : Type 0 where
  -- rule 2: it comes from rows that are there, and each Live or Dead entry names a row of the next layer
  pub comes : Comes old row
  pub names : (value c : ℕ) → NamesRow (entry_for values row.entries value) c → c < length next
  -- rule 3: an entry is Gone exactly where its value doesn't go on
  pub gone : (value : ℕ) → entry_for values row.entries value ≡ Gone ↔ (GoesOn values domain old old_next row.from value → ⊥)
  -- rule 4: an entry is Cut only where the test fails with the top up state
  pub cut : (value : ℕ) → entry_for values row.entries value ≡ Cut → IsFalse (t.passes layer value best row.down (top_state t.up_shape))
  -- rule 5: the row that a Live or Dead entry names receives the step
  pub steps : (value c : ℕ) → NamesRow (entry_for values row.entries value) c → ReceivesStep t layer values old old_next next row value c
  -- rule 6: an entry is Dead only with a cause
  pub dead : (value c : ℕ) → entry_for values row.entries value ≡ Dead c → IsDeadEnd t best layer after next row value c
  -- rule 7: a row with a Live entry has an up state, which covers the up step of the row that the entry names
  pub ups : (value c : ℕ) → entry_for values row.entries value ≡ Live c → CoversUp t layer next row value c

-- rules 2 and 7 of a row of the last layer: its up state covers the initial one
pub record LastRowIsLoose (t : Transitions) (old : List PlainRow) (row : PlainRow) : Type 0 where
  pub comes : Comes old row
  pub up : List Prop
  pub own : row.up ≡ Some up
  pub covers : StateCovers t.up_shape up t.initial_up

-- the rules of rows hold of all rows, layer by layer, with the values and the domain of each layer
pub data LayersAreLoose (t : Transitions) (best : ℤ) : ℕ → List (List ℕ) → List ℕ → List (List PlainRow) → List (List PlainRow) → Type 0 where
  last_is_loose : {layer : ℕ} {old new : List PlainRow} → All (LastRowIsLoose t old) new → LayersAreLoose t best layer [] [] (old ∷ []) (new ∷ [])
  layer_is_loose : {layer : ℕ} {values : List ℕ} {more : List (List ℕ)} {domain : ℕ} {domains : List ℕ} {old old_next new next : List PlainRow} {olds news : List (List PlainRow)}
      → All (RowIsLoose t best layer values domain old old_next next (length more)) new
      → LayersAreLoose t best (layer + 1) more domains (old_next ∷ olds) (next ∷ news)
      → LayersAreLoose t best layer (values ∷ more) (domain ∷ domains) (old ∷ (old_next ∷ olds)) (new ∷ (next ∷ news))

-- the new table is a loose revision of the old one under the domains and the bound: it fits, and the seven rules hold
pub record IsLoose (t : Transitions) (values : List (List ℕ)) (domains : List ℕ) (best : ℤ) (old new : List (List PlainRow)) : Type 0 where
  pub fits : LayersFit t.down_shape t.up_shape values new
  pub begins : Begins t new
  pub rows : LayersAreLoose t best 0 values domains old new

-- the shape of a group's tables, where its variables have these sets of values in the model
abbrev pub group_shape : PlainGroup → List ℕ → PlainShape
group_shape g sets = let t = transitions_of g in record { down = t.down_shape; up = t.up_shape; domains = layer_sets g sets }

-- the same of a group, for sets and domains of all variables
abbrev pub IsLooseRevision : PlainGroup → List ℕ → List ℕ → ℤ → List (List PlainRow) → List (List PlainRow) → Type 0
IsLooseRevision g sets domains best old new = IsLoose (transitions_of g) (layer_values (group_shape g sets)) (layer_sets g domains) best old new
