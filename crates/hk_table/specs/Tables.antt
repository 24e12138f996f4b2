-- Tables of a decision diagram: layers of rows, whose entries lead from a row to one of the next layer.
use Rattle.std.specs.Prelude.{ℕ, ◌==◌, if◌then◌else◌, List, [], ◌∷◌, ◌++◌, Option, map}
use Rattle.hk_kinds.specs.declared.kinds.Kind.{Kind}
use Rattle.hk_kinds.specs.declared.properties.Prop.{Prop}
use Rattle.hk_table.specs.declared.entries.Entry.{Entry}
use Rattle.hk_table.specs.declared.entries.Entry.TheVariants.{Gone, Dead, Live}
use Rattle.hk_text.specs.Sets.{members}

-- a row: its down state, its up state where it has one, the rows of an older table that it comes from, and an entry for
-- each value of its layer
pub record PlainRow : Type 0 where
  pub down : List Prop
  pub up : Option (List Prop)
  pub from : List ℕ
  pub entries : List Entry

-- what a table is made for: the kinds of its down and of its up states, and for each layer but the last the set of
-- values of its variable
pub record PlainShape : Type 0 where
  pub down : List Kind
  pub up : List Kind
  pub domains : List ℕ

-- the values of each layer but the last, ascending
abbrev pub layer_values : PlainShape → List (List ℕ)
layer_values shape = map members shape.domains

-- the entry at a value, of entries that stand for these values in order; Gone where none stands for it
abbrev pub entry_for : List ℕ → List Entry → ℕ → Entry
entry_for [] entries value = Gone
entry_for (first ∷ values) [] value = Gone
entry_for (first ∷ values) (entry ∷ entries) value = if first == value then entry else entry_for values entries value

-- the entries of rows, one row after the other
abbrev pub flat_entries : List PlainRow → List Entry
flat_entries [] = []
flat_entries (row ∷ rows) = row.entries ++ flat_entries rows

-- the entry is Live or Dead, and names this row of the next layer
pub data NamesRow : Entry → ℕ → Type 0 where
  by_live : {c : ℕ} → NamesRow (Live c) c
  by_dead : {c : ℕ} → NamesRow (Dead c) c
