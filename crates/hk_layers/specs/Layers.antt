-- One layer of a revision: the arcs of its rows on the way down, the rows of the next layer that they lead to, and on the
-- way back its entries and up states.
use Rattle.std.specs.Prelude.{ℕ, ℤ, ◌+◌, ◌*◌, ◌/◌, ◌==◌, leb, min, Bool, false, if◌then◌else◌, List, [], ◌∷◌, ◌++◌, length, map, slice_get, Option, None, Some}
use Rattle.std.specs.Int.{bit_at}
use Rattle.std.specs.List.{filter, range_with_len, list_any}
use Rattle.std.specs.declared.cmp.Ordering.{Ordering}
use Rattle.std.specs.declared.cmp.Ordering.TheVariants.{Equal}
use Rattle.hk_kinds.specs.Distinct.{distinct_states}
use Rattle.hk_kinds.specs.Joins.{state_join}
use Rattle.hk_kinds.specs.Orders.{state_order}
use Rattle.hk_kinds.specs.Tops.{top_state}
use Rattle.hk_kinds.specs.declared.kinds.Kind.{Kind}
use Rattle.hk_kinds.specs.declared.properties.Prop.{Prop}
use Rattle.hk_table.specs.Tables.{PlainRow, entry_for}
use Rattle.hk_table.specs.declared.entries.Entry.{Entry}
use Rattle.hk_table.specs.declared.entries.Entry.TheVariants.{Gone, Cut, Dead, Live}
use Rattle.hk_layers.specs.Transitions.{Transitions}

-- a row on the way down, before its entries are judged: its down state, and the old rows that it comes from
pub record Half : Type 0 where
  pub down : List Prop
  pub from : List ℕ

-- the entry of an old row at a value; Gone where the row isn't there
abbrev pub old_entry : List ℕ → Option PlainRow → ℕ → Entry
old_entry values None value = Gone
old_entry values (Some row) value = entry_for values row.entries value

-- the entry is Live, and leads to this row
abbrev pub is_live_to : Entry → ℕ → Bool
is_live_to (Live c) other = c == other
is_live_to _ other = false

-- the old rows that a value leads to from these rows, ascending: Q
abbrev pub targets : List ℕ → List PlainRow → List PlainRow → List ℕ → ℕ → List ℕ
targets values old old_next from value = filter (λ c. list_any (λ origin. is_live_to (old_entry values (slice_get old origin) value) c) from) (range_with_len 0 (length old_next))

-- what becomes of a value at a row: it is gone; it is cut; or it goes on to the step, which comes from the rows of Q
pub data Mark : Type 0 where
  is_gone : Mark
  is_cut : Mark
  goes_on : List Prop → List ℕ → Mark

-- where Q is empty or the domain lacks the value, it is gone; else it is cut where the test fails with the top up state
abbrev pub mark_by : Transitions → ℤ → ℕ → ℕ → Half → ℕ → List ℕ → Mark
mark_by t best layer domain half value [] = is_gone
mark_by t best layer domain half value (c ∷ more) =
    if bit_at domain value == 1 then (if t.passes layer value best half.down (top_state t.up_shape) then goes_on (t.down layer value half.down) (c ∷ more) else is_cut) else is_gone

-- what becomes of a value at a row, over these old rows and those of the next old layer
abbrev pub mark : Transitions → ℤ → ℕ → List ℕ → ℕ → List PlainRow → List PlainRow → Half → ℕ → Mark
mark t best layer values domain old old_next half value = mark_by t best layer domain half value (targets values old old_next half.from value)

-- an arc: the step of an entry that goes on, and the old rows that it comes from
pub record Arc : Type 0 where
  pub step : List Prop
  pub targets : List ℕ

-- the arc of a value that goes on, alone; else none
abbrev pub arcs_of_mark : Mark → List Arc
arcs_of_mark is_gone = []
arcs_of_mark is_cut = []
arcs_of_mark (goes_on step targets) = record { step = step; targets = targets } ∷ []

-- the arcs of a row's values
abbrev pub arcs_of_values : (ℕ → Mark) → List ℕ → List Arc
arcs_of_values marks [] = []
arcs_of_values marks (value ∷ values) = arcs_of_mark (marks value) ++ arcs_of_values marks values

-- the arcs of all rows of a layer, row by row
abbrev pub arcs_of_rows : (Half → ℕ → Mark) → List ℕ → List Half → List Arc
arcs_of_rows marks values [] = []
arcs_of_rows marks values (half ∷ halves) = arcs_of_values (marks half) values ++ arcs_of_rows marks values halves

-- the distinct steps of arcs, in the order of states
abbrev pub steps_of : List Arc → List (List Prop)
steps_of arcs = distinct_states (map (λ (arc : Arc). arc.step) arcs)

-- 0 where the state is the first of a list, else one more than its place in the rest
abbrev pub place_by : Ordering → ℕ → ℕ
place_by Equal later = 0
place_by _ later = later + 1

-- the place of a state in a list that has it
abbrev pub place_of : List (List Prop) → List Prop → ℕ
place_of [] state = 0
place_of (first ∷ rest) state = place_by (state_order state first) (place_of rest state)

-- the row for the step at a place: its own where there are at most as many steps as the width says; else the steps share
-- the rows evenly
abbrev pub row_for : ℕ → ℕ → ℕ → ℕ
row_for width count place = if leb count width then place else place * width / count

-- the row that a step leads to
abbrev pub row_of_step : ℕ → List (List Prop) → List Prop → ℕ
row_of_step width steps step = row_for width (length steps) (place_of steps step)

-- a state with others joined into it, first to last
abbrev pub join_onto : List Kind → List Prop → List (List Prop) → List Prop
join_onto kinds state [] = state
join_onto kinds state (next ∷ states) = join_onto kinds (state_join kinds state next) states

-- the join of states, first to last; the state without properties where there are none
abbrev pub join_states : List Kind → List (List Prop) → List Prop
join_states kinds [] = []
join_states kinds (state ∷ states) = join_onto kinds state states

-- the arcs that lead to a row of the next layer
abbrev pub arcs_to : ℕ → List Arc → ℕ → List Arc
arcs_to width arcs c = filter (λ (arc : Arc). row_of_step width (steps_of arcs) arc.step == c) arcs

-- the row that arcs lead to: the join of their steps, and the union of the old rows that they come from, ascending
abbrev pub joined : List Kind → ℕ → List Arc → Half
joined kinds old_rows arcs = record {
  down = join_states kinds (map (λ (arc : Arc). arc.step) arcs);
  from = filter (λ c. list_any (λ (arc : Arc). list_any (λ other. other == c) arc.targets) arcs) (range_with_len 0 old_rows);
}

-- the rows of the next layer
abbrev pub next_halves : List Kind → ℕ → ℕ → List Arc → List Half
next_halves kinds width old_rows arcs = map (λ c. joined kinds old_rows (arcs_to width arcs c)) (range_with_len 0 (min (length (steps_of arcs)) width))

-- the up state of a row of a layer, where it has one
abbrev pub up_state : Option PlainRow → Option (List Prop)
up_state None = None
up_state (Some row) = row.up

-- the entry of a step that leads to a row: Live where that row has an up state and the test holds with it, else Dead.
-- Rows of a tight revision have one exactly where they are on the last layer or have a Live entry
abbrev pub judged_by : (List Prop → Bool) → Option (List Prop) → ℕ → Entry
judged_by passes None c = Dead c
judged_by passes (Some up) c = if passes up then Live c else Dead c

-- the entry of a value, by what becomes of it
abbrev pub entry_of_mark : Transitions → ℤ → ℕ → ℕ → List (List Prop) → List PlainRow → Half → ℕ → Mark → Entry
entry_of_mark t best layer width steps next half value is_gone = Gone
entry_of_mark t best layer width steps next half value is_cut = Cut
entry_of_mark t best layer width steps next half value (goes_on step targets) =
    judged_by (t.passes layer value best half.down) (up_state (slice_get next (row_of_step width steps step))) (row_of_step width steps step)

-- the up step of a state, where there is one
abbrev pub up_step_by : Transitions → ℕ → ℕ → Option (List Prop) → List (List Prop)
up_step_by t layer value None = []
up_step_by t layer value (Some up) = t.up layer value up ∷ []

-- the up step of a Live entry at a value: of the row that it leads to
abbrev pub up_step_of : Transitions → ℕ → List PlainRow → ℕ → Entry → List (List Prop)
up_step_of t layer next value (Live c) = up_step_by t layer value (up_state (slice_get next c))
up_step_of t layer next value _ = []

-- the up steps of the Live entries, which stand for these values
abbrev pub up_steps : Transitions → ℕ → List PlainRow → List ℕ → List Entry → List (List Prop)
up_steps t layer next [] entries = []
up_steps t layer next (value ∷ values) [] = []
up_steps t layer next (value ∷ values) (entry ∷ entries) = up_step_of t layer next value entry ++ up_steps t layer next values entries

-- their join, where there is one
abbrev pub joined_up : List Kind → List (List Prop) → Option (List Prop)
joined_up kinds [] = None
joined_up kinds (state ∷ states) = Some (join_onto kinds state states)

-- a row with its entries judged, and its up state
abbrev pub row_with : Transitions → ℕ → List ℕ → List PlainRow → Half → List Entry → PlainRow
row_with t layer values next half entries = record { down = half.down; up = joined_up t.up_shape (up_steps t layer next values entries); from = half.from; entries = entries }

-- a row with an entry for each value, above these rows of the next layer
abbrev pub finished : Transitions → ℤ → ℕ → ℕ → List ℕ → (Half → ℕ → Mark) → List (List Prop) → List PlainRow → Half → PlainRow
finished t best width layer values marks steps next half =
    row_with t layer values next half (map (λ value. entry_of_mark t best layer width steps next half value (marks half value)) values)

-- a row of the last layer
abbrev pub last_row : Transitions → Half → PlainRow
last_row t half = record { down = half.down; up = Some t.initial_up; from = half.from; entries = [] }
