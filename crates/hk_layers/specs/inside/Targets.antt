-- The old rows that the values of a row lead to, as sets.
use Rattle.std.specs.Prelude.{◌≡◌, ℕ, ◌+◌, ◌*◌, ◌<◌, ◌==◌, leb, ltb, Bool, ◌&&◌, ◌||◌, if◌then◌else◌, List, length, map, slice_index_or}
use Rattle.std.specs.Int.{bit_at}
use Rattle.std.specs.List.{list_any}
use Rattle.hk_table.specs.Tables.{PlainRow}
use Rattle.hk_table.specs.declared.entries.Entry.{Entry}
use Rattle.hk_table.specs.declared.entries.Entry.TheVariants.{Gone}
use Rattle.hk_text.specs.Sets.{members, members_below}
use Rattle.hk_layers.specs.Layers.{is_live_to, targets}
use Rattle.hk_layers.specs.Spots.{PlainSpot}

-- the rows of sets
abbrev pub lists_of : List ℕ → List (List ℕ)
lists_of sets = map (λ set. members_below set 256) sets

-- for each value of the layer, the old rows that it leads to from these rows
abbrev pub targets_at : PlainSpot → List PlainRow → List PlainRow → List ℕ → List (List ℕ)
targets_at spot old old_next from = map (λ value. targets (members spot.values) old old_next from value) (members spot.values)

-- whether a set has a row
abbrev pub has_row : ℕ → ℕ → Bool
has_row set c = bit_at set c == 1

-- whether an entry is Live and leads to this one of so many rows
abbrev pub leads_to : ℕ → Entry → ℕ → Bool
leads_to count entry c = is_live_to entry c && ltb c count

-- the entry of a row at a place, of the entries of rows that have so many each; Gone where the row isn't there
abbrev pub entry_at : List Entry → ℕ → ℕ → ℕ → Entry
entry_at entries width row place = if leb (row * width + width) (length entries) then slice_index_or entries (row * width + place) Gone else Gone

-- whether an entry at this place of some rows is Live and leads to this one of so many rows
abbrev pub rows_lead : List Entry → ℕ → ℕ → List ℕ → ℕ → ℕ → Bool
rows_lead entries width count rows place c = list_any (λ row. leads_to count (entry_at entries width row place) c) rows

-- each set has the rows that it had, and those that the test says of its place
abbrev pub TakeIn : (ℕ → ℕ → Bool) → List ℕ → List ℕ → Type 0
TakeIn more old new = (place c : ℕ) → place < length old → has_row (slice_index_or new place 0) c ≡ (has_row (slice_index_or old place 0) c || more place c)
