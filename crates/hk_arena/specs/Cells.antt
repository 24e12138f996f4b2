-- The table that cells hold.
use Rattle.std.specs.Prelude.{ℕ, zero, suc, ◌+◌, ◌*◌, ◌^◌, ◌/◌, ◌%◌, ◌==◌, if◌then◌else◌, List, [], ◌∷◌, Option, None, Some, map, take, drop, slice_index_or}
use Rattle.hk_kinds.specs.declared.properties.Prop.{Prop}
use Rattle.hk_table.specs.Tables.{PlainRow}
use Rattle.hk_table.specs.declared.entries.Entry.{Entry}
use Rattle.hk_table.specs.declared.entries.Entry.TheVariants.{Gone, Cut, Dead, Live}
use Rattle.hk_text.specs.Sets.{members_below}
use Rattle.hk_trail.specs.Pools.{Content}
use Rattle.hk_arena.specs.Forms.{Form, layer_count, nums_in, sets_in, row_nums, row_bits, row_words, nums_at, bits_at, words_at}
use Rattle.hk_arena.specs.Properties.{state_at}

-- the list of so many items that a rule gives, one for each place
abbrev pub listed : {X : Type 0} → ℕ → (ℕ → X) → List X
listed zero item = []
listed (suc count) item = item 0 ∷ listed count (λ at. item (suc at))

-- a part of a list: so many items from a place on
abbrev pub part : {X : Type 0} → ℕ → ℕ → List X → List X
part from count items = take count (drop from items)

-- the cells of a row
abbrev pub cells_of : Form → Content → ℕ → ℕ → Content
cells_of form content layer at = record {
  nums = part (nums_at form layer at) (row_nums form) content.nums;
  bits = part (bits_at form layer at) (row_bits form) content.bits;
  words = part (words_at form layer at) (row_words form layer) content.words;
}

-- the entry that a word holds: what it is by the remainder by 4, and the row that it names by the quotient, modulo 2^16
unfoldable pub entry_of : ℕ → Entry
entry_of word =
    if word % 4 == 0 then Gone else
    if word % 4 == 1 then Cut else
    if word % 4 == 2 then Dead (word / 4 % 2 ^ 16) else Live (word / 4 % 2 ^ 16)

-- the list without its first item
abbrev pub rest_of : {X : Type 0} → List X → List X
rest_of [] = []
rest_of (x ∷ xs) = xs

-- the entries of a row, after the word that says whether it has an up state
abbrev pub entries_of : List ℕ → List Entry
entries_of words = map entry_of (rest_of words)

-- the rows below 256 that a set has, ascending
unfoldable pub rows_in_set : ℕ → List ℕ
rows_in_set set = members_below set 256

-- the rows that a row comes from: those of the set whose two halves these are
abbrev pub from_of : List ℕ → List ℕ
from_of bits = rows_in_set (slice_index_or bits 1 0 * 2 ^ 128 + slice_index_or bits 0 0)

-- the up state of a row, where the first word says that it has one
abbrev pub up_of : Form → Content → Option (List Prop)
up_of form cells = if slice_index_or cells.words 0 0 == 0 then None else Some (state_at form.shape.up (nums_in form.shape.down) (2 + sets_in form.shape.down) cells.nums cells.bits)

-- the row that its cells hold
abbrev pub row_of : Form → Content → PlainRow
row_of form cells = record {
  down = state_at form.shape.down 0 2 cells.nums cells.bits;
  up = up_of form cells;
  from = from_of cells.bits;
  entries = entries_of cells.words;
}

-- how many rows a layer has
abbrev pub row_count : Content → ℕ → ℕ
row_count content layer = slice_index_or content.words layer 0

-- the row of a layer at a place, whether it is there or not
unfoldable pub row_at : Form → Content → ℕ → ℕ → PlainRow
row_at form content layer at = row_of form (cells_of form content layer at)

-- the table: the rows of each layer that are there
unfoldable pub table_of : Form → Content → List (List PlainRow)
table_of form content = listed (layer_count form) (λ layer. listed (row_count content layer) (λ at. row_at form content layer at))
