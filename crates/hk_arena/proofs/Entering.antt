-- Entries in the words of a row.
use Rattle.std.proofs.Common.{◌≡◌, ℕ, zero, suc, ◌+◌, ◌<◌, List, [], ◌∷◌, length, map, get_or, set, refl, sym, ◌∙◌, ap, ap₂, ◌==◌, None, Some, arith, get_or-set_other}
use Rattle.std.specs.Prelude.{if◌then◌else◌}
use Rattle.std.proofs.Math.ListN.{get_or-map}
use Rattle.hk_table.specs.Tables.{PlainRow}
use Rattle.hk_table.specs.declared.entries.Entry.{Entry}
use Rattle.hk_table.specs.declared.entries.Entry.TheVariants.{Gone}
use Rattle.hk_trail.specs.Pools.{Content}
use Rattle.hk_arena.proofs.Framing.{there, row_in-table_of, IsOneRow-word, cells_of-word, table_of-one_row, IsKept-one_row}
use Rattle.hk_arena.proofs.Parts.{get_or-part}
use Rattle.hk_arena.proofs.Places.{words_within}
use Rattle.hk_arena.specs.Changes.{with_row, with_entry}
use Rattle.hk_arena.specs.Diagrams.{values_of, IsEntry, row_in}
use Rattle.hk_arena.specs.declared.ids.EntryId.{EntryId}
use Rattle.hk_arena.specs.Cells.{entry_of, rest_of, cells_of, entries_of, row_of, row_at, table_of}
use Rattle.hk_arena.specs.Forms.{Form, nums_in, sets_in, row_words, words_at}
use Rattle.hk_arena.specs.Kept.{IsKept}
use Rattle.hk_arena.specs.Properties.{state_at}

get_or-rest_of : (words : List ℕ) (at : ℕ) → get_or (rest_of words) at 0 ≡ get_or words (1 + at) 0
get_or-rest_of [] at = refl
get_or-rest_of (word ∷ words) at = let next : 1 + at ≡ suc at = omega arith in sym (ap (λ k. get_or (word ∷ words) k 0) next)

-- the entries that words hold
entries_of-at : (words : List ℕ) (at : ℕ) → get_or (entries_of words) at Gone ≡ entry_of (get_or words (1 + at) 0)
unfolding entry_of
entries_of-at words at = get_or-map entry_of (rest_of words) at 0 ∙ ap entry_of (get_or-rest_of words at)

-- an entry of a row is in its word
pub entry_at : (form : Form) (content : Content) (layer at place : ℕ) → place < length (values_of form.shape layer) → get_or (row_at form content layer at).entries place Gone ≡ entry_of (get_or content.words (words_at form layer at + (1 + place)) 0)
unfolding row_at
entry_at form content layer at place within =
    entries_of-at (cells_of form content layer at).words place
    ∙ ap entry_of (get_or-part (words_at form layer at) (row_words form layer) content.words (1 + place) 0 (omega arith))

-- an entry of the table is in its word
pub entry_in : (form : Form) (content : Content) (id : EntryId) → IsKept form content → IsEntry form.shape (table_of form content) id → get_or (row_in (table_of form content) id.row).entries id.at Gone ≡ entry_of (get_or content.words (words_at form id.row.layer id.row.at + (1 + id.at)) 0)
entry_in form content id kept is =
    ap (λ (row : PlainRow). get_or row.entries id.at Gone) (row_in-table_of form content id.row (there form content id.row kept is.row))
    ∙ entry_at form content id.row.layer id.row.at id.at is.place

map-set : {X Y : Type 0} (change : X → Y) (items : List X) (at : ℕ) (item : X) → map change (set items at item) ≡ set (map change items) at (change item)
map-set change [] at item = refl
map-set change (first ∷ items) zero item = refl
map-set change (first ∷ items) (suc at) item = ap (λ rest. change first ∷ rest) (map-set change items at item)

-- a write of a word that isn't the first one writes an entry
entries_of-set : (words : List ℕ) (at word : ℕ) → entries_of (set words (1 + at) word) ≡ set (entries_of words) at (entry_of word)
entries_of-set [] at word = refl
entries_of-set (first ∷ words) at word =
    let next : 1 + at ≡ suc at = omega arith in
    ap (λ k. entries_of (set (first ∷ words) k word)) next ∙ map-set entry_of words at word

-- such a write leaves what the row has besides its entries
row_of-word : (form : Form) (cells : Content) (at word : ℕ) → row_of form (record cells { words = set cells.words (1 + at) word }) ≡ with_entry at (entry_of word) (row_of form cells)
row_of-word form cells at word =
    let row : ℕ → List Entry → PlainRow = λ first entries. record (row_of form cells) {
      up = if first == 0 then None else Some (state_at form.shape.up (nums_in form.shape.down) (2 + sets_in form.shape.down) cells.nums cells.bits);
      entries = entries;
    } in
    ap₂ row (get_or-set_other cells.words (1 + at) 0 word 0 (omega arith)) (entries_of-set cells.words at word)

-- the word of an entry is there
pub entry_lies : (form : Form) (content : Content) (id : EntryId) → IsKept form content → IsEntry form.shape (table_of form content) id → words_at form id.row.layer id.row.at + (1 + id.at) < length content.words
entry_lies form content id kept is =
    let within = words_within form id.row.layer id.row.at (there form content id.row kept is.row).place in
    let place = is.place in
    omega (arith, kept.words)

-- what a write of an entry's word makes of the cells and of the table
pub record IsEntryWritten (form : Form) (id : EntryId) (entry : Entry) (old new : Content) : Type 0 where
  pub kept : IsKept form new
  pub table : table_of form new ≡ with_row id.row (with_entry id.at entry) (table_of form old)

pub entry_written : (form : Form) (content : Content) (id : EntryId) (word : ℕ) → IsKept form content → IsEntry form.shape (table_of form content) id → IsEntryWritten form id (entry_of word) content (record content { words = set content.words (words_at form id.row.layer id.row.at + (1 + id.at)) word })
entry_written form content id word kept is =
    let row = there form content id.row kept is.row in
    let place = is.place in
    let below : 1 + id.at < row_words form id.row.layer = omega arith in
    let one = IsOneRow-word form id.row.layer id.row.at (1 + id.at) content word row.place below in
    record {
      kept = IsKept-one_row form id.row.layer id.row.at content _ kept one row.within kept.limits kept.sets;
      table = table_of-one_row form id.row.layer id.row.at (with_entry id.at (entry_of word)) content _ kept one (λ there_now.
          ap (row_of form) (cells_of-word form id.row.layer id.row.at (1 + id.at) content word below)
          ∙ row_of-word form (cells_of form content id.row.layer id.row.at) id.at word);
    }
