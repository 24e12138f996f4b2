-- Writes of cells: which cells may have changed, and how many were written.
use Rattle.std.specs.Prelude.{◌≡◌, ℕ, ◌+◌, ◌<◌, ◌≤◌, ◌^◌, List, length, map, slice_index_or, All}
use Rattle.hk_kinds.specs.Limits.{IsWithinLimit}
use Rattle.hk_kinds.specs.Sets.{IsSet}
use Rattle.hk_trail.specs.Levels.{Levels}
use Rattle.hk_trail.specs.Places.{cell_count}
use Rattle.hk_trail.specs.Pools.{Content, Pools}
use Rattle.hk_arena.specs.Changes.{IsRowChanged}
use Rattle.hk_arena.specs.Numbers.{IsRaised}
use Rattle.hk_table.specs.Tables.{PlainRow}
use Rattle.hk_table.specs.declared.entries.Entry.{Entry}
use Rattle.hk_arena.specs.declared.ids.RowId.{RowId}
use Rattle.hk_arena.specs.Cells.{table_of}
use Rattle.hk_arena.specs.Forms.{Form, row_nums, row_bits, row_words, nums_at, bits_at, words_at}
use Rattle.hk_arena.specs.Kept.{IsKept}

-- some cells of a pool: so many from a place on
pub record Span : Type 0 where
  pub first : ℕ
  pub count : ℕ

-- some cells of each pool
abbrev pub Spans : Type 0
Spans = Pools Span Span Span

-- no cell of a pool
abbrev pub no_span : Span
no_span = record { first = 0; count = 0 }

-- some numbers and some sets
abbrev pub state_spans : ℕ → ℕ → ℕ → ℕ → Spans
state_spans num nums set sets = record { nums = record { first = num; count = nums }; bits = record { first = set; count = sets }; words = no_span }

-- one word
abbrev pub word_spans : ℕ → Spans
word_spans word = record { nums = no_span; bits = no_span; words = record { first = word; count = 1 } }

-- all cells of a row
abbrev pub row_spans : Form → ℕ → ℕ → Spans
row_spans form layer at = record {
  nums = record { first = nums_at form layer at; count = row_nums form };
  bits = record { first = bits_at form layer at; count = row_bits form };
  words = record { first = words_at form layer at; count = row_words form layer };
}

-- a place isn't among the cells
abbrev pub IsOutside : Span → ℕ → Type 0
IsOutside span place = span.first ≤ place → place < span.first + span.count → ⊥

-- a pool has as many cells as before, and all but some hold what they held
pub record IsChangedWithin {X : Type 0} (span : Span) (old new : List X) : Type 0 where
  pub long : length new ≡ length old
  pub others : (place : ℕ) (d : X) → IsOutside span place → slice_index_or new place d ≡ slice_index_or old place d

-- all cells but some hold what they held; numbers stay within the limit, and sets have values below 128
pub record IsTouched (spans : Spans) (old new : Content) : Type 0 where
  pub nums : IsChangedWithin spans.nums old.nums new.nums
  pub bits : IsChangedWithin spans.bits old.bits new.bits
  pub words : IsChangedWithin spans.words old.words new.words
  pub limits : All IsWithinLimit old.nums → All IsWithinLimit new.nums
  pub sets : All IsSet old.bits → All IsSet new.bits

-- a store has the same levels, of which the highest wrote no more than so many cells more, and those are among some
pub record IsWritten (spans : Spans) (most : ℕ) (old new : Levels) : Type 0 where
  pub touched : IsTouched spans old.content new.content
  pub stack : new.stack ≡ old.stack
  pub raised : IsRaised most (map cell_count old.written) (map cell_count new.written)

-- the cells are there, in pools whose places are numbers below 2^32
pub record HasRoom (spans : Spans) (content : Content) : Type 0 where
  pub nums : spans.nums.first + spans.nums.count ≤ length content.nums
  pub bits : spans.bits.first + spans.bits.count ≤ length content.bits
  pub few_nums : length content.nums < 2 ^ 32
  pub few_bits : length content.bits < 2 ^ 32

-- a store has the same levels, of which the highest wrote no more than so many cells more; its cells are kept, and its
-- table is another one but for one row, which is any that fits
pub record IsRowWritten (form : Form) (row : RowId) (most : ℕ) (old new : Levels) : Type 0 where
  pub kept : IsKept form new.content
  pub changed : IsRowChanged form.shape row (table_of form old.content) (table_of form new.content)
  pub stack : new.stack ≡ old.stack
  pub raised : IsRaised most (map cell_count old.written) (map cell_count new.written)

-- a row with other entries
abbrev pub with_entries : List Entry → PlainRow → PlainRow
with_entries entries row = record row { entries = entries }
