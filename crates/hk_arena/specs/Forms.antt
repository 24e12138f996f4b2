-- Where the cells of a diagram lie. Each layer has as many rows as the width allows, whether they are there or not, and
-- the cells of a row lie together in each pool. The words begin with one number of rows for each layer.
use Rattle.std.specs.Prelude.{ℕ, zero, suc, ◌+◌, ◌*◌, List, [], ◌∷◌, length}
use Rattle.hk_kinds.specs.declared.kinds.Kind.{Kind}
use Rattle.hk_kinds.specs.declared.kinds.Kind.TheVariants.{Min, Max, Interval, SomeBits, AllBits}
use Rattle.hk_table.specs.Tables.{PlainShape}
use Rattle.hk_arena.specs.Diagrams.{values_of}

-- what a diagram is made for
pub record Form : Type 0 where
  pub shape : PlainShape
  pub width : ℕ

-- how many layers there are, with the last
abbrev pub layer_count : Form → ℕ
layer_count form = suc (length form.shape.domains)

-- how many cells of `i64` a property of a kind takes
abbrev pub kind_nums : Kind → ℕ
kind_nums Min = 1
kind_nums Max = 1
kind_nums Interval = 2
kind_nums SomeBits = 0
kind_nums AllBits = 0

-- how many cells of `i64` a state takes
abbrev pub nums_in : List Kind → ℕ
nums_in [] = 0
nums_in (kind ∷ kinds) = kind_nums kind + nums_in kinds

-- how many cells of `u128` a property of a kind takes
abbrev pub kind_sets : Kind → ℕ
kind_sets Min = 0
kind_sets Max = 0
kind_sets Interval = 0
kind_sets SomeBits = 1
kind_sets AllBits = 1

-- how many cells of `u128` a state takes
abbrev pub sets_in : List Kind → ℕ
sets_in [] = 0
sets_in (kind ∷ kinds) = kind_sets kind + sets_in kinds

-- how many cells of `i64` a row takes: those of its down state and of its up state
abbrev pub row_nums : Form → ℕ
row_nums form = nums_in form.shape.down + nums_in form.shape.up

-- how many cells of `u128` a row takes: two halves of the set of rows that it comes from, and those of its down state
-- and of its up state
abbrev pub row_bits : Form → ℕ
row_bits form = 2 + (sets_in form.shape.down + sets_in form.shape.up)

-- how many words a row of a layer takes: one says whether it has an up state, and its entries take one each
abbrev pub row_words : Form → ℕ → ℕ
row_words form layer = 1 + length (values_of form.shape layer)

-- where the cells of a layer begin, if a layer takes this many
abbrev pub begin : (ℕ → ℕ) → ℕ → ℕ
begin size zero = 0
begin size (suc layer) = begin size layer + size layer

-- where the cells of a row begin, if a row of a layer takes this many
unfoldable pub row_place : (ℕ → ℕ) → ℕ → ℕ → ℕ → ℕ
row_place size width layer at = begin (λ l. width * size l) layer + at * size layer

-- the first of a row's cells of `i64`
abbrev pub nums_at : Form → ℕ → ℕ → ℕ
nums_at form layer at = row_place (λ l. row_nums form) form.width layer at

-- the first of a row's cells of `u128`
abbrev pub bits_at : Form → ℕ → ℕ → ℕ
bits_at form layer at = row_place (λ l. row_bits form) form.width layer at

-- the first of a row's words
abbrev pub words_at : Form → ℕ → ℕ → ℕ
words_at form layer at = layer_count form + row_place (row_words form) form.width layer at

-- how many cells of `i64` there are
abbrev pub num_count : Form → ℕ
num_count form = nums_at form (layer_count form) 0

-- how many cells of `u128` there are
abbrev pub bits_count : Form → ℕ
bits_count form = bits_at form (layer_count form) 0

-- how many words there are
abbrev pub word_count : Form → ℕ
word_count form = words_at form (layer_count form) 0
