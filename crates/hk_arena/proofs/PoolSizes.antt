-- How many cells of each pool a layout counts.
use Rattle.std.proofs.Common.{◌≡◌, ℕ, suc, ◌+◌, ◌*◌, ◌^◌, ◌<◌, ◌≤◌, List, [], length, get_or, sym, ◌∙◌, ap, subst, inl, inr, arith}
use Rattle.std.proofs.lemmas.Bool.{cases_lt}
use Rattle.std.proofs.lemmas.List.{get_or_past, length-map}
use Rattle.hk_table.proofs.ValueSets.{members_few}
use Rattle.hk_table.specs.Tables.{PlainShape, layer_values}
use Rattle.hk_text.specs.Sets.{members}
use Rattle.hk_arena.proofs.CellCounts.{values_of-last, values_of-set, words_at-next}
use Rattle.hk_arena.proofs.Layouts.{listed_read}
use Rattle.hk_arena.proofs.Places.{row_place-same}
use Rattle.hk_arena.specs.Diagrams.{values_of}
use Rattle.hk_arena.specs.Forms.{Form, layer_count, row_nums, row_bits, row_words, words_at, num_count, bits_count, word_count}
use Rattle.hk_arena.specs.Layouts.{IsLayout}

-- a pool's size, as it is counted: so many rows of so many cells
pub record IsPoolSize (pool rows size : ℕ) : Type 0 where
  pub fits : rows * size < 2 ^ 32
  pub is : rows * size ≡ pool

pool_size : (form : Form) (size layers count : ℕ) → layers ≡ layer_count form → size ≡ count → (layer_count form * form.width + 0) * count < 2 ^ 32 → IsPoolSize ((layer_count form * form.width + 0) * count) (layers * form.width) size
pool_size form size layers count layers_are size_is fits =
    let rows : layers * form.width ≡ layer_count form * form.width + 0 = omega (arith, ap (λ n. n * form.width) layers_are) in
    let all : layers * form.width * size ≡ (layer_count form * form.width + 0) * count = ap (λ n. layers * form.width * n) size_is ∙ ap (λ n. n * count) rows in
    record { fits = omega arith; is = all }

pub num_count_is : {form view : Form} {nums bits up_num up_set layers : ℕ} {values words : List ℕ} → IsLayout form nums bits up_num up_set values words → form ≡ view → layers ≡ layer_count view → IsPoolSize (num_count view) (layers * form.width) nums
num_count_is {form = form} {nums = nums} {layers = layers} is same =
    let count = row_place-same (row_nums form) form.width (layer_count form) 0 in
    let size : layers ≡ layer_count form → IsPoolSize (num_count form) (layers * form.width) nums = λ layers_are.
    subst (λ pool. IsPoolSize pool (layers * form.width) nums) (sym count) (pool_size form nums layers (row_nums form) layers_are is.num_size (omega (arith, is.small.nums))) in
    subst (λ f. layers ≡ layer_count f → IsPoolSize (num_count f) (layers * form.width) nums) same size

pub bits_count_is : {form view : Form} {nums bits up_num up_set layers : ℕ} {values words : List ℕ} → IsLayout form nums bits up_num up_set values words → form ≡ view → layers ≡ layer_count view → IsPoolSize (bits_count view) (layers * form.width) bits
bits_count_is {form = form} {bits = bits} {layers = layers} is same =
    let count = row_place-same (row_bits form) form.width (layer_count form) 0 in
    let size : layers ≡ layer_count form → IsPoolSize (bits_count form) (layers * form.width) bits = λ layers_are.
    subst (λ pool. IsPoolSize pool (layers * form.width) bits) (sym count) (pool_size form bits layers (row_bits form) layers_are is.bits_size (omega (arith, is.small.bits))) in
    subst (λ f. layers ≡ layer_count f → IsPoolSize (bits_count f) (layers * form.width) bits) same size

-- the words of the last layer are the last ones: one for each row
pub word_count_is : {form : Form} {nums bits up_num up_set last first : ℕ} {values words : List ℕ} → IsLayout form nums bits up_num up_set values words → suc last ≡ layer_count form → first ≡ get_or words last first → first + form.width ≡ word_count form
word_count_is {form = form} {last = last} {first = first} {words = words} is last_is read =
    let start = listed_read (layer_count form) (λ l. words_at form l 0) words last first is.all_words (omega arith) read in
    let place : last ≡ length form.shape.domains = omega arith in
    let none : length (values_of form.shape last) ≡ 0 = ap (λ l. length (values_of form.shape l)) place ∙ ap length (values_of-last form.shape) in
    let words : form.width * row_words form last ≡ form.width * 1 = ap (λ n. form.width * (1 + n)) none in
    let next : words_at form (last + 1) 0 ≡ word_count form = ap (λ l. words_at form l 0) (omega arith) in
    omega (arith, words_at-next form last)

-- a layer has at most 128 values
pub values_few : (shape : PlainShape) (layer : ℕ) → length (values_of shape layer) ≤ 128
values_few shape layer = elim (cases_lt layer (length shape.domains)) [
  | inl within ↦ rw (values_of-set shape layer 0 within) (members_few (get_or shape.domains layer 0))
  | inr past ↦ let none = ap length (get_or_past (layer_values shape) layer [] (omega (arith, length-map shape.domains members))) in omega arith
]
