-- What a layout reads.
use Rattle.std.proofs.Common.{◌≡◌, ℕ, ◌+◌, ◌*◌, ◌^◌, ◌<◌, List, length, get_or, sym, ◌∙◌, ap, subst, arith}
use Rattle.hk_arena.proofs.Listing.{length-listed, get_or-listed}
use Rattle.hk_arena.proofs.Places.{row_place-same, nums_within, bits_within, words_within}
use Rattle.hk_arena.specs.Diagrams.{values_of}
use Rattle.hk_arena.specs.Cells.{listed}
use Rattle.hk_arena.specs.Forms.{Form, layer_count, row_nums, row_bits, row_words, row_place, nums_at, bits_at, words_at}
use Rattle.hk_arena.specs.Layouts.{IsLayout}
use Rattle.hk_arena.specs.inside.OneRow.{IsPlace}

-- an item that was read of a list that a rule gives
pub listed_read : (count : ℕ) (item : ℕ → ℕ) (items : List ℕ) (at read : ℕ) → items ≡ listed count item → at < count → read ≡ get_or items at read → read ≡ item at
listed_read count item items at read are within is = is ∙ ap (λ list. get_or list at read) are ∙ get_or-listed count item at read within

-- a row's words begin so far from those of its layer
pub words_at-more : (form : Form) (layer at : ℕ) → words_at form layer 0 + at * row_words form layer ≡ words_at form layer at
unfolding row_place
words_at-more form layer at = omega arith

-- what a layout keeps, of the form that contracts see
pub seen : {form view : Form} {nums bits up_num up_set : ℕ} {values words : List ℕ} → IsLayout form nums bits up_num up_set values words → form ≡ view → IsLayout view nums bits up_num up_set values words
seen {nums = nums} {bits = bits} {up_num = up_num} {up_set = up_set} {values = values} {words = words} is same = subst (λ f. IsLayout f nums bits up_num up_set values words) same is

-- a layout has an item for each layer in each of its lists
pub record HasLayers (form : Form) (values words : List ℕ) : Type 0 where
  pub all_values : length values ≡ layer_count form
  pub all_words : length words ≡ layer_count form

pub layers_of : {form : Form} {nums bits up_num up_set : ℕ} {values words : List ℕ} → IsLayout form nums bits up_num up_set values words → HasLayers form values words
layers_of {form = form} is = record {
  all_values = ap length is.all_values ∙ length-listed (layer_count form) (λ layer. length (values_of form.shape layer));
  all_words = ap length is.all_words ∙ length-listed (layer_count form) (λ layer. words_at form layer 0);
}

-- the first of a row's cells, which with all of them fits in 32 bits
pub record IsFirst (place size first : ℕ) : Type 0 where
  pub is : first ≡ place
  pub fits : first + size < 2 ^ 32

pub first_num_is : {form view : Form} {nums bits up_num up_set layer at : ℕ} {values words : List ℕ} → IsLayout form nums bits up_num up_set values words → form ≡ view → IsPlace view layer at → IsFirst (nums_at view layer at) (row_nums view) ((layer * form.width + at) * nums)
first_num_is {form = form} {nums = nums} {layer = layer} {at = at} is same =
    let first : IsPlace form layer at → IsFirst (nums_at form layer at) (row_nums form) ((layer * form.width + at) * nums) = λ place.
    let place_is = ap (λ size. (layer * form.width + at) * size) is.num_size ∙ sym (row_place-same (row_nums form) form.width layer at) in
    let within = nums_within form layer at place in
    record { is = place_is; fits = omega (arith, is.small.nums) } in
    subst (λ f. IsPlace f layer at → IsFirst (nums_at f layer at) (row_nums f) ((layer * form.width + at) * nums)) same first

pub first_bits_is : {form view : Form} {nums bits up_num up_set layer at : ℕ} {values words : List ℕ} → IsLayout form nums bits up_num up_set values words → form ≡ view → IsPlace view layer at → IsFirst (bits_at view layer at) (row_bits view) ((layer * form.width + at) * bits)
first_bits_is {form = form} {bits = bits} {layer = layer} {at = at} is same =
    let first : IsPlace form layer at → IsFirst (bits_at form layer at) (row_bits form) ((layer * form.width + at) * bits) = λ place.
    let place_is = ap (λ size. (layer * form.width + at) * size) is.bits_size ∙ sym (row_place-same (row_bits form) form.width layer at) in
    let within = bits_within form layer at place in
    record { is = place_is; fits = omega (arith, is.small.bits) } in
    subst (λ f. IsPlace f layer at → IsFirst (bits_at f layer at) (row_bits f) ((layer * form.width + at) * bits)) same first

-- a row's words begin where its layer's do, and so many rows on
pub first_word_is : {form : Form} {nums bits up_num up_set layer at first count : ℕ} {values words : List ℕ} → IsLayout form nums bits up_num up_set values words → IsPlace form layer at → first ≡ get_or words layer first → count ≡ length (values_of form.shape layer) → IsFirst (words_at form layer at) (row_words form layer) (first + at * (1 + count))
first_word_is {form = form} {layer = layer} {at = at} {first = first} {count = count} {words = words} is place read values =
    let start = listed_read (layer_count form) (λ l. words_at form l 0) words layer first is.all_words place.layer_within read in
    let taken = ap (λ size. at * (1 + size)) values in
    let more = words_at-more form layer at in
    let within = words_within form layer at place in
    record { is = omega arith; fits = omega (arith, is.small.words) }
