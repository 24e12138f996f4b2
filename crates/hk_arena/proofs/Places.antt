-- Where the rows of a form lie: apart from one another, and within the pools.
use Rattle.std.proofs.Common.{◌≡◌, ◌≢◌, ℕ, zero, suc, ◌+◌, ◌*◌, ◌<◌, ◌≤◌, ◌⊎◌, sym, inl, inr, arith, mul-le-mul_right}
use Rattle.std.proofs.lemmas.Bool.{cases_eq, cases_lt}
use Rattle.hk_arena.specs.Forms.{Form, layer_count, row_nums, row_bits, row_words, begin, row_place, nums_at, bits_at, words_at, num_count, bits_count, word_count}
use Rattle.hk_arena.specs.inside.OneRow.{IsPlace}

-- the layers before one take no more than where it begins
pub begin_past : (size : ℕ → ℕ) (layer count : ℕ) → layer < count → begin size layer + size layer ≤ begin size count
begin_past size layer zero below = absurd (omega arith)
begin_past size layer (suc count) below = elim (cases_eq layer count) [
  | inl same ↦ rw same (omega arith)
  | inr apart ↦ let before = begin_past size layer count (omega arith) in omega arith
]

-- a row of a layer ends where the layer does or before
row_end : (size width at : ℕ) → at < width → at * size + size ≤ width * size
row_end size width at within = let whole : suc at * size ≤ width * size = mul-le-mul_right size within in omega (arith, whole)

-- a row ends where a later row begins or before
rows_in_order : (size : ℕ → ℕ) (width l r layer at : ℕ) → r < width → (l < layer) ⊎ ((l ≡ layer) × (r < at)) → row_place size width l r + size l ≤ row_place size width layer at
unfolding row_place
rows_in_order size width l r layer at within (inl below) =
    let past = begin_past (λ k. width * size k) l layer below in
    let ends = row_end (size l) width r within in
    omega arith
rows_in_order size width l r layer at within (inr here) = rw here.0 (let ends = row_end (size layer) at r here.1 in omega arith)

-- of two different rows one ends where the other begins or before
pub row_place-apart : (size : ℕ → ℕ) (width l r layer at : ℕ) → r < width → at < width → ((l ≡ layer) × (r ≡ at) → ⊥) → (row_place size width l r + size l ≤ row_place size width layer at) ⊎ (row_place size width layer at + size layer ≤ row_place size width l r)
row_place-apart size width l r layer at r_within at_within apart = elim (cases_lt l layer) [
  | inl below ↦ inl (rows_in_order size width l r layer at r_within (inl below))
  | inr not_below ↦ elim (cases_lt layer l) [
    | inl above ↦ inr (rows_in_order size width layer at l r at_within (inl above))
    | inr not_above ↦
        let same : l ≡ layer = omega arith in
        elim (cases_lt r at) [
          | inl before ↦ inl (rows_in_order size width l r layer at r_within (inr (same, before)))
          | inr not_before ↦ inr (rows_in_order size width layer at l r at_within (inr (sym same, let other : r ≢ at = λ equal. apart (same, equal) in omega arith)))
        ]
  ]
]

-- a row ends where its pool does or before
pub row_place-within : (size : ℕ → ℕ) (width count layer at : ℕ) → layer < count → at < width → row_place size width layer at + size layer ≤ row_place size width count 0
row_place-within size width count layer at below within = rows_in_order size width layer at count 0 within (inl below)

-- where rows of one size begin
begin_same : (size count : ℕ) → begin (λ l. size) count ≡ count * size
begin_same size zero = omega arith
begin_same size (suc count) = let before = begin_same size count in omega arith

pub row_place-same : (size width layer at : ℕ) → row_place (λ l. size) width layer at ≡ (layer * width + at) * size
unfolding row_place
row_place-same size width layer at = let first = begin_same (width * size) layer in grind arith

-- the cells of a row lie within the pools
pub nums_within : (form : Form) (layer at : ℕ) → IsPlace form layer at → nums_at form layer at + row_nums form ≤ num_count form
nums_within form layer at place = row_place-within (λ l. row_nums form) form.width (layer_count form) layer at place.layer_within place.row_within

pub bits_within : (form : Form) (layer at : ℕ) → IsPlace form layer at → bits_at form layer at + row_bits form ≤ bits_count form
bits_within form layer at place = row_place-within (λ l. row_bits form) form.width (layer_count form) layer at place.layer_within place.row_within

pub words_within : (form : Form) (layer at : ℕ) → IsPlace form layer at → words_at form layer at + row_words form layer ≤ word_count form
words_within form layer at place =
    let within = row_place-within (row_words form) form.width (layer_count form) layer at place.layer_within place.row_within in
    omega arith
