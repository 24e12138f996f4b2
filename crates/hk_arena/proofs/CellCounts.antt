-- How many cells a diagram takes, and where the words of a layer begin.
use Rattle.std.proofs.Common.{◌≡◌, ℕ, zero, suc, ◌+◌, ◌*◌, ◌^◌, ◌<◌, ◌≤◌, List, [], ◌∷◌, ◌++◌, length, get_or, take, refl, sym, ◌∙◌, ap, ap₂, inl, inr, arith, add-one, mul-le-mul_left, mul_comm, le-mul_of_pos_right}
use Rattle.std.specs.List.{sum_by}
use Rattle.std.proofs.Math.Nat.{one-le-mul}
use Rattle.std.proofs.lemmas.Bool.{cases_lt}
use Rattle.std.proofs.lemmas.List.{get_or_past, get_or-map, length-map, take_all}
use Rattle.std.proofs.lemmas.List.Sums.{sum_by_more, sum_by-take-le}
use Rattle.std.proofs.lemmas.Nat.{mul-le}
use Rattle.hk_kinds.specs.declared.kinds.Kind.{Kind}
use Rattle.hk_kinds.specs.declared.kinds.Kind.TheVariants.{Min, Max, Interval, SomeBits, AllBits}
use Rattle.hk_table.specs.Tables.{PlainShape, layer_values}
use Rattle.hk_text.specs.Sets.{members}
use Rattle.hk_arena.proofs.Places.{begin_past, row_place-same}
use Rattle.hk_arena.specs.Diagrams.{values_of}
use Rattle.hk_arena.specs.Making.{IsMakeable}
use Rattle.hk_arena.specs.Cells.{listed}
use Rattle.hk_arena.specs.Forms.{Form, layer_count, nums_in, sets_in, row_nums, row_bits, row_words, begin, row_place, words_at, word_count}
use Rattle.hk_arena.specs.Kept.{IsSmall}

-- a state takes at most two numbers and one set a property
pub nums_in-le : (kinds : List Kind) → nums_in kinds ≤ 2 * length kinds
nums_in-le [] = omega arith
nums_in-le (Min ∷ kinds) = omega (arith, nums_in-le kinds)
nums_in-le (Max ∷ kinds) = omega (arith, nums_in-le kinds)
nums_in-le (Interval ∷ kinds) = omega (arith, nums_in-le kinds)
nums_in-le (SomeBits ∷ kinds) = omega (arith, nums_in-le kinds)
nums_in-le (AllBits ∷ kinds) = omega (arith, nums_in-le kinds)

pub sets_in-le : (kinds : List Kind) → sets_in kinds ≤ length kinds
sets_in-le [] = omega arith
sets_in-le (Min ∷ kinds) = omega (arith, sets_in-le kinds)
sets_in-le (Max ∷ kinds) = omega (arith, sets_in-le kinds)
sets_in-le (Interval ∷ kinds) = omega (arith, sets_in-le kinds)
sets_in-le (SomeBits ∷ kinds) = omega (arith, sets_in-le kinds)
sets_in-le (AllBits ∷ kinds) = omega (arith, sets_in-le kinds)

-- one item more
listed-suc : {X : Type 0} (count : ℕ) (item : ℕ → X) → listed (suc count) item ≡ listed count item ++ item count ∷ []
listed-suc zero item = refl
listed-suc (suc count) item = ap (λ items. item 0 ∷ items) (listed-suc count (λ at. item (suc at)))

-- a list that a rule gives so far, with the next item put at its end
pub listed_pushed : (count : ℕ) (item : ℕ → ℕ) (old new : List ℕ) (next : ℕ) → new ≡ old ++ next ∷ [] → old ≡ listed count item → next ≡ item count → new ≡ listed (count + 1) item
listed_pushed count item old new next pushed so_far is =
    let more : listed (count + 1) item ≡ listed count item ++ item count ∷ [] = rw (add-one count) (listed-suc count item) in
    pushed ∙ ap₂ (λ items last. items ++ last ∷ []) so_far is ∙ sym more

-- the values of a layer are those of its set, and the last layer has none
pub values_of-set : (shape : PlainShape) (layer d : ℕ) → layer < length shape.domains → values_of shape layer ≡ members (get_or shape.domains layer d)
values_of-set shape layer d within = get_or-map members shape.domains layer d [] within

pub values_of-last : (shape : PlainShape) → values_of shape (length shape.domains) ≡ []
values_of-last shape = get_or_past (layer_values shape) (length shape.domains) [] (omega (arith, length-map shape.domains members))

-- a layer that has a value isn't the last
pub values_of-some : (shape : PlainShape) (layer at : ℕ) → at < length (values_of shape layer) → layer < length shape.domains
values_of-some shape layer at some = elim (cases_lt layer (length shape.domains)) [
  | inl within ↦ within
  | inr past ↦ let none = ap length (get_or_past (layer_values shape) layer [] (omega (arith, length-map shape.domains members))) in absurd (omega arith)
]

-- the words of the first layer come after the numbers of rows
pub words_at-first : (form : Form) → words_at form 0 0 ≡ layer_count form
unfolding row_place
words_at-first form = omega arith

-- the words of a layer begin where those of the layer before it end, which is within the pool
pub words_at-next : (form : Form) (layer : ℕ) → words_at form (layer + 1) 0 ≡ words_at form layer 0 + form.width * row_words form layer
unfolding row_place
words_at-next form layer = rw (add-one layer) (omega arith)

pub layer_within : (form : Form) (layer : ℕ) → layer < layer_count form → words_at form layer 0 + form.width * row_words form layer ≤ word_count form
unfolding row_place
layer_within form layer below = let past = begin_past (λ l. form.width * row_words form l) layer (layer_count form) below in omega arith

-- the layers before one have so many values
values_more : (values : List (List ℕ)) (n : ℕ) → sum_by length (take (n + 1) values) ≡ sum_by length (take n values) + length (get_or values n [])
values_more values n = elim (cases_lt n (length values)) [
  | inl within ↦ sum_by_more length values n [] within
  | inr past ↦
      let whole : take (n + 1) values ≡ values = take_all (n + 1) values (omega arith) in
      rw (whole, take_all n values past, get_or_past values n [] past) (omega arith)
]

words_before : (shape : PlainShape) (width n : ℕ) → begin (λ l. width * row_words (record { shape = shape; width = width }) l) n ≡ n * width + width * sum_by length (take n (layer_values shape))
words_before shape width zero = omega arith
words_before shape width (suc n) = let before = words_before shape width n in let more = values_more (layer_values shape) n in rw (← add-one n, more) (grind arith)

-- what a diagram is made for is small
pub small_form : (shape : PlainShape) (width : ℕ) → IsMakeable shape width → IsSmall (record { shape = shape; width = width })
unfolding row_place
small_form shape width makeable =
    let form : Form = record { shape = shape; width = width } in
    let rows = layer_count form * width in
    let few : rows ≤ 257 * 256 = mul-le (layer_count form) width 257 256 (omega (arith, makeable.few_layers)) makeable.few_rows in
    let both = length shape.down + length shape.up in
    let nums_few : row_nums form ≤ 2 * both = omega (arith, nums_in-le shape.down, nums_in-le shape.up) in
    let bits_few : row_bits form ≤ 2 + both = omega (arith, sets_in-le shape.down, sets_in-le shape.up) in
    let properties : rows * both ≤ 8000000 = let most = makeable.properties in grind arith in
    let nums : rows * row_nums form ≤ rows * (2 * both) = mul-le-mul_left rows nums_few in
    let bits : rows * row_bits form ≤ rows * (2 + both) = mul-le-mul_left rows bits_few in
    let values : width * sum_by length (take (layer_count form) (layer_values shape)) ≤ width * sum_by length (layer_values shape) = mul-le-mul_left width (sum_by-take-le length (layer_values shape) (layer_count form)) in record {
      some = makeable.some_width;
      width = makeable.few_rows;
      layers = omega (arith, makeable.few_layers);
      nums = let all = row_place-same (row_nums form) width (layer_count form) 0 in grind arith;
      bits = let all = row_place-same (row_bits form) width (layer_count form) 0 in grind arith;
      words = let all = words_before shape width (layer_count form) in omega (arith, makeable.entries);
    }

-- the values of the set at a place are those of its layer
pub count_of-set : (shape : PlainShape) (sets : List ℕ) (at count : ℕ) → sets ≡ shape.domains → at < length sets → count ≡ length (members (get_or sets at 0)) → count ≡ length (values_of shape at)
count_of-set shape sets at count sets_are within is =
    let below : at < length shape.domains = omega (arith, ap length sets_are) in
    is ∙ ap (λ sets. length (members (get_or sets at 0))) sets_are ∙ ap length (sym (values_of-set shape at 0 below))

-- where the words of the layer after one begin, and that it fits
pub record NextWords (form : Form) (at count : ℕ) : Type 0 where
  pub one : 1 + count < 2 ^ 32
  pub size : form.width * (1 + count) < 2 ^ 32
  pub fits : words_at form at 0 + form.width * (1 + count) < 2 ^ 32
  pub next : words_at form at 0 + form.width * (1 + count) ≡ words_at form (at + 1) 0

pub next_words : (shape : PlainShape) (width : ℕ) (sets : List ℕ) (at count : ℕ) → IsMakeable shape width → sets ≡ shape.domains → at < length sets → count ≡ length (members (get_or sets at 0)) → NextWords (record { shape = shape; width = width }) at count
next_words shape width sets at count makeable sets_are within is =
    let form : Form = record { shape = shape; width = width } in
    let here = count_of-set shape sets at count sets_are within is in
    let size : width * (1 + count) ≡ width * row_words form at = ap (λ n. width * (1 + n)) here in
    let room = layer_within form at (omega (arith, ap length sets_are)) in
    let small = small_form shape width makeable in
    let most : 1 + count ≤ (1 + count) * width = le-mul_of_pos_right (1 + count) makeable.some_width in
    let other : (1 + count) * width ≡ width * (1 + count) = mul_comm (1 + count) width in record {
      one = omega arith;
      size = omega arith;
      fits = omega arith;
      next = let more = words_at-next form at in omega arith;
    }

-- it has few properties
pub few_properties : (shape : PlainShape) (width : ℕ) → IsMakeable shape width → length shape.down + length shape.up ≤ 8000000
few_properties shape width makeable =
    let both = length shape.down + length shape.up in
    let some : 0 < width * (length shape.domains + 1) = one-le-mul makeable.some_width (omega arith) in
    omega (arith, le-mul_of_pos_right both some, mul_comm both (width * (length shape.domains + 1)), makeable.properties)
