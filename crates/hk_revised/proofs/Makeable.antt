-- Which diagrams can be made.
use Rattle.std.proofs.Common.{ℕ, ◌+◌, ◌*◌, ◌<◌, ◌≤◌, List, [], ◌∷◌, length, map, All, Bool, not, eqb, refl, arith}
use Rattle.std.specs.Int.{bit_at}
use Rattle.std.specs.List.{range_with_len, sum_by}
use Rattle.std.proofs.lemmas.List.{length-map}
use Rattle.std.proofs.lemmas.List.Elements.{All-cons, All-map, All-nil}
use Rattle.std.proofs.lemmas.List.Filters.{length-filter_both}
use Rattle.std.proofs.lemmas.List.FromFn.{length-range_with_len}
use Rattle.std.proofs.lemmas.List.Sums.{sum_by-le}
use Rattle.std.proofs.lemmas.Nat.{mul-le}
use Rattle.hk_table.specs.Tables.{PlainShape, layer_values}
use Rattle.hk_text.specs.Sets.{members}
use Rattle.hk_arena.specs.Making.{IsMakeable}

-- a set has at most 128 values
members-few : (set : ℕ) → length (members set) ≤ 128
unfolding members
members-few set =
    let has : ℕ → Bool = λ value. eqb (bit_at set value) 1 in
    omega (arith, length-filter_both has (λ value. not (has value)) (λ value. refl) (range_with_len 0 128), length-range_with_len 0 128)

-- at most 128 values a set
values-few : (sets : List ℕ) → All (λ (values : List ℕ). length values ≤ 128) (map members sets)
values-few [] = All-nil (λ (values : List ℕ). length values ≤ 128)
values-few (set ∷ sets) = All-cons (λ (values : List ℕ). length values ≤ 128) (members set) (map members sets) (members-few set) (values-few sets)

-- a diagram of at most 25 layers with values and 50 properties a state can be made
pub makeable : (shape : PlainShape) (width : ℕ) → 0 < width → width ≤ 256 → 0 < length shape.domains → length shape.domains ≤ 25 → length shape.down ≤ 50 → length shape.up ≤ 50 → All (λ set. 0 < length (members set)) shape.domains → IsMakeable shape width
makeable shape width some_width few_rows some_layers few_layers down up have =
    let sum = sum_by-le length 128 (layer_values shape) (values-few shape.domains) in
    let long = length-map shape.domains members in
    let entries = mul-le width (sum_by length (layer_values shape)) 256 3200 few_rows (omega arith) in
    let layers = mul-le width (length shape.domains + 1) 256 26 few_rows (omega arith) in
    let properties = mul-le (width * (length shape.domains + 1)) (length shape.down + length shape.up) 6656 100 layers (omega arith) in record {
      some_width = some_width;
      few_rows = few_rows;
      some_layers = some_layers;
      few_layers = omega arith;
      values = All-map (λ (values : List ℕ). 0 < length values) members shape.domains have;
      entries = omega arith;
      properties = omega arith;
    }
