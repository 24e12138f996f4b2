-- The set of the values of ranges: that there is one, and what it has.
use Rattle.std.proofs.Common.{◌≡◌, ℕ, ◌<◌, List, [], ◌∷◌, ◌++◌, sym, ap, subst, ◌∙◌, arith, zero, suc, ◌+◌, ◌≤◌, max, ◌⊎◌, inl, inr, ⊎_elim, length, get_or, take, bit_or}
use Rattle.std.specs.Int.{bit_at}
use Rattle.std.proofs.lemmas.Nat.Bits.{same_from_bits, bit_at-lt, bit_at_or, bit_at-zero}
use Rattle.hk_base.specs.Sets.{Has}
use Rattle.hk_lines.specs.Phrases.{Values}
use Rattle.hk_lines.specs.ValueSets.{IsSetOf}
use Rattle.hk_lines.specs.inside.Ranges.{IsRange}
use Rattle.std.specs.Prelude.{◌↔◌, All, Any}
use Rattle.std.proofs.lemmas.List.{map-append, take_more}
use Rattle.std.proofs.lemmas.List.Elements.{All-head, All-tail}
use Rattle.std.proofs.lemmas.Nat.{or_lt}
use Rattle.hk_lines.specs.declared.phrases.Values.{Values as ReadValues}
use Rattle.hk_lines.specs.Plain.{values_of}
use Rattle.hk_lines.proofs.Elements.{any_nil, any_first, any_later, any_cases}
use Rattle.hk_lines.proofs.RangeBits.{range_bits, range_bits-IsRange}

-- the value is one of these
abbrev pub IsBetween : ℕ → Values → Type 0
IsBetween value values = (values.first ≤ value) × (value ≤ values.last)

-- the bits of an or
or_cases : (a b r : ℕ) → r ≡ max a b → r ≡ 1 → a < 2 → b < 2 → (a ≡ 1) ⊎ (b ≡ 1)
or_cases zero b r is one x y = inr (omega arith)
or_cases (suc a) b r is one x y = inl (omega arith)

-- a set made of two has what one of them has
pub has_or : (a b value : ℕ) → Has (bit_or a b) value ↔ (Has a value ⊎ Has b value)
has_or a b value = (there, back)
  where
    there : Has (bit_or a b) value → Has a value ⊎ Has b value
    there has = or_cases (bit_at a value) (bit_at b value) (bit_at (bit_or a b) value) (bit_at_or a b value) has (bit_at-lt a value) (bit_at-lt b value)

    back : Has a value ⊎ Has b value → Has (bit_or a b) value
    back (inl has) = omega (arith, bit_at_or a b value, bit_at-lt b value, has)
    back (inr has) = omega (arith, bit_at_or a b value, bit_at-lt a value, has)

-- the set of no values
pub empty_set : IsSetOf [] 0
empty_set = record {
  small = omega arith;
  values = λ value. (λ has. absurd (omega (arith, bit_at-zero value, has)), λ some. absurd (any_nil (IsBetween value) some));
}

-- the set of one range
pub range_set_of : (values : Values) (domain : ℕ) → IsRange values.first values.last domain → IsSetOf (values ∷ []) domain
range_set_of values domain range = record {
  small = range.small;
  values = λ value. (λ has. any_first (IsBetween value) values [] ((range.values value).0 has), λ some. (range.values value).1 (only value (any_cases (IsBetween value) values [] some)));
}
  where
    only : (value : ℕ) → IsBetween value values ⊎ Any (IsBetween value) [] → IsBetween value values
    only value (inl between) = between
    only value (inr some) = absurd (any_nil (IsBetween value) some)

module _ {X : Type 0} (P : X → Type 0) where
  any_in_front : (xs ys : List X) → Any P xs → Any P (xs ++ ys)
  any_in_front [] ys some = absurd (any_nil P some)
  any_in_front (x ∷ xs) ys some = ⊎_elim (λ first. any_first P x (xs ++ ys) first) (λ later. any_later P x (xs ++ ys) (any_in_front xs ys later)) (any_cases P x xs some)

  any_behind : (xs ys : List X) → Any P ys → Any P (xs ++ ys)
  any_behind [] ys some = some
  any_behind (x ∷ xs) ys some = any_later P x (xs ++ ys) (any_behind xs ys some)

  any_of_both : (xs ys : List X) → Any P (xs ++ ys) → Any P xs ⊎ Any P ys
  any_of_both [] ys some = inr some
  any_of_both (x ∷ xs) ys some = ⊎_elim
      (λ first. inl (any_first P x xs first))
      (λ later. ⊎_elim (λ front. inl (any_later P x xs front)) inr (any_of_both xs ys later))
      (any_cases P x (xs ++ ys) some)

-- the set of two lists of values is made of their sets
pub both_sets : (xs ys : List Values) (a b : ℕ) → IsSetOf xs a → IsSetOf ys b → IsSetOf (xs ++ ys) (bit_or a b)
both_sets xs ys a b x y = record {
  small = or_lt 128 a b x.small y.small;
  values = λ value. (
    λ has. ⊎_elim (λ one. any_in_front (IsBetween value) xs ys ((x.values value).0 one)) (λ other. any_behind (IsBetween value) xs ys ((y.values value).0 other)) ((has_or a b value).0 has),
    λ some. (has_or a b value).1 (⊎_elim (λ front. inl ((x.values value).1 front)) (λ behind. inr ((y.values value).1 behind)) (any_of_both (IsBetween value) xs ys some)),
  );
}

-- a set with a range more
pub set_more : (values : Values) (set : List Values) (a b : ℕ) → IsRange values.first values.last a → IsSetOf set b → IsSetOf (values ∷ set) (bit_or a b)
set_more values set a b range rest = both_sets (values ∷ []) set a b (range_set_of values a range) rest

-- a loop that joins the ranges of a list, after one turn more
pub more_of_set : (set : List ReadValues) (i : ℕ) (d : ReadValues) (domain range : ℕ) → i < length set → IsSetOf (values_of (take i set)) domain
    → IsRange (get_or set i d).first (get_or set i d).last range → IsSetOf (values_of (take (i + 1) set)) (bit_or domain range)
more_of_set set i d domain range within before is =
    let next = get_or set i d in
    let values : Values = record { first = next.first; last = next.last } in
    let parts : values_of (take (i + 1) set) ≡ values_of (take i set) ++ values ∷ [] = ap values_of (take_more set i d within) ∙ map-append (λ values. record { first = values.first; last = values.last }) (take i set) (next ∷ []) in
    subst (λ all. IsSetOf all (bit_or domain range)) (sym parts) (both_sets (values_of (take i set)) (values ∷ []) domain range before (range_set_of values range is))

-- each list of ranges below 128 has a set
pub domain_of : (set : List Values) → All (λ values. values.first ≤ values.last) set → All (λ values. values.last < 128) set → (domain : ℕ) × IsSetOf set domain
domain_of [] ordered within = (0, empty_set)
domain_of (values ∷ set) ordered within =
    let rest = domain_of set (All-tail (λ values. values.first ≤ values.last) values set ordered) (All-tail (λ values. values.last < 128) values set within) in
    let low = All-head (λ values. values.last < 128) values set within in
    let first = range_bits values.first values.last low in
    (bit_or first rest.0, set_more values set first rest.0 (range_bits-IsRange values.first values.last low) rest.1)

-- a set is determined by its values
same_sets : (a b : ℕ) → ((v : ℕ) → Has a v → Has b v) → ((v : ℕ) → Has b v → Has a v) → a ≡ b
same_sets a b there back = same_from_bits a b (λ v. at v (bit_at-lt a v) (bit_at-lt b v) (there v) (back v))
  where
    at : (v : ℕ) → bit_at a v < 2 → bit_at b v < 2 → (bit_at a v ≡ 1 → bit_at b v ≡ 1) → (bit_at b v ≡ 1 → bit_at a v ≡ 1) → bit_at a v ≡ bit_at b v
    at v x y there back = grind arith

-- values have one set
pub same_domains : {set : List Values} {a b : ℕ} → IsSetOf set a → IsSetOf set b → a ≡ b
same_domains {a = a} {b = b} x y = same_sets a b (λ v has. (y.values v).1 ((x.values v).0 has)) (λ v has. (x.values v).1 ((y.values v).0 has))
