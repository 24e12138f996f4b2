-- How an expression that fits its names is written: its words and numbers are well written, its names stand for what their places ask, and its numbers are within their limits.
use Rattle.std.proofs.Common.{◌≡◌, ℕ, ℤ, pos, negsuc, zero, suc, ◌<◌, ◌≤◌, ◌+◌, ◌^◌, ◌==◌, Bool, true, false, List, [], ◌∷◌, get_or, map, All, Option, None, Some, slice_get, inl, inr, refl, sym, ap, subst, arith}
use Rattle.std.specs.Fmt.{decimal}
use Rattle.std.specs.Int.{bit_at}
use Rattle.std.specs.List.{range_with_len}
use Rattle.std.specs.List.Sorted.{IsStrictlyIncreasing}
use Rattle.std.proofs.lemmas.Bool.{both_ways}
use Rattle.std.proofs.lemmas.Bool.Decides.{nat_tests}
use Rattle.std.proofs.lemmas.Fmt.{decimal_is_IsNumeral, decimal_digit, first_decimal}
use Rattle.std.proofs.lemmas.Int.{ints}
use Rattle.std.proofs.lemmas.List.Elements.{All-nil, All-cons, All-head, All-tail, All-filter}
use Rattle.std.proofs.lemmas.List.FromFn.{length-range_with_len, get_or-range_with_len}
use Rattle.std.proofs.lemmas.List.Kept.{IsStrictlyIncreasing-filter}
use Rattle.std.proofs.lemmas.Option.{slice_get_within, get_or_from_slice_get}
use Rattle.hk_kinds.specs.declared.kinds.Kind.{Kind}
use Rattle.hk_spec.specs.Scopes.{is_num_param, is_set_param, is_list_param, is_within_limit, kinds_of}
use Rattle.hk_spec.specs.declared.expressions.Side.{Side}
use Rattle.hk_spec.specs.declared.expressions.Side.TheVariants.{Down, Up}
use Rattle.hk_spec.specs.declared.parts.Param.{Param}
use Rattle.hk_spec.specs.declared.parts.ParamKind.{ParamKind}
use Rattle.hk_spec.specs.declared.parts.ParamKind.TheVariants as param
use Rattle.hk_spec.specs.declared.parts.PropDecl.{PropDecl}
use Rattle.hk_text.specs.Lexemes.{IsWord}
use Rattle.hk_text.specs.Numbers.{IsNumber, IsPlain}
use Rattle.hk_terms.specs.Names.{scope_of}
use Rattle.hk_terms.specs.Names.{Names, HasParam, HasProperty, WritesUpTo}
use Rattle.hk_terms.specs.NumTexts.{IsSigned}
use Rattle.hk_terms.specs.SetTexts.{AreNumbers, no_number, then_number, AreRisingNumbers}
use Rattle.hk_terms.specs.Trees.{members, member_texts, is_negative, digits_of, param_name, property_name, properties_of}
use Rattle.hk_terms.proofs.LiteralTexts.{writes_up_to}
use Rattle.hk_parse.proofs.PrintedTexts.{there_by_kind, property_there}

-- the digits of a number write it
pub decimal_number : (n : ℕ) → n < 2 ^ 64 → IsNumber (decimal n) n
decimal_number n fits = let (numeral, value) = decimal_is_IsNumeral n fits in record { plain = plain n fits; digits = numeral.1; value = value }
  where
    by : (text : List ℕ) → 48 < get_or text 0 0 → IsPlain text
    by [] above = let never : ⊥ = omega (arith, above) in absurd never
    by (byte ∷ []) above = tt
    by (first ∷ second ∷ more) above = λ is. omega (arith, above, is)

    plain : (n : ℕ) → n < 2 ^ 64 → IsPlain (decimal n)
    plain zero fits = subst IsPlain (sym (decimal_digit 0 (omega arith))) tt
    plain (suc n) fits = by (decimal (suc n)) (first_decimal (suc n) (omega arith) fits)

limit_signed : (n : ℤ) → is_within_limit n ≡ true → IsSigned (is_negative n) (digits_of n) × WritesUpTo 1000000000000 (digits_of n)
limit_signed (pos n) within =
    let small : n ≤ 1000000000000 = grind (arith, ints, nat_tests) in
    let number = decimal_number n (omega (arith, small)) in
    ((n, number), writes_up_to number small)
limit_signed (negsuc n) within =
    let small : suc n ≤ 1000000000000 = grind (arith, ints, nat_tests) in
    let number = decimal_number (suc n) (omega (arith, small)) in
    ((n, number), writes_up_to number small)

module _ (n : ℤ) (within : is_within_limit n ≡ true) where
  -- a number within the limit is well written
  pub signed_written : IsSigned (is_negative n) (digits_of n)
  signed_written = let both = limit_signed n within in both.0

  -- and its digits write none above the limit
  pub signed_small : WritesUpTo 1000000000000 (digits_of n)
  signed_small = let both = limit_signed n within in both.1

range_below : (a n most : ℕ) → a + n ≤ most → All (λ value. value < most) (range_with_len a n)
range_below a zero most within = All-nil (λ value. value < most)
range_below a (suc n) most within = All-cons (λ value. value < most) a (range_with_len (a + 1) n) (omega (arith, within)) (range_below (a + 1) n most (omega (arith, within)))

range_rises : (a n : ℕ) → IsStrictlyIncreasing (range_with_len a n)
range_rises a n k inside = omega (arith, inside, length-range_with_len a n, get_or-range_with_len a n k 0, get_or-range_with_len a n (k + 1) 0)

numbers_written : (values : List ℕ) → All (λ value. value < 128) values → AreNumbers (map decimal values) values
numbers_written [] below = no_number
numbers_written (value ∷ values) below = let small = All-head (λ value. value < 128) value values below in then_number (decimal_number value (omega (arith, small))) (numbers_written values (All-tail (λ value. value < 128) value values below))

numbers_small : (values : List ℕ) → All (λ value. value < 128) values → All (WritesUpTo 127) (map decimal values)
numbers_small [] below = All-nil (WritesUpTo 127)
numbers_small (value ∷ values) below =
    let small = All-head (λ value. value < 128) value values below in
    All-cons (WritesUpTo 127) (decimal value) (map decimal values) (writes_up_to (decimal_number value (omega (arith, small))) (omega (arith, small))) (numbers_small values (All-tail (λ value. value < 128) value values below))

members_below : (set : ℕ) → All (λ value. value < 128) (members set)
members_below set = All-filter (λ value. bit_at set value == 1) (λ value. value < 128) (range_with_len 0 128) (range_below 0 128 128 (omega arith))

-- the values of a set are rising numbers
pub members_written : (set : ℕ) → AreRisingNumbers (member_texts set)
members_written set = record {
  numbers = members set;
  written = numbers_written (members set) (members_below set);
  rising = IsStrictlyIncreasing-filter (λ value. bit_at set value == 1) (range_with_len 0 128) (range_rises 0 128);
}

-- none above 127
pub members_small : (set : ℕ) → All (WritesUpTo 127) (member_texts set)
members_small set = numbers_small (members set) (members_below set)

-- the names are words
pub record AreWords (names : Names) : Type 0 where
  pub param : (place : ℕ) (p : Param) → slice_get names.params place ≡ Some p → IsWord p.name
  pub property : (side : Side) (place : ℕ) (p : PropDecl) → slice_get (properties_of names side) place ≡ Some p → IsWord p.name

num_kind : (kind : ParamKind) → is_num_param (Some kind) ≡ true → kind ≡ param.Num
num_kind param.Num is = refl
num_kind param.Set is = absurd (both_ways _ refl is)
num_kind param.List is = absurd (both_ways _ refl is)

set_kind : (kind : ParamKind) → is_set_param (Some kind) ≡ true → kind ≡ param.Set
set_kind param.Num is = absurd (both_ways _ refl is)
set_kind param.Set is = refl
set_kind param.List is = absurd (both_ways _ refl is)

list_kind : (kind : ParamKind) → is_list_param (Some kind) ≡ true → kind ≡ param.List
list_kind param.Num is = absurd (both_ways _ refl is)
list_kind param.Set is = absurd (both_ways _ refl is)
list_kind param.List is = refl

module _ {names : Names} (words : AreWords names) where
  param_named : (test : Option ParamKind → Bool) (kind : ParamKind) (place : ℕ) → test None ≡ false → ((k : ParamKind) → test (Some k) ≡ true → k ≡ kind) → test (slice_get (scope_of names).params place) ≡ true
      → IsWord (param_name (slice_get names.params place)) × HasParam names kind (param_name (slice_get names.params place))
  param_named test kind place none tells passes =
      let (p, got, has) = there_by_kind test (λ (p : Param). p.kind) names.params place none passes in
      subst (λ word. IsWord word × HasParam names kind word) (ap param_name (sym got))
      (words.param place p got, (place, p, slice_get_within names.params place p got, get_or_from_slice_get names.params place p p got, (refl, tells p.kind has)))

  -- a place of a num parameter, a set parameter, a list parameter
  pub num_param_named : (place : ℕ) → is_num_param (slice_get (scope_of names).params place) ≡ true → IsWord (param_name (slice_get names.params place)) × HasParam names param.Num (param_name (slice_get names.params place))
  num_param_named place passes = param_named is_num_param param.Num place refl num_kind passes

  pub set_param_named : (place : ℕ) → is_set_param (slice_get (scope_of names).params place) ≡ true → IsWord (param_name (slice_get names.params place)) × HasParam names param.Set (param_name (slice_get names.params place))
  set_param_named place passes = param_named is_set_param param.Set place refl set_kind passes

  pub list_param_named : (place : ℕ) → is_list_param (slice_get (scope_of names).params place) ≡ true → IsWord (param_name (slice_get names.params place)) × HasParam names param.List (param_name (slice_get names.params place))
  list_param_named place passes = param_named is_list_param param.List place refl list_kind passes

  has_property : (of : Kind → Bool) (side : Side) (place : ℕ) (p : PropDecl) → slice_get (properties_of names side) place ≡ Some p → of p.kind ≡ true → HasProperty names of p.name
  has_property of Down place p got has = inl (place, p, slice_get_within names.down place p got, get_or_from_slice_get names.down place p p got, (refl, has))
  has_property of Up place p got has = inr (place, p, slice_get_within names.up place p got, get_or_from_slice_get names.up place p p got, (refl, has))

  -- a place of a property
  pub property_named : (test : Option Kind → Bool) (side : Side) (place : ℕ) → test None ≡ false → test (slice_get (kinds_of (scope_of names) side) place) ≡ true
      → IsWord (property_name (slice_get (properties_of names side) place)) × HasProperty names (λ kind. test (Some kind)) (property_name (slice_get (properties_of names side) place))
  property_named test side place none passes =
      let (p, got, has) = property_there names side test place none passes in
      subst (λ word. IsWord word × HasProperty names (λ kind. test (Some kind)) word) (ap property_name (sym got))
      (words.property side place p got, has_property (λ kind. test (Some kind)) side place p got has)
