-- Sets of variables, met with the supported values of one layer after another.
use Rattle.std.proofs.Common.{◌≡◌, ℕ, ◌+◌, ◌<◌, bit_and, List, length, set, slice_index, inl, inr, arith, sym, ap, ◌∙◌, subst}
use Rattle.std.proofs.lemmas.Bool.{cases_eq}
use Rattle.std.proofs.lemmas.List.{get_or-set_same, get_or-set_other}
use Rattle.std.proofs.lemmas.Nat.Bits.{bit_at-lt, bit_at_and}
use Rattle.hk_base.specs.Sets.{Has}
use Rattle.hk_prop.specs.inside.Narrowed.{AreMet}

both_have : (a b value : ℕ) → Has (bit_and a b) value → Has a value × Has b value
both_have a b value has = (omega (arith, bit_at_and a b value, bit_at-lt a value, bit_at-lt b value, has), omega (arith, bit_at_and a b value, bit_at-lt a value, bit_at-lt b value, has))

have_both : (a b value : ℕ) → Has a value → Has b value → Has (bit_and a b) value
have_both a b value one other = omega (arith, bit_at_and a b value, one, other)

module _ (vars supported old sets : List ℕ) (layer variable : ℕ) (is : variable ≡ slice_index vars layer) (inside : variable < length sets) (long : length sets ≡ length old) (met : AreMet vars supported layer old sets) where
  abbrev pub after : List ℕ
  after = set sets variable (bit_and (slice_index sets variable) (slice_index supported layer))

  at_variable : slice_index after variable ≡ bit_and (slice_index sets variable) (slice_index supported layer)
  at_variable = get_or-set_same sets variable (bit_and (slice_index sets variable) (slice_index supported layer)) 0 inside

  elsewhere : (x : ℕ) → (x ≡ variable → ⊥) → slice_index after x ≡ slice_index sets x
  elsewhere x apart = get_or-set_other sets variable x (bit_and (slice_index sets variable) (slice_index supported layer)) 0 apart

  abbrev pub Stand : ℕ → ℕ → ℕ → Type 0
  Stand count x value = (l : ℕ) → l < count → slice_index vars l ≡ x → Has (slice_index supported l) value

  down : (x value : ℕ) → x < length old → Has (slice_index after x) value → Has (slice_index old x) value × Stand (layer + 1) x value
  down x value within has = elim (cases_eq x variable) [
    | inl same ↦
        let both = both_have (slice_index sets variable) (slice_index supported layer) value (subst (λ s. Has s value) at_variable (subst (λ y. Has (slice_index after y) value) same has)) in
        let before = (met x value within).0 (subst (λ y. Has (slice_index sets y) value) (sym same) both.0) in
        (before.0, λ l low at. elim (cases_eq l layer) [ inl here ↦ subst (λ n. Has (slice_index supported n) value) (sym here) both.1 | inr apart ↦ before.1 l (omega (arith, apart, low)) at ])
    | inr apart ↦
        let before = (met x value within).0 (subst (λ s. Has s value) (elsewhere x apart) has) in
        (before.0, λ l low at. elim (cases_eq l layer) [ inl here ↦ absurd (apart (sym at ∙ (ap (slice_index vars) here ∙ sym is))) | inr other ↦ before.1 l (omega (arith, other, low)) at ])
  ]

  up : (x value : ℕ) → x < length old → Has (slice_index old x) value → Stand (layer + 1) x value → Has (slice_index after x) value
  up x value within had stand =
      let before : Has (slice_index sets x) value = (met x value within).1 (had, λ l low at. stand l (omega arith) at) in
      elim (cases_eq x variable) [
        | inl same ↦
            let other : Has (slice_index supported layer) value = stand layer (omega arith) (sym is ∙ sym same) in
            subst (λ y. Has (slice_index after y) value) (sym same) (subst (λ s. Has s value) (sym at_variable) (have_both (slice_index sets variable) (slice_index supported layer) value (subst (λ y. Has (slice_index sets y) value) same before) other))
        | inr apart ↦ subst (λ s. Has s value) (sym (elsewhere x apart)) before
      ]

  pub meet_turn : AreMet vars supported (layer + 1) old after
  meet_turn x value within = (λ has. down x value within has, λ both. up x value within both.0 both.1)
