-- The values of a set go one after the other.
use Rattle.std.proofs.Common.{◌≡◌, ◌≢◌, ◌↔◌, ℕ, ◌+◌, ◌^◌, ◌<◌, ◌≤◌, bit_and, List, [], ◌∷◌, length, set, slice_index, inl, inr, sym, ap, ◌∙◌, subst, arith}
use Rattle.std.specs.Int.{bit_at, bit_not, w128}
use Rattle.std.proofs.lemmas.Bool.{cases_eq, cases_lt}
use Rattle.std.proofs.lemmas.List.{set-set, get_or-set_same, get_or-set_other}
use Rattle.std.proofs.lemmas.Nat.Bits.{bit_at-lt, bit_at_and, bit_at_not, same_from_bits_below}
use Rattle.hk_base.specs.Sets.{Has}
use Rattle.hk_domains.specs.Values.{IsWithout}
use Rattle.hk_table.proofs.Members.{Member-cases, Member-members, Has-member}
use Rattle.hk_table.specs.Members.{Member, first, later}
use Rattle.hk_text.specs.Sets.{members}

module _ (left rest value : ℕ) (is : members left ≡ value ∷ members rest) (gone : bit_at rest value ≡ 0) where
  pub rest_left : (v : ℕ) → v < 128 → Has rest v → Has left v
  rest_left v small has = (Has-member left (subst (Member v) (sym is) (later (Member-members rest v small has)))).0

  pub value_left : Has left value
  value_left = (Has-member left (subst (Member value) (sym is) first)).0

  pub left_rest : (v : ℕ) → v < 128 → v ≢ value → Has left v → Has rest v
  left_rest v small apart has = elim (Member-cases (subst (Member v) is (Member-members left v small has))) [
    | inl same ↦ absurd (apart same)
    | inr m ↦ (Has-member rest m).0
  ]

  pub not_rest : Has rest value → ⊥
  not_rest has = omega (arith, gone, has)

  module _ (old now new goes : ℕ) (without : IsWithout now value new) (within : (v : ℕ) → v < 128 → Has left v → Has goes v)
      (removed : (v : ℕ) → v < 128 → Has now v ↔ (Has old v × (Has goes v → Has left v))) where
    pub within_turn : (v : ℕ) → v < 128 → Has rest v → Has goes v
    within_turn v small has = within v small (rest_left v small has)

    pub removed_turn : (v : ℕ) → v < 128 → Has new v ↔ (Has old v × (Has goes v → Has rest v))
    removed_turn v small = elim (cases_eq v value) [
      | inl same ↦ (
        λ has. absurd (let none : bit_at new v ≡ 0 = ap (bit_at new) same ∙ without.gone in omega (arith, none, has)),
        λ both. absurd (not_rest (subst (Has rest) same (both.1 (within v small (subst (Has left) (sym same) value_left))))),
      )
      | inr apart ↦ (
        λ has.
            let before = (removed v small).0 (sym (without.others v apart) ∙ has) in
            (before.0, λ go. left_rest v small apart (before.1 go)),
        λ both. without.others v apart ∙ (removed v small).1 (both.0, λ go. rest_left v small (both.1 go)),
      )
    ]

-- without values no bit below 128 is set
pub none_left : (set v : ℕ) → length (members set) ≡ 0 → v < 128 → Has set v → ⊥
none_left set v none small has = no_member (members set) none (Member-members set v small has)
  where
    no_member : (xs : List ℕ) → length xs ≡ 0 → Member v xs → ⊥
    no_member [] long m = elim m [ ]
    no_member (x ∷ xs) long m = absurd (omega arith)

-- one variable's set was changed, and is changed again
pub others_turn : (old now new : List ℕ) (x : ℕ) → now ≡ set old x (slice_index now x) → new ≡ set now x (slice_index new x) → new ≡ set old x (slice_index new x)
others_turn old now new x before turn = turn ∙ (ap (λ (l : List ℕ). set l x (slice_index new x)) before ∙ set-set old x (slice_index now x) (slice_index new x))

same_bit : (a b i : ℕ) → Has a i ↔ Has b i → bit_at a i ≡ bit_at b i
same_bit a b i both = elim (cases_lt (bit_at a i) 1) [
  | inl none ↦ elim (cases_lt (bit_at b i) 1) [
    | inl also ↦ omega arith
    | inr one ↦ let h : Has b i = omega (arith, bit_at-lt b i) in let k : bit_at a i ≡ 1 = both.1 h in absurd (omega arith)
  ]
  | inr one ↦ let h : Has a i = omega (arith, bit_at-lt a i) in let k : bit_at b i ≡ 1 = both.0 h in omega (arith, h, k)
]

-- a set that lost what another one lacks is that other one
pub reduced_is : (had goal new gone : ℕ) → goal < 2 ^ 128 → new < 2 ^ 128 → ((v : ℕ) → v < 128 → Has gone v ↔ (Has had v × (Has goal v → ⊥))) → ((v : ℕ) → Has goal v → Has had v)
    → ((v : ℕ) → v < 128 → Has new v ↔ (Has had v × (Has gone v → ⊥))) → new ≡ goal
reduced_is had goal new gone small also goes inside is = same_from_bits_below 128 new goal also small (λ v low. same_bit new goal v (
  λ has.
      let both = (is v low).0 has in
      elim (cases_lt (bit_at goal v) 1) [
        | inl none ↦ absurd (both.1 ((goes v low).1 (both.0, λ h. omega (arith, h, none))))
        | inr one ↦ let h : Has goal v = omega (arith, one, bit_at-lt goal v) in h
      ],
  λ has. (is v low).1 (inside v has, λ go. ((goes v low).0 go).1 has),
))

-- a set without what another one lacks
pub lacking : (had goal v : ℕ) → goal < 2 ^ 128 → v < 128 → Has (bit_and had (bit_not w128 goal)) v ↔ (Has had v × (Has goal v → ⊥))
lacking had goal v small low = (
  λ has.
      let none : bit_at goal v ≡ 0 = omega (arith, bit_at_and had (bit_not w128 goal) v, bit_at_not w128 goal v small low, bit_at-lt had v, bit_at-lt goal v, has) in
      (omega (arith, bit_at_and had (bit_not w128 goal) v, bit_at_not w128 goal v small low, bit_at-lt had v, bit_at-lt goal v, has), λ h. omega (arith, h, none)),
  λ both.
      let had_it : bit_at had v ≡ 1 = both.0 in
      elim (cases_lt (bit_at goal v) 1) [
        | inl none ↦ omega (arith, bit_at_and had (bit_not w128 goal) v, bit_at_not w128 goal v small low, had_it, none)
        | inr one ↦ absurd (both.1 (let h : Has goal v = omega (arith, one, bit_at-lt goal v) in h))
      ],
)

module _ (sets old now new : List ℕ) (x : ℕ) (inside : x < length now) (is : new ≡ set now x (slice_index sets x)) where
  pub done_turn : ((k : ℕ) → k < x → slice_index now k ≡ slice_index sets k) → (k : ℕ) → k < x + 1 → slice_index new k ≡ slice_index sets k
  done_turn done k low = elim (cases_eq k x) [
    | inl same ↦ ap (λ (l : List ℕ). slice_index l k) is ∙ (ap (slice_index (set now x (slice_index sets x))) same ∙ (get_or-set_same now x (slice_index sets x) 0 inside ∙ ap (slice_index sets) (sym same)))
    | inr apart ↦ ap (λ (l : List ℕ). slice_index l k) is ∙ (get_or-set_other now x k (slice_index sets x) 0 apart ∙ done k (omega (arith, low, apart)))
  ]

  pub left_turn : ((k : ℕ) → x ≤ k → slice_index now k ≡ slice_index old k) → (k : ℕ) → x + 1 ≤ k → slice_index new k ≡ slice_index old k
  left_turn left k past = ap (λ (l : List ℕ). slice_index l k) is ∙ (get_or-set_other now x k (slice_index sets x) 0 (λ same. omega (arith, past, same)) ∙ left k (omega arith))
