-- The members of a set that is made of rising numbers, one by one.
use Rattle.std.proofs.Common.{◌≡◌, ◌≢◌, ℕ, ◌+◌, ◌^◌, ◌<◌, ◌≤◌, ◌==◌, suc, zero, Bool, true, false, cond, nat_eq, List, [], ◌∷◌, ◌++◌, filter, bit_or, refl, sym, ap, ◌∙◌, arith}
use Rattle.std.specs.Int.{bit_at}
use Rattle.std.specs.List.{range_with_len}
use Rattle.std.proofs.lemmas.Bool.Decides.{nat_tests}
use Rattle.std.proofs.lemmas.Nat.Bits.{bit_at_or, bit_at-pow_same, bit_at-pow_other, bit_at-zero, bit_at-lt}
use Rattle.hk_terms.specs.Trees.{members}

-- the numbers of a range that are members of the set
members_from : ℕ → ℕ → ℕ → List ℕ
members_from set a l = filter (λ value. bit_at set value == 1) (range_with_len a l)

-- a set whose values are all below a range has no members there
none_from : (set a l : ℕ) → ((i : ℕ) → a ≤ i → bit_at set i ≡ 0) → members_from set a l ≡ []
unfolding members_from
none_from set a zero none = refl
none_from set a (suc l) none =
    ap (λ bit. cond (bit == 1) (a ∷ members_from set (a + 1) l) (members_from set (a + 1) l)) (none a (omega arith))
    ∙ none_from set (a + 1) l (λ i above. none i (omega (arith, above)))

-- a value that is added
bit_added : (set n : ℕ) → bit_at (bit_or set (2 ^ n)) n ≡ 1
bit_added set n = grind (arith, bit_at_or set (2 ^ n) n, bit_at-pow_same n, bit_at-lt set n)

-- the others stay
pub bit_kept : (set n i : ℕ) → i ≢ n → bit_at (bit_or set (2 ^ n)) i ≡ bit_at set i
bit_kept set n i other = grind (arith, bit_at_or set (2 ^ n) i, bit_at-pow_other n i other)

-- a value that is above all others is the last member
grown_from : (set n a l : ℕ) → ((i : ℕ) → n ≤ i → bit_at set i ≡ 0) → a ≤ n → n < a + l → members_from (bit_or set (2 ^ n)) a l ≡ members_from set a l ++ n ∷ []
unfolding members_from
grown_from set n a zero none from within = let never : ⊥ = omega (arith, from, within) in absurd never
grown_from set n a (suc l) none from within = by (nat_eq a n) (λ below. grown_from set n (a + 1) l none (omega (arith, below)) (omega (arith, within))) refl
  where
    grown : ℕ
    grown = bit_or set (2 ^ n)

    choice : (bit : ℕ) (xs : List ℕ) → cond (bit == 1) (a ∷ (xs ++ n ∷ [])) (xs ++ n ∷ []) ≡ cond (bit == 1) (a ∷ xs) xs ++ n ∷ []
    choice bit xs = both (bit == 1)
      where
        both : (test : Bool) → cond test (a ∷ (xs ++ n ∷ [])) (xs ++ n ∷ []) ≡ cond test (a ∷ xs) xs ++ n ∷ []
        both true = refl
        both false = refl

    by : (test : Bool) → (a < n → members_from grown (a + 1) l ≡ members_from set (a + 1) l ++ n ∷ []) → nat_eq a n ≡ test → members_from grown a (suc l) ≡ members_from set a (suc l) ++ n ∷ []
    by true more same =
        let here : a ≡ n = grind (arith, nat_tests) in
        ap (λ bit. cond (bit == 1) (a ∷ members_from grown (a + 1) l) (members_from grown (a + 1) l)) (ap (bit_at grown) here ∙ bit_added set n)
        ∙ ap (λ xs. a ∷ xs) (none_from grown (a + 1) l (λ i above. bit_kept set n i (omega (arith, above, here)) ∙ none i (omega (arith, above, here))))
        ∙ ap (λ x. x ∷ []) here
        ∙ ap (λ xs. xs ++ n ∷ []) (sym (none_from set a (suc l) (λ i above. none i (omega (arith, above, here)))))
    by false more other =
        let below : a < n = grind (arith, nat_tests) in
        ap (λ bit. cond (bit == 1) (a ∷ members_from grown (a + 1) l) (members_from grown (a + 1) l)) (bit_kept set n a (omega (arith, below)))
        ∙ ap (λ xs. cond (bit_at set a == 1) (a ∷ xs) xs) (more below)
        ∙ choice (bit_at set a) (members_from set (a + 1) l)

-- the members of a set
pub members_grown : (set n : ℕ) → ((i : ℕ) → n ≤ i → bit_at set i ≡ 0) → n < 128 → members (bit_or set (2 ^ n)) ≡ members set ++ n ∷ []
unfolding members_from
members_grown set n none small = grown_from set n 0 128 none (omega arith) small

pub no_members : members 0 ≡ []
unfolding members_from
no_members = none_from 0 0 128 (λ i _. bit_at-zero i)
