-- One turn of a loop that changes a list in place.
use Rattle.std.proofs.Common.{◌≡◌, ℕ, ◌+◌, ◌<◌, ◌≤◌, List, length, get_or, set, inl, inr, arith, sym, ◌∙◌, subst}
use Rattle.std.proofs.lemmas.Bool.{cases_lt}
use Rattle.std.proofs.lemmas.List.{length-set, get_or-set_same, get_or-set_other}

module _ {A G : Type 0} (R : ℕ → G → A → A → Type 0) (old now : List A) (i : ℕ) (x : A) (within : i < length now) where
  -- what holds before a place holds up to it
  pub set_done : ((k : ℕ) (g : G) (d : A) → k < i → R k g (get_or old k d) (get_or now k d)) → ((g : G) (d : A) → R i g (get_or old i d) x)
      → (k : ℕ) (g : G) (d : A) → k < i + 1 → R k g (get_or old k d) (get_or (set now i x) k d)
  set_done before here k g d low = elim (cases_lt k i) [
    | inl less ↦ subst (λ y. R k g (get_or old k d) y) (sym (get_or-set_other now i k x d (λ same. omega (arith, same)))) (before k g d less)
    | inr past ↦
        let same : i ≡ k = omega arith in
        subst (λ n. R n g (get_or old n d) (get_or (set now i x) n d)) same (subst (λ y. R i g (get_or old i d) y) (sym (get_or-set_same now i x d within)) (here g d))
  ]

module _ {A : Type 0} (old now : List A) (i : ℕ) (x : A) where
  -- what comes after it stays
  pub set_left : ((k : ℕ) (d : A) → i ≤ k → k < length now → get_or now k d ≡ get_or old k d) → (k : ℕ) (d : A) → i + 1 ≤ k → k < length (set now i x) → get_or (set now i x) k d ≡ get_or old k d
  set_left left k d past below = get_or-set_other now i k x d (λ same. omega (arith, same)) ∙ left k d (omega arith) (omega (arith, length-set now i x, below))
