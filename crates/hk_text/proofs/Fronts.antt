-- The longest front of a list whose elements pass a test.
use Rattle.std.proofs.Common.{◌≡◌, suc, ◌+◌, Bool, true, false, cond, ◌&&◌, List, [], ◌∷◌, ◌++◌, take, drop, refl, sym, ap, ◌∙◌, arith}
use Rattle.std.specs.List.{list_all, prefix_len}
use Rattle.std.proofs.lemmas.Bool.{and_parts}

module _ {X : Type 0} (p : X → Bool) where
  -- each element of the longest front passes
  pub list_all-front : (xs : List X) → list_all p (take (prefix_len p xs) xs) ≡ true
  list_all-front [] = refl
  list_all-front (x ∷ xs) = by (p x) refl (list_all-front xs)
    where
      by : (b : Bool) → p x ≡ b → list_all p (take (prefix_len p xs) xs) ≡ true → list_all p (take (cond b (1 + prefix_len p xs) 0) (x ∷ xs)) ≡ true
      by true passes rest =
          let on : 1 + prefix_len p xs ≡ suc (prefix_len p xs) = omega arith in
          ap (λ n. list_all p (take n (x ∷ xs))) on ∙ ap (λ b. b && list_all p (take (prefix_len p xs) xs)) passes ∙ rest
      by false fails rest = refl

  -- the element after the longest front fails
  pub after_front : (xs : List X) (next : X) (rest : List X) → drop (prefix_len p xs) xs ≡ next ∷ rest → p next ≡ false
  after_front [] next rest is = cc
  after_front (x ∷ xs) next rest is = by (p x) refl (after_front xs next rest) is
    where
      by : (b : Bool) → p x ≡ b → (drop (prefix_len p xs) xs ≡ next ∷ rest → p next ≡ false) → drop (cond b (1 + prefix_len p xs) 0) (x ∷ xs) ≡ next ∷ rest → p next ≡ false
      by true passes later is =
          let on : 1 + prefix_len p xs ≡ suc (prefix_len p xs) = omega arith in
          later (ap (λ n. drop n (x ∷ xs)) (sym on) ∙ is)
      by false fails later is = let same : x ≡ next = cc in sym (ap p same) ∙ fails

  -- where each element of a list passes, so does one in its middle
  pub list_all-middle : (front : List X) (x : X) (rest : List X) → list_all p (front ++ x ∷ rest) ≡ true → p x ≡ true
  list_all-middle [] x rest all = (and_parts (p x) (list_all p rest) all).0
  list_all-middle (y ∷ front) x rest all = list_all-middle front x rest (and_parts (p y) (list_all p (front ++ x ∷ rest)) all).1
