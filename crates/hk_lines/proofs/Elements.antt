-- Facts of some element of a list, and of each.
use Rattle.std.proofs.Common.{zero, suc, ◌⊎◌, inl, inr, List, [], ◌∷◌, refl, sym, subst, arith}
use Rattle.std.specs.Prelude.{All, Any}
use Rattle.std.proofs.lemmas.List.Elements.{All-nil, All-cons}

module _ {X : Type 0} where
  -- no element of the empty list has a property
  pub any_nil : (P : X → Type 0) → Any P [] → ⊥
  any_nil P (k, x, within, at, p) = absurd (omega (arith, within))

  -- the first element has it
  pub any_first : (P : X → Type 0) (x : X) (xs : List X) → P x → Any P (x ∷ xs)
  any_first P x xs p = (0, x, omega arith, refl, p)

  -- a later element has it
  pub any_later : (P : X → Type 0) (x : X) (xs : List X) → Any P xs → Any P (x ∷ xs)
  any_later P x xs (k, y, within, at, p) = (suc k, y, omega (arith, within), at, p)

  -- the first element has it, or a later one
  pub any_cases : (P : X → Type 0) (x : X) (xs : List X) → Any P (x ∷ xs) → P x ⊎ Any P xs
  any_cases P x xs (zero, y, within, at, p) = inl (subst P (sym at) p)
  any_cases P x xs (suc k, y, within, at, p) = inr (k, y, omega (arith, within), at, p)

  -- where each element has a property, none has one that is against it
  pub each_not_some : (P Q : X → Type 0) → ((x : X) → P x → Q x → ⊥) → (xs : List X) → All P xs → Any Q xs → ⊥
  each_not_some P Q apart xs all (k, x, within, at, q) = apart x (subst P at (all k x within)) q

  -- where no element has a property, each has one that holds without it
  pub each_from_none : (P Q : X → Type 0) → ((x : X) → (Q x → ⊥) → P x) → (xs : List X) → (Any Q xs → ⊥) → All P xs
  each_from_none P Q from [] none = All-nil P
  each_from_none P Q from (x ∷ xs) none =
      All-cons P x xs (from x (λ q. none (any_first Q x xs q))) (each_from_none P Q from xs (λ some. none (any_later Q x xs some)))
