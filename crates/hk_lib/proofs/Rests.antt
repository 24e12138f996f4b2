-- What is left of a list from a place on.
use Rattle.std.proofs.Common.{◌≡◌, ◌+◌, ◌<◌, ◌≤◌, ℕ, zero, suc, Some, slice_get, List, [], ◌∷◌, length, drop, arith, ap, ◌∙◌, length-drop, add-one}

-- it begins with what stands at the place
pub first_left : {X : Type 0} (place : ℕ) (xs : List X) (y : X) (ys : List X) → drop place xs ≡ y ∷ ys → slice_get xs place ≡ Some y
first_left zero xs y ys left = ap (λ l. slice_get l 0) left
first_left (suc place) [] y ys left = cc
first_left (suc place) (x ∷ xs) y ys left = first_left place xs y ys left

-- and goes on with what is left from the next place on
others_left : {X : Type 0} (place : ℕ) (xs : List X) (y : X) (ys : List X) → drop place xs ≡ y ∷ ys → drop (suc place) xs ≡ ys
others_left zero xs y ys left = ap (λ l. drop 1 l) left
others_left (suc place) [] y ys left = cc
others_left (suc place) (x ∷ xs) y ys left = others_left place xs y ys left

pub next_left : {X : Type 0} (place : ℕ) (xs : List X) (y : X) (ys : List X) → drop place xs ≡ y ∷ ys → drop (place + 1) xs ≡ ys
next_left place xs y ys left = ap (λ k. drop k xs) (add-one place) ∙ others_left place xs y ys left

-- a place has something left exactly where it is one of the list
pub left_within : {X : Type 0} (place : ℕ) (xs : List X) (y : X) (ys : List X) → drop place xs ≡ y ∷ ys → place < length xs
left_within place xs y ys left =
    let count : length (drop place xs) ≡ suc (length ys) = ap length left in
    omega (arith, length-drop place xs)

pub none_left : {X : Type 0} (place : ℕ) (xs : List X) → drop place xs ≡ [] → length xs ≤ place
none_left place xs left =
    let count : length (drop place xs) ≡ 0 = ap length left in
    omega (arith, length-drop place xs)
