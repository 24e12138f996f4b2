use Rattle.std.proofs.Common.{ℕ, ◌<◌, List, [], ◌∷◌, ◌++◌, refl, inl, inr}
use Rattle.hk_group.specs.Solutions.{IsNotAfter}

-- a list isn't after itself
pub IsNotAfter-refl : (xs : List ℕ) → IsNotAfter xs xs
IsNotAfter-refl [] = tt
IsNotAfter-refl (x ∷ xs) = inr (refl, IsNotAfter-refl xs)

-- the first difference decides
pub IsNotAfter-difference : (front : List ℕ) (x y : ℕ) (xs ys : List ℕ) → x < y → IsNotAfter (front ++ x ∷ xs) (front ++ y ∷ ys)
IsNotAfter-difference [] x y xs ys less = inl less
IsNotAfter-difference (z ∷ front) x y xs ys less = inr (refl, IsNotAfter-difference front x y xs ys less)
