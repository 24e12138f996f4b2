-- The words of a command.
use Rattle.std.proofs.Common.{◌≡◌, ◌<◌, ◌≤◌, arith, List, [], ◌∷◌, length}
use Rattle.std.specs.Prelude.{slice_index_or}

-- a list of two items is these two
pub two_items : {X : Type 0} (xs : List X) (a b : X) → 2 ≤ length xs → length xs < 3 → a ≡ slice_index_or xs 0 a → b ≡ slice_index_or xs 1 b → xs ≡ a ∷ b ∷ []
two_items [] a b many few first second = absurd (omega arith)
two_items (x ∷ []) a b many few first second = absurd (omega arith)
two_items (x ∷ y ∷ []) a b many few first second = cc
two_items (x ∷ y ∷ z ∷ more) a b many few first second = absurd (omega arith)
