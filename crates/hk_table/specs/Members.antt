-- What stands in a list.
use Rattle.std.specs.Prelude.{List, ◌∷◌}

-- the item stands in the list: it is the first, or stands in the rest
pub data Member {A : Type 0} (x : A) : List A → Type 0 where
  first : {xs : List A} → Member x (x ∷ xs)
  later : {y : A} {xs : List A} → Member x xs → Member x (y ∷ xs)
