-- Fronts of lists.
use Rattle.std.specs.Prelude.{◌≡◌, List, ◌++◌}

-- the list begins with this front
pub record IsFrontOf {A : Type 0} (front whole : List A) : Type 0 where
  pub rest : List A
  pub parts : whole ≡ front ++ rest

-- the new list is the old one with a front of the added list at its end
pub record AppendsFront {A : Type 0} (old new added : List A) : Type 0 where
  pub front : List A
  pub is_front : IsFrontOf front added
  pub appended : new ≡ old ++ front
