-- Expressions in pieces. Each operation stands in parentheses of its own.
use Rattle.std.specs.Prelude.{ℕ, List, [], ◌++◌, codes, map, slice_get, unwrap_or}
use Rattle.hk_spec.specs.Specifications.{Specification}
use Rattle.hk_spec.specs.declared.expressions.Side.{Side}
use Rattle.hk_spec.specs.declared.expressions.Side.TheVariants.{Down, Up}
use Rattle.hk_spec.specs.declared.expressions.NumExpr.{NumExpr}
use Rattle.hk_spec.specs.declared.expressions.NumExpr.TheOpen.{NumExpr-F}
use Rattle.hk_spec.specs.declared.expressions.NumExpr.TheFolds.{fold-NumExpr}
use Rattle.hk_spec.specs.declared.expressions.SetExpr.{SetExpr}
use Rattle.hk_spec.specs.declared.expressions.SetExpr.TheOpen.{SetExpr-F}
use Rattle.hk_spec.specs.declared.expressions.SetExpr.TheFolds.{fold-SetExpr}
use Rattle.hk_spec.specs.declared.expressions.Cond.{Cond}
use Rattle.hk_spec.specs.declared.expressions.Cond.TheOpen.{Cond-F}
use Rattle.hk_spec.specs.declared.expressions.Cond.TheFolds.{fold-Cond}
use Rattle.hk_spec.specs.declared.parts.Param.{Param}
use Rattle.hk_spec.specs.declared.parts.PropDecl.{PropDecl}
use Rattle.hk_print.specs.Pieces.{piece, around, around_two, signed_pieces, literal_pieces}

-- the names that the places of an expression stand for: of parameters, and of the properties of each side
pub record Naming : Type 0 where
  pub params : List (List ℕ)
  pub down : List (List ℕ)
  pub up : List (List ℕ)

-- the names of properties
abbrev pub names_of_properties : List PropDecl → List (List ℕ)
names_of_properties = map (λ (p : PropDecl). p.name)

-- the names of a specification
abbrev pub naming_of : Specification → Naming
naming_of s = record { params = map (λ (p : Param). p.name) s.params; down = names_of_properties s.down; up = names_of_properties s.up }

-- the names of the properties of one side
abbrev pub names_of_side : Naming → Side → List (List ℕ)
names_of_side naming Down = naming.down
names_of_side naming Up = naming.up

-- the name at a place, and the empty one past the end, where no specification has a place
abbrev pub name_at : List (List ℕ) → ℕ → List ℕ
name_at names place = unwrap_or (slice_get names place) []

-- two expressions in parentheses, with an operator between them
abbrev pub operation : List (List (List ℕ)) → List ℕ → List (List (List ℕ)) → List (List (List ℕ))
operation a operator b = around_two (piece (codes "(")) a (piece operator) b (piece (codes ")"))

-- two expressions after the name of a function
abbrev pub call_of_two : List ℕ → List (List (List ℕ)) → List (List (List ℕ)) → List (List (List ℕ))
call_of_two function a b = around_two (piece function ++ piece (codes "(")) a (piece (codes ",")) b (piece (codes ")"))

-- a set expression, of its parts
abbrev pub set_step : Naming → SetExpr-F (List (List (List ℕ))) → List (List (List ℕ))
set_step naming (SetExpr-F.Lit set) = literal_pieces set
set_step naming SetExpr-F.One = around (piece (codes "{")) (piece (codes "v")) (piece (codes "}"))
set_step naming (SetExpr-F.Param place) = piece (name_at naming.params place)
set_step naming (SetExpr-F.Bits side place) = piece (name_at (names_of_side naming side) place)
set_step naming (SetExpr-F.Union a b) = operation a (codes "|") b
set_step naming (SetExpr-F.Common a b) = operation a (codes "&") b
set_step naming (SetExpr-F.Without a b) = operation a (codes "\\") b

-- a set expression
abbrev pub set_pieces : Naming → SetExpr → List (List (List ℕ))
set_pieces naming = fold-SetExpr (List (List (List ℕ))) (set_step naming)

-- a number expression, of its parts
abbrev pub num_step : Naming → NumExpr-F (List (List (List ℕ))) → List (List (List ℕ))
num_step naming (NumExpr-F.Lit n) = signed_pieces n
num_step naming NumExpr-F.Value = piece (codes "v")
num_step naming NumExpr-F.Index = piece (codes "i")
num_step naming NumExpr-F.Length = piece (codes "n")
num_step naming NumExpr-F.Best = piece (codes "best")
num_step naming (NumExpr-F.Param place) = piece (name_at naming.params place)
num_step naming (NumExpr-F.Item place) = piece (name_at naming.params place) ++ around (piece (codes "[")) (piece (codes "i")) (piece (codes "]"))
num_step naming (NumExpr-F.Number side place) = piece (name_at (names_of_side naming side) place)
num_step naming (NumExpr-F.Low side place) = piece (name_at (names_of_side naming side) place) ++ (piece (codes ".") ++ piece (codes "lo"))
num_step naming (NumExpr-F.High side place) = piece (name_at (names_of_side naming side) place) ++ (piece (codes ".") ++ piece (codes "hi"))
num_step naming (NumExpr-F.Card set) = around (piece (codes "card") ++ piece (codes "(")) (set_pieces naming set) (piece (codes ")"))
num_step naming (NumExpr-F.Add a b) = operation a (codes "+") b
num_step naming (NumExpr-F.Least a b) = call_of_two (codes "min") a b
num_step naming (NumExpr-F.Most a b) = call_of_two (codes "max") a b
num_step naming (NumExpr-F.Minus a b) = operation a (codes "-") b
num_step naming (NumExpr-F.Negative a) = around (piece (codes "(") ++ piece (codes "-")) a (piece (codes ")"))
num_step naming (NumExpr-F.Times a b) = operation a (codes "*") b

-- a number expression
abbrev pub num_pieces : Naming → NumExpr → List (List (List ℕ))
num_pieces naming = fold-NumExpr (List (List (List ℕ))) (num_step naming)

-- the test whether the value is in a set, with its operator
abbrev pub membership : List ℕ → List (List (List ℕ)) → List (List (List ℕ))
membership operator set = around (piece (codes "(") ++ (piece (codes "v") ++ piece operator)) set (piece (codes ")"))

-- a condition, of its parts
abbrev pub cond_step : Naming → Cond-F (List (List (List ℕ))) → List (List (List ℕ))
cond_step naming Cond-F.Always = piece (codes "true")
cond_step naming Cond-F.Never = piece (codes "false")
cond_step naming (Cond-F.AtMost a b) = operation (num_pieces naming a) (codes "<=") (num_pieces naming b)
cond_step naming (Cond-F.Below a b) = operation (num_pieces naming a) (codes "<") (num_pieces naming b)
cond_step naming (Cond-F.AtLeast a b) = operation (num_pieces naming a) (codes ">=") (num_pieces naming b)
cond_step naming (Cond-F.Above a b) = operation (num_pieces naming a) (codes ">") (num_pieces naming b)
cond_step naming (Cond-F.Equal a b) = operation (num_pieces naming a) (codes "==") (num_pieces naming b)
cond_step naming (Cond-F.Has set) = membership (codes "in") (set_pieces naming set)
cond_step naming (Cond-F.Lacks set) = membership (codes "notin") (set_pieces naming set)
cond_step naming (Cond-F.Subset a b) = operation (set_pieces naming a) (codes "sub") (set_pieces naming b)
cond_step naming (Cond-F.Both p q) = operation p (codes "and") q
cond_step naming (Cond-F.Either p q) = operation p (codes "or") q
cond_step naming (Cond-F.Not p) = around (piece (codes "(") ++ piece (codes "not")) p (piece (codes ")"))

-- a condition
abbrev pub cond_pieces : Naming → Cond → List (List (List ℕ))
cond_pieces naming = fold-Cond (List (List (List ℕ))) (cond_step naming)
