-- The shape of a line's tokens: the statement that they say, each of its numbers capped above the limits.
use Rattle.std.specs.Prelude.{◌≡◌, ℕ, ℤ, pos, negsuc, neg_ℤ, suc, List, map, min}
use Rattle.hk_lines.specs.Limits.{above_limits}
use Rattle.hk_lines.specs.declared.shapes.Shape.{Shape}
use Rattle.hk_lines.specs.Plain.{statement_of}
use Rattle.hk_lines.specs.Phrases.{Values, Term, Row, Counting}
use Rattle.hk_lines.specs.Statements.{Statement, Header, Variable, Distinct, Among, Sequence, Gcc, Total, Objective, NewGroup, Says}

-- the number, or one above all limits where it is greater
abbrev pub capped : ℕ → ℕ
capped n = min n above_limits

-- the same for the size of a number with a sign
abbrev pub capped_signed : ℤ → ℤ
capped_signed (pos n) = pos (capped n)
capped_signed (negsuc n) = neg_ℤ (pos (capped (suc n)))

-- the same for both ends of values
abbrev pub capped_values : Values → Values
capped_values values = record { first = capped values.first; last = capped values.last }

-- the same for the coefficient of a term
abbrev pub capped_term : Term → Term
capped_term term = record { coef = capped_signed term.coef; name = term.name }

-- the same for the values and the numbers of a counting
abbrev pub capped_counting : Counting → Counting
capped_counting counting = record { names = counting.names; set = map capped_values counting.set; least = capped counting.least; most = capped counting.most }

-- the same for the numbers of a row, whose digits stay as they are
abbrev pub capped_row : Row → Row
capped_row row = record { value = capped row.value; digits = row.digits; least = capped row.least; most = capped row.most }

-- the statement with its numbers capped
abbrev pub capped_statement : Statement → Statement
capped_statement Header = Header
capped_statement (Variable name set) = Variable name (map capped_values set)
capped_statement (Distinct names) = Distinct names
capped_statement (Among counting) = Among (capped_counting counting)
capped_statement (Sequence window counting) = Sequence (capped window) (capped_counting counting)
capped_statement (Gcc names rows) = Gcc names (map capped_row rows)
capped_statement (Total terms least most) = Total (map capped_term terms) (capped_signed least) (capped_signed most)
capped_statement (Objective terms) = Objective (map capped_term terms)
capped_statement NewGroup = NewGroup

-- the shape is that of the statement, with its numbers capped
abbrev pub HasShape : Shape → Statement → Type 0
HasShape shape statement = statement_of shape ≡ capped_statement statement

-- the shape is that of a statement that the texts say
abbrev pub IsShapeOf : List (List ℕ) → Shape → Type 0
IsShapeOf texts shape = (statement : Statement) × Says texts statement × HasShape shape statement

-- the texts say no statement
abbrev pub SayNothing : List (List ℕ) → Type 0
SayNothing texts = (statement : Statement) → Says texts statement → ⊥
