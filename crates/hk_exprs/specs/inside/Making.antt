-- What is made of an expression, of what is made of its parts.
use Rattle.std.specs.Prelude.{ℕ, ◌+◌, max, Bool, true, false, nat_lt, if◌then◌else◌, Result, Ok, Err}
use Rattle.hk_spec.specs.declared.expressions.NumExpr.{NumExpr}
use Rattle.hk_spec.specs.declared.expressions.NumExpr.TheVariants as num_expr
use Rattle.hk_spec.specs.declared.expressions.SetExpr.{SetExpr}
use Rattle.hk_spec.specs.declared.expressions.SetExpr.TheVariants as set_expr
use Rattle.hk_spec.specs.declared.expressions.Cond.{Cond}
use Rattle.hk_spec.specs.declared.expressions.Cond.TheVariants as cond_expr
use Rattle.hk_terms.specs.CondTexts as conds
use Rattle.hk_terms.specs.CondTexts.{Comparison}
use Rattle.hk_terms.specs.NumTexts as nums
use Rattle.hk_terms.specs.NumTexts.{NumOperation, Choice}
use Rattle.hk_terms.specs.SetTexts as sets
use Rattle.hk_terms.specs.SetTexts.{SetOperation}
use Rattle.hk_terms.specs.declared.flaws.Flaw.{Flaw}
use Rattle.hk_terms.specs.declared.flaws.Flaw.TheVariants.{Name, Limit}
use Rattle.hk_terms.specs.declared.marks.Mark.{Mark}
use Rattle.hk_terms.specs.declared.marks.Mark.TheVariants.{Common, Without, Minus, Times, Below, AtLeast, Above, Equal, And}
use Rattle.hk_exprs.specs.declared.operands.Tree.{Tree}

-- the part of a whole, and the depth of the whole; or what is wrong with the part, or else that the whole is too deep
abbrev pub one_part : {T : Type 0} → Result (Tree T) Flaw → Result (T × ℕ) Flaw
one_part (Err flaw) = Err flaw
one_part (Ok a) = if nat_lt a.depth 32 then Ok (a.root, a.depth + 1) else Err Limit

-- both parts of a whole, and the depth of the whole; or what is wrong with a part, first with its names; or else that the whole is too deep
abbrev pub two_parts : {T : Type 0} → Result (Tree T) Flaw → Result (Tree T) Flaw → Result (T × T × ℕ) Flaw
two_parts (Err Name) b = Err Name
two_parts (Err Limit) (Err Name) = Err Name
two_parts (Err Limit) (Err Limit) = Err Limit
two_parts (Err Limit) (Ok b) = Err Limit
two_parts (Ok a) (Err flaw) = Err flaw
two_parts (Ok a) (Ok b) = if nat_lt (max a.depth b.depth) 32 then Ok (a.root, b.root, max a.depth b.depth + 1) else Err Limit

-- the whole of one part
abbrev pub whole_of_one : {T X : Type 0} → (T → X) → Result (T × ℕ) Flaw → Result (Tree X) Flaw
whole_of_one make (Err flaw) = Err flaw
whole_of_one make (Ok parts) = Ok (record { root = make parts.0; depth = parts.1 })

-- the whole of two parts
abbrev pub whole_of_two : {T X : Type 0} → (T → T → X) → Result (T × T × ℕ) Flaw → Result (Tree X) Flaw
whole_of_two make (Err flaw) = Err flaw
whole_of_two make (Ok parts) = Ok (record { root = make parts.0 parts.1; depth = parts.2 })

-- the operation of a mark between two sets, and the set that it makes
abbrev pub set_operation : Mark → SetOperation
set_operation Common = sets.Common
set_operation Without = sets.Without
set_operation _ = sets.Union

abbrev pub set_joined : Mark → SetExpr → SetExpr → SetExpr
set_joined Common a b = set_expr.Common a b
set_joined Without a b = set_expr.Without a b
set_joined _ a b = set_expr.Union a b

-- the operation of a mark between two numbers, and the number that it makes
abbrev pub num_operation : Mark → NumOperation
num_operation Minus = nums.Minus
num_operation Times = nums.Times
num_operation _ = nums.Plus

abbrev pub num_joined : Mark → NumExpr → NumExpr → NumExpr
num_joined Minus a b = num_expr.Minus a b
num_joined Times a b = num_expr.Times a b
num_joined _ a b = num_expr.Add a b

-- the greater or the less of two numbers
abbrev pub choice : Bool → Choice
choice true = nums.Most
choice false = nums.Least

abbrev pub num_chosen : Bool → NumExpr → NumExpr → NumExpr
num_chosen true a b = num_expr.Most a b
num_chosen false a b = num_expr.Least a b

-- how a mark between two numbers compares them, and the condition that it makes
abbrev pub comparison : Mark → Comparison
comparison Below = conds.Below
comparison AtLeast = conds.AtLeast
comparison Above = conds.Above
comparison Equal = conds.Equal
comparison _ = conds.AtMost

abbrev pub compared : Mark → NumExpr → NumExpr → Cond
compared Below a b = cond_expr.Below a b
compared AtLeast a b = cond_expr.AtLeast a b
compared Above a b = cond_expr.Above a b
compared Equal a b = cond_expr.Equal a b
compared _ a b = cond_expr.AtMost a b

-- the value is in a set, or not
abbrev pub member : Bool → SetExpr → Cond
member true set = cond_expr.Has set
member false set = cond_expr.Lacks set

-- whether a mark between two conditions asks both, and the condition that it makes
abbrev pub asks_both : Mark → Bool
asks_both And = true
asks_both _ = false

abbrev pub cond_joined : Mark → Cond → Cond → Cond
cond_joined And p q = cond_expr.Both p q
cond_joined _ p q = cond_expr.Either p q
