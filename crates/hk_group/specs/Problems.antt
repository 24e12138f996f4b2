-- Problems, and when one is valid.
use Rattle.std.specs.Prelude.{◌≡◌, ◌≢◌, ℕ, ◌<◌, ◌≤◌, ◌^◌, ℤ, neg_ℤ, ◌≤ℤ◌, List, length, All, AllPairs, Option, IfSome}
use Rattle.std.specs.List.Sorted.{IsStrictlyIncreasing}
use Rattle.hk_base.specs.Sets.{Has}
use Rattle.hk_kinds.specs.Sets.{IsSet}
use Rattle.hk_spec.specs.Grades.{IsGraded}
use Rattle.hk_spec.specs.Specifications.{BoundSpecification, IsBound, IsWithoutBest}
use Rattle.hk_group.specs.declared.problem.Constraint.{Constraint}
use Rattle.hk_group.specs.declared.problem.Constraint.TheVariants.{AllDifferent, Among, Sequence, Gcc, Sum, User}
use Rattle.hk_group.specs.declared.linear.Linear.{Linear}
use Rattle.hk_group.specs.Groups.{PlainGroup, IsGroup}
use Rattle.hk_group.specs.Grouping.{HaveParts, parts_in}
use Rattle.hk_group.specs.Limits.{most_variables, value_count, most_name_bytes, most_constraints, most_groups, most_window, greatest_coefficient}
use Rattle.hk_base.specs.Limits.{number_limit}

-- a problem: for each variable its name and its set of values, the constraints, the groups that share a diagram each, and
-- the objective, where there is one. Groups are no part of what a problem means
pub record PlainProblem : Type 0 where
  pub names : List (List ℕ)
  pub domains : List ℕ
  pub constraints : List Constraint
  pub groups : List PlainGroup
  pub objective : Option Linear

-- the scope is at least one of that many variables, in the order of their declaration
pub record IsScope (variables : ℕ) (scope : List ℕ) : Type 0 where
  pub some : 0 < length scope
  pub rising : IsStrictlyIncreasing scope
  pub declared : All (λ variable. variable < variables) scope

-- the number is at most this great in size
pub record IsWithin (size n : ℤ) : Type 0 where
  pub above : neg_ℤ size ≤ℤ n
  pub below : n ≤ℤ size

-- the bounds of a count or a sum are at most 1,000,000,000,000 in size
pub record AreBounds (least most : ℤ) : Type 0 where
  pub least_within : IsWithin number_limit least
  pub most_within : IsWithin number_limit most

-- the scope is one of that many variables, the set has only values from 0 to 127, and the bounds are within the limits
pub record IsAmong (variables : ℕ) (scope : List ℕ) (set : ℕ) (least most : ℤ) : Type 0 where
  pub over : IsScope variables scope
  pub small : IsSet set
  pub bounds : AreBounds least most

-- the same, with a window of 1 to 32 variables, which may be more than the scope has
pub record IsSequence (variables : ℕ) (scope : List ℕ) (window set : ℕ) (least most : ℤ) : Type 0 where
  pub counts : IsAmong variables scope set least most
  pub some : 1 ≤ window
  pub short : window ≤ most_window

-- the row's value is one from 0 to 127, and its bounds are within the limits
pub record IsRow (row : ℕ × ℤ × ℤ) : Type 0 where
  pub small : row.0 < value_count
  pub bounds : AreBounds row.1 row.2

-- the scope is one of that many variables, and there are rows, no two of one value
pub record IsGcc (variables : ℕ) (scope : List ℕ) (rows : List (ℕ × ℤ × ℤ)) : Type 0 where
  pub over : IsScope variables scope
  pub some : 0 < length rows
  pub each : All IsRow rows
  pub once : AllPairs (λ row other. row.0 ≢ other.0) rows

-- the scope is one of that many variables, each with a coefficient of at most 1,000,000 in size
pub record IsLinear (variables : ℕ) (scope : List ℕ) (coefs : List ℤ) : Type 0 where
  pub over : IsScope variables scope
  pub one_each : length coefs ≡ length scope
  pub small : All (IsWithin greatest_coefficient) coefs

-- the specification with its arguments is for scopes of that many variables, its test doesn't use the bound on the cost,
-- and it is graded
pub record IsPosted (bound : BoundSpecification) (count : ℕ) : Type 0 where
  pub rules : IsBound bound
  pub len : bound.len ≡ count
  pub no_best : IsWithoutBest bound.spec
  pub graded : IsGraded bound.spec

-- the constraint's scope is one of that many variables, and what else it says is within the limits; a specification is one
-- for such a scope
abbrev pub IsConstraint : ℕ → Constraint → Type 0
IsConstraint variables (AllDifferent scope) = IsScope variables scope
IsConstraint variables (Among scope set least most) = IsAmong variables scope set least most
IsConstraint variables (Sequence scope window set least most) = IsSequence variables scope window set least most
IsConstraint variables (Gcc scope rows) = IsGcc variables scope rows
IsConstraint variables (Sum scope coefs least most) = IsLinear variables scope coefs × IsWithin number_limit least × IsWithin number_limit most
IsConstraint variables (User bound scope) = IsScope variables scope × IsPosted bound (length scope)

-- the set has a value, and only values from 0 to 127
pub record IsDomain (domain : ℕ) : Type 0 where
  pub small : domain < 2 ^ value_count
  pub least : ℕ
  pub some : Has domain least

-- the problem is within the limits, its constraints and its objective are about its variables, and the parts of its groups
-- are those of its constraints and of its objective
pub record IsValid (p : PlainProblem) : Type 0 where
  pub named : length p.names ≡ length p.domains
  pub variables : length p.names ≤ most_variables
  pub names : All (λ name. length name ≤ most_name_bytes) p.names
  pub domains : All IsDomain p.domains
  pub few : length p.constraints ≤ most_constraints
  pub constraints : All (IsConstraint (length p.names)) p.constraints
  pub objective : IfSome p.objective (λ linear. IsLinear (length p.names) linear.scope linear.coefs)
  pub few_groups : length p.groups ≤ most_groups
  pub groups : All IsGroup p.groups
  pub parts : HaveParts p.constraints p.objective (parts_in p.groups)
