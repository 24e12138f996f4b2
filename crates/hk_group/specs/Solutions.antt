-- The solutions of a problem, what they cost, and which is the answer.
use Rattle.std.specs.Prelude.{◌≡◌, ℕ, ℤ, pos, ◌<◌, ◌≤ℤ◌, List, [], ◌∷◌, ◌⊎◌, length, map, slice_index, All, Option, None, Some}
use Rattle.hk_base.specs.Sets.{Has}
use Rattle.hk_group.specs.declared.problem.Constraint.{Constraint}
use Rattle.hk_group.specs.declared.problem.Constraint.TheVariants.{AllDifferent, Among, Sequence, Gcc, Sum, User}
use Rattle.hk_group.specs.declared.linear.Linear.{Linear}
use Rattle.hk_spec.specs.Meanings.{AreAmong, AreDifferent, EachOccurs, EachWindow, SumLies, weighted_sum}
use Rattle.hk_spec.specs.Runs.{Accepts}
use Rattle.hk_spec.specs.Specifications.{BoundSpecification}
use Rattle.hk_group.specs.Problems.{PlainProblem}

-- the values of a scope's variables, in the order of the scope
abbrev pub scope_values : List ℕ → List ℕ → List ℕ
scope_values scope values = map (λ variable. slice_index values variable) scope

-- the sum of coefficient times value over the variables of the scope
abbrev pub linear_value : List ℕ → List ℤ → List ℕ → ℤ
linear_value scope coefs values = weighted_sum coefs (scope_values scope values)

-- the constraint holds where each variable has its value: the values of its scope are as it means. Those of a user's
-- constraint are accepted by the exact run of its specification, whatever the bound on the cost
abbrev pub Holds : List ℕ → Constraint → Type 0
Holds values (AllDifferent scope) = AreDifferent (scope_values scope values)
Holds values (Among scope set least most) = AreAmong set least most (scope_values scope values)
Holds values (Sequence scope window set least most) = EachWindow window set least most (scope_values scope values)
Holds values (Gcc scope rows) = EachOccurs rows (scope_values scope values)
Holds values (Sum scope coefs least most) = SumLies coefs least most (scope_values scope values)
Holds values (User bound scope) = Accepts bound (pos 0) (scope_values scope values)

-- the constraint is one of a specification that the user wrote
pub data IsUsers : Constraint → Type 0 where
  is_users : {bound : BoundSpecification} {scope : List ℕ} → IsUsers (User bound scope)

-- each variable has one of its values, and every constraint holds
pub record IsSolution (p : PlainProblem) (values : List ℕ) : Type 0 where
  pub one_each : length values ≡ length p.domains
  pub inside : (variable : ℕ) → variable < length p.domains → Has (slice_index p.domains variable) (slice_index values variable)
  pub hold : All (Holds values) p.constraints

-- what values cost by an objective: its sum, or 0 where there is none
abbrev pub cost_by : Option Linear → List ℕ → ℤ
cost_by None values = pos 0
cost_by (Some linear) values = linear_value linear.scope linear.coefs values

-- what values cost in a problem
abbrev pub cost_of : PlainProblem → List ℕ → ℤ
cost_of p values = cost_by p.objective values

-- xs is ys, or comes before it in the order of lists, where the first difference decides
abbrev pub IsNotAfter : List ℕ → List ℕ → Type 0
IsNotAfter [] ys = Unit {0}
IsNotAfter (x ∷ xs) [] = ⊥
IsNotAfter (x ∷ xs) (y ∷ ys) = (x < y) ⊎ ((x ≡ y) × IsNotAfter xs ys)

-- the values are the first, in the order of lists, of the solutions of least cost
pub record IsAnswer (p : PlainProblem) (values : List ℕ) : Type 0 where
  pub solution : IsSolution p values
  pub least : (other : List ℕ) → IsSolution p other → cost_of p values ≤ℤ cost_of p other
  pub first : (other : List ℕ) → IsSolution p other → cost_of p other ≡ cost_of p values → IsNotAfter values other
