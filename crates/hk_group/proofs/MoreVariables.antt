-- What is about so many variables is also about more of them.
use Rattle.std.proofs.Common.{ℕ, ◌<◌, ◌≤◌, ℤ, List, Option, None, Some, arith}
use Rattle.std.specs.Prelude.{IfSome}
use Rattle.std.proofs.lemmas.List.Elements.{All-weaker}
use Rattle.hk_group.specs.declared.problem.Constraint.{Constraint}
use Rattle.hk_group.specs.declared.problem.Constraint.TheVariants.{AllDifferent, Among, Sequence, Gcc, Sum, User}
use Rattle.hk_group.specs.declared.linear.Linear.{Linear}
use Rattle.hk_group.specs.Problems.{IsScope, IsAmong, IsLinear, IsConstraint}

-- a scope of variables is one of more variables
scope_more : (m n : ℕ) → m ≤ n → (scope : List ℕ) → IsScope m scope → IsScope n scope
scope_more m n more scope is = record {
  some = is.some;
  rising = is.rising;
  declared = All-weaker (λ v. v < m) (λ v. v < n) (λ v below. omega (arith, more, below)) scope is.declared;
}

-- a sum of variables is one of more variables
linear_more : (m n : ℕ) → m ≤ n → (scope : List ℕ) (coefs : List ℤ) → IsLinear m scope coefs → IsLinear n scope coefs
linear_more m n more scope coefs is = record { over = scope_more m n more scope is.over; one_each = is.one_each; small = is.small }

-- a count over variables is one over more variables
among_more : (m n : ℕ) → m ≤ n → (scope : List ℕ) (set : ℕ) (least most : ℤ) → IsAmong m scope set least most → IsAmong n scope set least most
among_more m n more scope set least most is = record { over = scope_more m n more scope is.over; small = is.small; bounds = is.bounds }

-- a constraint on variables is one on more variables
pub constraint_more : (m n : ℕ) → m ≤ n → (c : Constraint) → IsConstraint m c → IsConstraint n c
constraint_more m n more (AllDifferent scope) c = scope_more m n more scope c
constraint_more m n more (Among scope set least most) c = among_more m n more scope set least most c
constraint_more m n more (Sequence scope window set least most) c = record { counts = among_more m n more scope set least most c.counts; some = c.some; short = c.short }
constraint_more m n more (Gcc scope rows) c = record { over = scope_more m n more scope c.over; some = c.some; each = c.each; once = c.once }
constraint_more m n more (Sum scope coefs least most) c = (linear_more m n more scope coefs c.0, c.1, c.2)
constraint_more m n more (User bound scope) c = (scope_more m n more scope c.0, c.1)

-- an objective on variables is one on more variables
pub objective_more : (m n : ℕ) → m ≤ n → (objective : Option Linear)
    → IfSome objective (λ linear. IsLinear m linear.scope linear.coefs) → IfSome objective (λ linear. IsLinear n linear.scope linear.coefs)
objective_more m n more None is = tt
objective_more m n more (Some linear) is = linear_more m n more linear.scope linear.coefs is
