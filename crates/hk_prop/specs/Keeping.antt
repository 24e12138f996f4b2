-- What the passes of a node may rely on and what they promise: no solution is lost.
use Rattle.std.specs.Prelude.{◌≡◌, ℕ, ◌<◌, ℤ, ◌<ℤ◌, List, [], ◌∷◌, length, slice_index}
use Rattle.hk_base.specs.Sets.{Has}
use Rattle.hk_group.specs.Groups.{PlainGroup}
use Rattle.hk_group.specs.Problems.{PlainProblem}
use Rattle.hk_group.specs.Solutions.{IsSolution, cost_of, scope_values}
use Rattle.hk_sweep.specs.Loose.{group_shape}
use Rattle.hk_table.specs.Keeps.{Keeps}
use Rattle.hk_prop.specs.Contents.{PlainTable, Content}

-- the values are a solution with each value in the variable's domain, and cost less than the bound
pub record IsSolutionIn (p : PlainProblem) (domains : List ℕ) (best : ℤ) (values : List ℕ) : Type 0 where
  pub solution : IsSolution p values
  pub inside : (variable : ℕ) → variable < length domains → Has (slice_index domains variable) (slice_index values variable)
  pub cheap : cost_of p values <ℤ best

-- the table of each group keeps the values of the group's variables
pub data KeepEach (sets : List ℕ) (values : List ℕ) : List PlainGroup → List PlainTable → Type 0 where
  keep_none : KeepEach sets values [] []
  keep_more : {g : PlainGroup} {groups : List PlainGroup} {table : PlainTable} {tables : List PlainTable}
      → Keeps (group_shape g sets) table (scope_values g.vars values) → KeepEach sets values groups tables → KeepEach sets values (g ∷ groups) (table ∷ tables)

-- there is a set for each variable, and every table keeps every solution in the domains that costs less than the bound
pub record KeepsSolutions (p : PlainProblem) (best : ℤ) (at : Content) : Type 0 where
  pub one_each : length at.domains ≡ length p.domains
  pub keeps : (values : List ℕ) → IsSolutionIn p at.domains best values → KeepEach p.domains values p.groups at.tables

-- no such solution lies in the old domains and not in the new ones
abbrev pub LosesNone : PlainProblem → ℤ → List ℕ → List ℕ → Type 0
LosesNone p best old new = (values : List ℕ) → IsSolutionIn p old best values → IsSolutionIn p new best values

-- there is no such solution
abbrev pub HasNone : PlainProblem → ℤ → List ℕ → Type 0
HasNone p best domains = (values : List ℕ) → IsSolutionIn p domains best values → ⊥

-- each value of the inner domains stands in the outer ones
pub record AreInside (inner outer : List ℕ) : Type 0 where
  pub long : length inner ≡ length outer
  pub each : (variable value : ℕ) → variable < length inner → Has (slice_index inner variable) value → Has (slice_index outer variable) value
