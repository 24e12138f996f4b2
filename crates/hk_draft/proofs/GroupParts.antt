-- The parts of what is declared may be composed to groups.
use Rattle.std.proofs.Common.{ℕ, ◌<◌, ◌≤◌, ℤ, Bool, true, false, List, [], ◌∷◌, ◌++◌, length, refl, sym, subst, arith, length-append}
use Rattle.std.specs.Prelude.{All}
use Rattle.std.proofs.lemmas.List.{length-map}
use Rattle.std.proofs.lemmas.List.Elements.{All-nil, All-cons, All-head, All-tail, All-push, All-append, All-map, All-weaker}
use Rattle.hk_base.specs.Limits.{number_limit}
use Rattle.hk_kinds.specs.Limits.{IsWithinLimit}
use Rattle.hk_spec.specs.Arguments.{IsCoefficient}
use Rattle.hk_spec.specs.Library.{gcc_bound}
use Rattle.hk_lib.proofs.LibraryBounds.{alldifferent_fits, among_fits, gcc_fits, sequence_fits, sum_fits, objective_fits}
use Rattle.hk_group.specs.declared.linear.Linear.{Linear}
use Rattle.hk_group.specs.declared.problem.Constraint.{Constraint}
use Rattle.hk_group.specs.declared.problem.Constraint.TheVariants.{AllDifferent, Among, Sequence, Gcc, Sum, User}
use Rattle.hk_group.specs.Grouping.{part_on, constraint_parts, objective_part}
use Rattle.hk_group.specs.Groups.{Part, IsPart}
use Rattle.hk_group.specs.Limits.{most_variables, greatest_coefficient}
use Rattle.hk_group.specs.Problems.{IsScope, IsWithin, IsRow, IsLinear, IsConstraint}
use Rattle.hk_group.proofs.SumSizes.{scope_short}
use Rattle.hk_draft.specs.Drafts.{MakeGroup, put, put_last}

-- one part makes a group
only : (part : Part) → IsPart part → MakeGroup (part ∷ [])
only part is = record { some = omega arith; each = All-cons IsPart part [] is (All-nil IsPart) }

-- numbers within their limits are those of specifications
pub in_limit : {n : ℤ} → IsWithin number_limit n → IsWithinLimit n
in_limit within = record { least = within.above; most = within.below }

pub coefficients : (coefs : List ℤ) → All (IsWithin greatest_coefficient) coefs → All IsCoefficient coefs
coefficients coefs small = All-weaker (IsWithin greatest_coefficient) IsCoefficient (λ n within. record { least = within.above; most = within.below }) coefs small

module _ (variables : ℕ) (few : variables ≤ most_variables) where
  short : (scope : List ℕ) → IsScope variables scope → length scope < 65536
  short scope is = let long = scope_short variables scope is in omega (arith, few, long)

  linear_short : (scope : List ℕ) (coefs : List ℤ) → IsLinear variables scope coefs → length coefs < 65536
  linear_short scope coefs is = let long = short scope is.over in omega (arith, long, is.one_each)

  row_part : (scope : List ℕ) → IsScope variables scope → (row : ℕ × ℤ × ℤ) → IsRow row → IsPart (part_on scope (gcc_bound (length scope) row))
  row_part scope over row is = record { rules = gcc_fits (length scope) row (short scope over) is.small (in_limit is.bounds.least_within) (in_limit is.bounds.most_within); len = refl; rising = over.rising }

  -- the parts of a constraint do
  pub constraint_group : (constraint : Constraint) → IsConstraint variables constraint → MakeGroup (constraint_parts constraint)
  unfolding constraint_parts
  constraint_group (AllDifferent scope) is = only _ (record { rules = alldifferent_fits (length scope) (short scope is); len = refl; rising = is.rising })
  constraint_group (Among scope set least most) is =
      only _ (record { rules = among_fits (length scope) set least most (short scope is.over) is.small (in_limit is.bounds.least_within) (in_limit is.bounds.most_within); len = refl; rising = is.over.rising })
  constraint_group (Sequence scope window set least most) is = only _ (record {
    rules = sequence_fits (length scope) window set least most (short scope is.counts.over) is.some is.short is.counts.small (in_limit is.counts.bounds.least_within) (in_limit is.counts.bounds.most_within);
    len = refl;
    rising = is.counts.over.rising;
  })
  constraint_group (Gcc scope rows) is = record {
    some = subst (λ n. 0 < n) (sym (length-map rows (λ row. part_on scope (gcc_bound (length scope) row)))) is.some;
    each = All-map IsPart (λ row. part_on scope (gcc_bound (length scope) row)) rows (All-weaker IsRow (λ row. IsPart (part_on scope (gcc_bound (length scope) row))) (row_part scope is.over) rows is.each);
  }
  constraint_group (Sum scope coefs least most) is = only _ (record {
    rules = sum_fits coefs least most (linear_short scope coefs is.0) (coefficients coefs is.0.small) (in_limit is.1) (in_limit is.2);
    len = is.0.one_each;
    rising = is.0.over.rising;
  })
  constraint_group (User bound scope) is = only _ (record { rules = is.1.rules; len = is.1.len; rising = is.0.rising })

  -- and that of the objective
  pub objective_group : (linear : Linear) → IsLinear variables linear.scope linear.coefs → MakeGroup (objective_part linear ∷ [])
  unfolding objective_part
  objective_group linear is = only _ (record { rules = objective_fits linear.coefs (linear_short linear.scope linear.coefs is) (coefficients linear.coefs is.small); len = is.one_each; rising = is.over.rising })

-- groups go on doing so with parts that do
module _ (parts : List Part) (make : MakeGroup parts) where
  joined_last : (group : List Part) → MakeGroup group → MakeGroup (group ++ parts)
  joined_last group is = record { some = (let some = is.some in let long = length-append group parts in omega (arith, some, long)); each = All-append IsPart group parts is.each make.each }

  groups_last : (groups : List (List Part)) → All MakeGroup groups → All MakeGroup (put_last groups parts)
  groups_last [] all = All-cons MakeGroup parts [] make (All-nil MakeGroup)
  groups_last (group ∷ []) all = All-cons MakeGroup (group ++ parts) [] (joined_last group (All-head MakeGroup group [] all)) (All-nil MakeGroup)
  groups_last (group ∷ next ∷ more) all =
      All-cons MakeGroup group (put_last (next ∷ more) parts) (All-head MakeGroup group (next ∷ more) all) (groups_last (next ∷ more) (All-tail MakeGroup group (next ∷ more) all))

  pub groups_put : (fresh : Bool) (groups : List (List Part)) → All MakeGroup groups → All MakeGroup (put fresh groups parts)
  groups_put true groups all = All-push MakeGroup groups parts all make
  groups_put false groups all = groups_last groups all
