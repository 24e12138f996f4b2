-- Where each part of a problem's groups accepts what values give its scope, the values are a solution below the bound.
use Rattle.std.proofs.Common.{refl, ℕ, ℤ, pos, ◌<◌, ◌<ℤ◌, List, [], ◌∷◌, ◌++◌, length, slice_index, All, Option, None, Some, sym, subst, arith}
use Rattle.std.specs.List.{flat_map}
use Rattle.std.specs.Prelude.{IfSome, IsNone}
use Rattle.std.proofs.lemmas.List.Elements.{All-nil, All-cons, All-head, All-tail}
use Rattle.hk_base.specs.Sets.{Has}
use Rattle.hk_spec.specs.Library.{alldifferent_bound, among_bound, sequence_bound, gcc_bound, gcc_bounds, sum_bound, objective_bound}
use Rattle.hk_spec.specs.Runs.{Accepts}
use Rattle.hk_spec.specs.Specifications.{BoundSpecification}
use Rattle.hk_spec.proofs.WithoutBest.{accepts_same}
use Rattle.hk_group.specs.declared.problem.Constraint.{Constraint}
use Rattle.hk_group.specs.declared.problem.Constraint.TheVariants.{AllDifferent, Among, Sequence, Gcc, Sum, User}
use Rattle.hk_group.specs.declared.linear.Linear.{Linear}
use Rattle.hk_group.specs.Groups.{Part}
use Rattle.hk_group.specs.Grouping.{part_on, constraint_parts, objective_part, parts_in, HaveParts}
use Rattle.hk_group.specs.Problems.{PlainProblem, IsValid, IsLinear, IsConstraint}
use Rattle.hk_group.specs.Solutions.{Holds, cost_of, cost_by, scope_values}
use Rattle.hk_lib.proofs.Counts.{among_by_count, gcc_by_occurrences}
use Rattle.hk_lib.proofs.Differing.{differing_accepted}
use Rattle.hk_lib.proofs.WeightedSums.{sum_by_total, objective_by_total}
use Rattle.hk_lib.proofs.Windows.{windows_accepted}
use Rattle.hk_table.specs.Members.{Member, first, later}
use Rattle.hk_table.proofs.Members.{Member-append_left, Member-append_right, Member-map, Member-mapped, All-from_members}
use Rattle.hk_prop.proofs.SoundParts.{scope_small, scope_long, scope_few, scope_some, are_coefficients}

module _ (p : PlainProblem) (valid : IsValid p) (best : ℤ) (values : List ℕ) (inside : (variable : ℕ) → variable < length p.domains → Has (slice_index p.domains variable) (slice_index values variable)) where
  accepted : Part → Type 0
  accepted part = Accepts part.bound best (scope_values part.scope values)

  -- a constraint whose parts accept holds
  constraint_holds : (c : Constraint) → IsConstraint (length p.names) c → ((part : Part) → Member part (constraint_parts c) → Accepts part.bound best (scope_values part.scope values)) → Holds values c
  unfolding constraint_parts
  constraint_holds (AllDifferent scope) over accepts =
      (differing_accepted best (scope_values scope values) (scope_few p valid best values inside scope over) (scope_small p valid best values inside scope over)).0
      (subst (λ n. Accepts (alldifferent_bound n) best (scope_values scope values)) (sym (scope_long p valid best values inside scope)) (accepts (part_on scope (alldifferent_bound (length scope))) first))
  constraint_holds (Among scope set least most) rules accepts = let over = rules.over in
      (among_by_count (length scope) set least most best (scope_values scope values) (scope_some p valid best values inside scope over) (scope_few p valid best values inside scope over) (scope_small p valid best values inside scope over)).0
      (accepts (part_on scope (among_bound (length scope) set least most)) first)
  constraint_holds (Sequence scope window set least most) rules accepts = let over = rules.counts.over in
      (windows_accepted window set least most best (scope_values scope values) rules.some rules.short (scope_few p valid best values inside scope over) (scope_small p valid best values inside scope over)).0
      (subst (λ n. Accepts (sequence_bound n window set least most) best (scope_values scope values)) (sym (scope_long p valid best values inside scope)) (accepts (part_on scope (sequence_bound (length scope) window set least most)) first))
  constraint_holds (Gcc scope rows) rules accepts = let over = rules.over in
      (gcc_by_occurrences (length scope) rows best (scope_values scope values) (scope_some p valid best values inside scope over) (scope_few p valid best values inside scope over) (scope_small p valid best values inside scope over)).0
      (All-from_members (λ (bound : BoundSpecification). Accepts bound best (scope_values scope values)) (gcc_bounds (length scope) rows) (λ bound m.
      let from = Member-mapped (gcc_bound (length scope)) rows m in
      subst (λ (b : BoundSpecification). Accepts b best (scope_values scope values)) (sym from.2) (accepts (part_on scope (gcc_bound (length scope) from.0)) (Member-map (λ row. part_on scope (gcc_bound (length scope) row)) from.1))))
  constraint_holds (Sum scope coefs least most) rules accepts = let linear = rules.0 in
      (sum_by_total coefs least most best (scope_values scope values) (are_coefficients coefs linear.small) (omega (arith, scope_long p valid best values inside scope, linear.one_each))
      (scope_some p valid best values inside scope linear.over) (scope_few p valid best values inside scope linear.over) (scope_small p valid best values inside scope linear.over)).0
      (accepts (part_on scope (sum_bound coefs least most)) first)
  constraint_holds (User bound scope) rules accepts = (accepts_same bound (scope_values scope values) (pos 0) best rules.1.no_best).1 (accepts (part_on scope bound) first)

  constraints_hold : (constraints : List Constraint) → All (IsConstraint (length p.names)) constraints → ((part : Part) → Member part (flat_map constraint_parts constraints) → Accepts part.bound best (scope_values part.scope values)) → All (Holds values) constraints
  constraints_hold [] rules accepts = All-nil (Holds values)
  constraints_hold (c ∷ constraints) rules accepts =
      All-cons (Holds values) c constraints
      (constraint_holds c (All-head (IsConstraint (length p.names)) c constraints rules) (λ part m. accepts part (Member-append_left (flat_map constraint_parts constraints) m)))
      (constraints_hold constraints (All-tail (IsConstraint (length p.names)) c constraints rules) (λ part m. accepts part (Member-append_right (constraint_parts c) m)))

  objective_below : (linear : Linear) → IsLinear (length p.names) linear.scope linear.coefs → Accepts (objective_bound linear.coefs) best (scope_values linear.scope values) → cost_by (Some linear) values <ℤ best
  objective_below linear rules accepts =
      (objective_by_total linear.coefs best (scope_values linear.scope values) (are_coefficients linear.coefs rules.small) (omega (arith, scope_long p valid best values inside linear.scope, rules.one_each))
      (scope_some p valid best values inside linear.scope rules.over) (scope_few p valid best values inside linear.scope rules.over) (scope_small p valid best values inside linear.scope rules.over)).0 accepts

  all_hold : (objective : Option Linear) → IfSome objective (λ linear. IsLinear (length p.names) linear.scope linear.coefs) → (parts : List Part) → HaveParts p.constraints objective parts
      → ((part : Part) → Member part parts → Accepts part.bound best (scope_values part.scope values)) → (IsNone objective → pos 0 <ℤ best) → All (Holds values) p.constraints × (cost_by objective values <ℤ best)
  unfolding objective_part
  all_hold None rules parts have accepts free = (constraints_hold p.constraints valid.constraints (λ part m. accepts part (subst (Member part) (sym have) m)), free refl)
  all_hold (Some linear) rules parts have accepts free = (
    constraints_hold p.constraints valid.constraints (λ part m. accepts part (subst (Member part) (sym have.after) (around have.front have.back (objective_part linear) (subst (Member part) have.before m)))),
    objective_below linear rules (accepts (objective_part linear) (subst (Member (objective_part linear)) (sym have.after) (Member-append_right have.front first))),
  )
    where
      around : (front back : List Part) (item : Part) {part : Part} → Member part (front ++ back) → Member part (front ++ item ∷ back)
      around [] back item m = later m
      around (x ∷ front) back item first = first
      around (x ∷ front) back item (later m) = later (around front back item m)

  -- the constraints hold, and the cost is below the bound, which is above 0 where there is no objective
  pub solves_all : ((part : Part) → Member part (parts_in p.groups) → Accepts part.bound best (scope_values part.scope values)) → (IsNone p.objective → pos 0 <ℤ best) → All (Holds values) p.constraints × (cost_of p values <ℤ best)
  solves_all accepts free = all_hold p.objective valid.objective (parts_in p.groups) valid.parts accepts free
