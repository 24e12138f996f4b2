-- Each part of a problem's groups accepts what a solution gives its scope, where it costs less than the bound; and it is
-- monotone.
use Rattle.std.proofs.Common.{◌≡◌, ℕ, ℤ, pos, ◌^◌, ◌<◌, ◌≤◌, ◌<ℤ◌, List, [], ◌∷◌, length, get_or, slice_index, All, Option, None, Some, sym, subst, inl, inr, arith}
use Rattle.std.specs.Int.{bit_at}
use Rattle.std.specs.List.{flat_map}
use Rattle.std.specs.Prelude.{IfSome}
use Rattle.std.proofs.lemmas.Bool.{cases_lt}
use Rattle.std.proofs.lemmas.List.{length-map}
use Rattle.std.proofs.lemmas.List.Elements.{All-map, All-weaker, All-head, All-tail}
use Rattle.std.proofs.lemmas.Nat.Bits.{bit_at_above}
use Rattle.hk_base.specs.Limits.{number_limit}
use Rattle.hk_base.specs.Sets.{Has}
use Rattle.hk_kinds.specs.Limits.{IsWithinLimit}
use Rattle.hk_spec.specs.Arguments.{IsCoefficient}
use Rattle.hk_spec.specs.Library.{alldifferent_bound, among_bound, sequence_bound, gcc_bound, sum_bound, objective_bound}
use Rattle.hk_spec.specs.Monotone.{IsMonotone}
use Rattle.hk_spec.specs.Runs.{Accepts}
use Rattle.hk_spec.proofs.WithoutBest.{accepts_same}
use Rattle.hk_grade.proofs.GradedSteps.{graded_monotone}
use Rattle.hk_group.specs.declared.problem.Constraint.{Constraint}
use Rattle.hk_group.specs.declared.problem.Constraint.TheVariants.{AllDifferent, Among, Sequence, Gcc, Sum, User}
use Rattle.hk_group.specs.declared.linear.Linear.{Linear}
use Rattle.hk_group.specs.Groups.{Part}
use Rattle.hk_group.specs.Grouping.{part_on, constraint_parts, objective_part, parts_in, HaveParts}
use Rattle.hk_group.specs.Limits.{greatest_coefficient}
use Rattle.hk_group.specs.Problems.{PlainProblem, IsValid, IsRow, IsScope, IsWithin, IsLinear, IsConstraint}
use Rattle.hk_group.specs.Solutions.{Holds, cost_of, cost_by, scope_values}
use Rattle.hk_group.proofs.SumSizes.{scope_short}
use Rattle.hk_lib.proofs.Counts.{among_by_count, gcc_by_occurrences}
use Rattle.hk_lib.proofs.Differing.{differing_accepted}
use Rattle.hk_lib.proofs.LibraryBounds.{alldifferent_fits, among_fits, gcc_fits, sequence_fits, sum_fits, objective_fits}
use Rattle.hk_lib.proofs.LibrarySenses.{alldifferent_graded, among_graded, sequence_graded, sum_graded, objective_graded}
use Rattle.hk_lib.proofs.WeightedSums.{sum_by_total, objective_by_total}
use Rattle.hk_lib.proofs.Windows.{windows_accepted}
use Rattle.hk_prop.proofs.Declared.{only_member}
use Rattle.hk_table.specs.Members.{Member}
use Rattle.hk_table.proofs.Members.{Member-cases, Member-append_cases, Member-append_left, Member-append_right, Member-map, Member-mapped, All-member}

-- what keeping a solution needs of a part
pub record IsSound (p : PlainProblem) (best : ℤ) (values : List ℕ) (part : Part) : Type 0 where
  pub accepts : Accepts part.bound best (scope_values part.scope values)
  pub monotone : IsMonotone part.bound

-- a set below 2 ^ 128 has values below 128
pub value_small : (set value : ℕ) → set < 2 ^ 128 → Has set value → value < 128
value_small set value fits has = elim (cases_lt value 128) [
  | inl less ↦ less
  | inr above ↦ let none : bit_at set value ≡ 0 = bit_at_above set 128 value fits above in let one : bit_at set value ≡ 1 = has in absurd (omega arith)
]

-- numbers within the limits are so in the words of specifications
within_limit : (n : ℤ) → IsWithin number_limit n → IsWithinLimit n
within_limit n is = record { least = is.above; most = is.below }

pub are_coefficients : (coefs : List ℤ) → All (IsWithin greatest_coefficient) coefs → All IsCoefficient coefs
are_coefficients coefs small = All-weaker (IsWithin greatest_coefficient) IsCoefficient (λ n is. record { least = is.above; most = is.below }) coefs small

module _ (p : PlainProblem) (valid : IsValid p) (best : ℤ) (values : List ℕ) (inside : (variable : ℕ) → variable < length p.domains → Has (slice_index p.domains variable) (slice_index values variable)) where
  -- what a scope has is small
  pub scope_small : (scope : List ℕ) → IsScope (length p.names) scope → All (λ value. value < 128) (scope_values scope values)
  scope_small scope over = All-map (λ value. value < 128) (λ variable. slice_index values variable) scope (λ k d within.
      let below : get_or scope k d < length p.domains = omega (arith, over.declared k d within, valid.named) in
      let domain = valid.domains (get_or scope k d) 0 below in
      value_small (slice_index p.domains (get_or scope k d)) (slice_index values (get_or scope k d)) domain.small (inside (get_or scope k d) below))

  pub scope_long : (scope : List ℕ) → length (scope_values scope values) ≡ length scope
  scope_long scope = length-map scope (λ variable. slice_index values variable)

  pub scope_few : (scope : List ℕ) → IsScope (length p.names) scope → length (scope_values scope values) ≤ 256
  scope_few scope over = omega (arith, scope_long scope, scope_short (length p.names) scope over, valid.variables)

  pub scope_some : (scope : List ℕ) → IsScope (length p.names) scope → 0 < length (scope_values scope values)
  scope_some scope over = omega (arith, scope_long scope, over.some)

  pub scope_fits : (scope : List ℕ) → IsScope (length p.names) scope → length scope < 65536
  scope_fits scope over = omega (arith, scope_short (length p.names) scope over, valid.variables)

  alldifferent_sound : (scope : List ℕ) → IsScope (length p.names) scope → Holds values (AllDifferent scope) → IsSound p best values (part_on scope (alldifferent_bound (length scope)))
  alldifferent_sound scope over holds = record {
    accepts = subst (λ n. Accepts (alldifferent_bound n) best (scope_values scope values)) (scope_long scope) ((differing_accepted best (scope_values scope values) (scope_few scope over) (scope_small scope over)).1 holds);
    monotone = graded_monotone (alldifferent_bound (length scope)) (alldifferent_fits (length scope) (scope_fits scope over)) alldifferent_graded;
  }

  among_sound : (scope : List ℕ) (set : ℕ) (least most : ℤ) → IsConstraint (length p.names) (Among scope set least most) → Holds values (Among scope set least most) → IsSound p best values (part_on scope (among_bound (length scope) set least most))
  among_sound scope set least most rules holds = record {
    accepts = (among_by_count (length scope) set least most best (scope_values scope values) (scope_some scope rules.over) (scope_few scope rules.over) (scope_small scope rules.over)).1 holds;
    monotone = graded_monotone (among_bound (length scope) set least most)
        (among_fits (length scope) set least most (scope_fits scope rules.over) rules.small (within_limit least rules.bounds.least_within) (within_limit most rules.bounds.most_within)) among_graded;
  }

  sequence_sound : (scope : List ℕ) (window set : ℕ) (least most : ℤ) → IsConstraint (length p.names) (Sequence scope window set least most) → Holds values (Sequence scope window set least most)
      → IsSound p best values (part_on scope (sequence_bound (length scope) window set least most))
  sequence_sound scope window set least most rules holds = let over = rules.counts.over in record {
    accepts = subst (λ n. Accepts (sequence_bound n window set least most) best (scope_values scope values)) (scope_long scope)
        ((windows_accepted window set least most best (scope_values scope values) rules.some rules.short (scope_few scope over) (scope_small scope over)).1 holds);
    monotone = graded_monotone (sequence_bound (length scope) window set least most)
        (sequence_fits (length scope) window set least most (scope_fits scope over) rules.some rules.short rules.counts.small (within_limit least rules.counts.bounds.least_within) (within_limit most rules.counts.bounds.most_within))
        (sequence_graded window);
  }

  gcc_sound : (scope : List ℕ) (rows : List (ℕ × ℤ × ℤ)) → IsConstraint (length p.names) (Gcc scope rows) → Holds values (Gcc scope rows) → (row : ℕ × ℤ × ℤ) → Member row rows → IsSound p best values (part_on scope (gcc_bound (length scope) row))
  gcc_sound scope rows rules holds row m =
      let over = rules.over in
      let all = (gcc_by_occurrences (length scope) rows best (scope_values scope values) (scope_some scope over) (scope_few scope over) (scope_small scope over)).1 holds in
      let row_rules = All-member IsRow rules.each m in record {
        accepts = All-member (λ bound. Accepts bound best (scope_values scope values)) all (Member-map (gcc_bound (length scope)) m);
        monotone = graded_monotone (gcc_bound (length scope) row)
            (gcc_fits (length scope) row (scope_fits scope over) row_rules.small (within_limit row.1 row_rules.bounds.least_within) (within_limit row.2 row_rules.bounds.most_within)) among_graded;
      }

  sum_sound : (scope : List ℕ) (coefs : List ℤ) (least most : ℤ) → IsConstraint (length p.names) (Sum scope coefs least most) → Holds values (Sum scope coefs least most) → IsSound p best values (part_on scope (sum_bound coefs least most))
  sum_sound scope coefs least most rules holds =
      let linear = rules.0 in
      let small = are_coefficients coefs linear.small in
      let long : length (scope_values scope values) ≡ length coefs = omega (arith, scope_long scope, linear.one_each) in record {
        accepts = (sum_by_total coefs least most best (scope_values scope values) small long (scope_some scope linear.over) (scope_few scope linear.over) (scope_small scope linear.over)).1 holds;
        monotone = graded_monotone (sum_bound coefs least most)
            (sum_fits coefs least most (omega (arith, linear.one_each, scope_fits scope linear.over)) small (within_limit least rules.1) (within_limit most rules.2)) sum_graded;
      }

  objective_sound : (linear : Linear) → IsLinear (length p.names) linear.scope linear.coefs → cost_by (Some linear) values <ℤ best → IsSound p best values (objective_part linear)
  unfolding objective_part
  objective_sound linear rules cheap =
      let small = are_coefficients linear.coefs rules.small in
      let long : length (scope_values linear.scope values) ≡ length linear.coefs = omega (arith, scope_long linear.scope, rules.one_each) in record {
        accepts = (objective_by_total linear.coefs best (scope_values linear.scope values) small long (scope_some linear.scope rules.over) (scope_few linear.scope rules.over) (scope_small linear.scope rules.over)).1 cheap;
        monotone = graded_monotone (objective_bound linear.coefs) (objective_fits linear.coefs (omega (arith, rules.one_each, scope_fits linear.scope rules.over)) small) objective_graded;
      }

  -- each part of a constraint that holds
  constraint_sound : (c : Constraint) → IsConstraint (length p.names) c → Holds values c → (part : Part) → Member part (constraint_parts c) → IsSound p best values part
  unfolding constraint_parts
  constraint_sound (AllDifferent scope) rules holds part m = subst (IsSound p best values) (sym (only_member m)) (alldifferent_sound scope rules holds)
  constraint_sound (Among scope set least most) rules holds part m = subst (IsSound p best values) (sym (only_member m)) (among_sound scope set least most rules holds)
  constraint_sound (Sequence scope window set least most) rules holds part m = subst (IsSound p best values) (sym (only_member m)) (sequence_sound scope window set least most rules holds)
  constraint_sound (Gcc scope rows) rules holds part m =
      let from = Member-mapped (λ row. part_on scope (gcc_bound (length scope) row)) rows m in
      subst (IsSound p best values) (sym from.2) (gcc_sound scope rows rules holds from.0 from.1)
  constraint_sound (Sum scope coefs least most) rules holds part m = subst (IsSound p best values) (sym (only_member m)) (sum_sound scope coefs least most rules holds)
  constraint_sound (User bound scope) rules holds part m = subst (IsSound p best values) (sym (only_member m)) (record {
    accepts = (accepts_same bound (scope_values scope values) (pos 0) best rules.1.no_best).0 holds;
    monotone = graded_monotone bound rules.1.rules rules.1.graded;
  })

  constraints_sound : (constraints : List Constraint) → All (IsConstraint (length p.names)) constraints → All (Holds values) constraints → (part : Part) → Member part (flat_map constraint_parts constraints) → IsSound p best values part
  constraints_sound [] rules hold part m = elim m [ ]
  constraints_sound (c ∷ constraints) rules hold part m = elim (Member-append_cases (constraint_parts c) m) [
    | inl here ↦ constraint_sound c (All-head (IsConstraint (length p.names)) c constraints rules) (All-head (Holds values) c constraints hold) part here
    | inr there ↦ constraints_sound constraints (All-tail (IsConstraint (length p.names)) c constraints rules) (All-tail (Holds values) c constraints hold) part there
  ]

  parts_sound : All (Holds values) p.constraints → (objective : Option Linear) → IfSome objective (λ linear. IsLinear (length p.names) linear.scope linear.coefs) → cost_by objective values <ℤ best → (parts : List Part) → HaveParts p.constraints objective parts
      → (part : Part) → Member part parts → IsSound p best values part
  parts_sound hold None rules cheap parts have part m = constraints_sound p.constraints valid.constraints hold part (subst (Member part) have m)
  parts_sound hold (Some linear) rules cheap parts have part m = elim (Member-append_cases have.front (subst (Member part) have.after m)) [
    | inl front ↦ constraints_sound p.constraints valid.constraints hold part (subst (Member part) (sym have.before) (Member-append_left have.back front))
    | inr back ↦ elim (Member-cases back) [
      | inl same ↦ subst (IsSound p best values) (sym same) (objective_sound linear rules cheap)
      | inr rest ↦ constraints_sound p.constraints valid.constraints hold part (subst (Member part) (sym have.before) (Member-append_right have.front rest))
    ]
  ]

  -- each part of a problem's groups
  pub all_sound : All (Holds values) p.constraints → cost_of p values <ℤ best → (part : Part) → Member part (parts_in p.groups) → IsSound p best values part
  all_sound hold cheap part m = parts_sound hold p.objective valid.objective cheap (parts_in p.groups) valid.parts part m
