-- The specification of a constraint that is one part, put with its scope after the parts before it.
use Rattle.std.proofs.Common.{◌≡◌, ℕ, ◌≤◌, ℤ, List, [], ◌∷◌, ◌++◌, length, map, refl, sym, ap, subst, ◌∙◌, arith}
use Rattle.hk_spec.specs.Library.{alldifferent_bound, among_bound, sequence_bound, gcc_bound, gcc_bounds, sum_bound, objective_bound}
use Rattle.hk_spec.specs.Specifications.{BoundSpecification}
use Rattle.hk_group.specs.declared.linear.Linear.{Linear}
use Rattle.hk_group.specs.declared.problem.Constraint.{Constraint}
use Rattle.hk_group.specs.declared.problem.Constraint.TheVariants.{AllDifferent, Among, Sequence, Gcc, Sum, User}
use Rattle.hk_group.specs.Grouping.{part_on, constraint_parts, objective_part}
use Rattle.hk_group.specs.Groups.{Part}
use Rattle.hk_group.specs.Problems.{IsConstraint, IsLinear}
use Rattle.hk_group.proofs.SumSizes.{scope_short}
use Rattle.hk_draft.specs.declared.items.Rule.{Rule}
use Rattle.hk_draft.specs.declared.items.Rule.TheVariants as rule
use Rattle.hk_draft.specs.Items.{rule_parts}
use Rattle.hk_draft.specs.inside.Items.{IsSmallRule}

-- the parts of each kind
module _ (scope : List ℕ) where
  pub alldifferent_parts : constraint_parts (AllDifferent scope) ≡ part_on scope (alldifferent_bound (length scope)) ∷ []
  unfolding constraint_parts
  alldifferent_parts = refl

  pub among_parts : (set : ℕ) (least most : ℤ) → constraint_parts (Among scope set least most) ≡ part_on scope (among_bound (length scope) set least most) ∷ []
  unfolding constraint_parts
  among_parts set least most = refl

  pub sequence_parts : (window set : ℕ) (least most : ℤ) → constraint_parts (Sequence scope window set least most) ≡ part_on scope (sequence_bound (length scope) window set least most) ∷ []
  unfolding constraint_parts
  sequence_parts window set least most = refl

  pub sum_parts : (coefs : List ℤ) (least most : ℤ) → constraint_parts (Sum scope coefs least most) ≡ part_on scope (sum_bound coefs least most) ∷ []
  unfolding constraint_parts
  sum_parts coefs least most = refl

  pub user_parts : (bound : BoundSpecification) → constraint_parts (User bound scope) ≡ part_on scope bound ∷ []
  unfolding constraint_parts
  user_parts bound = refl

  pub gcc_parts : (rows : List (ℕ × ℤ × ℤ)) → constraint_parts (Gcc scope rows) ≡ map (part_on scope) (gcc_bounds (length scope) rows)
  unfolding constraint_parts
  gcc_parts [] = refl
  gcc_parts (row ∷ rows) = ap (λ parts. part_on scope (gcc_bound (length scope) row) ∷ parts) (gcc_parts rows)

module _ (whole front : List Part) where
  -- where one part is put after those before it, it is that of the constraint
  pub one_part : (given constraint : Constraint) (scope slice : List ℕ) (bound made : BoundSpecification) → given ≡ constraint → constraint_parts constraint ≡ part_on scope made ∷ [] → slice ≡ scope → bound ≡ made
      → whole ≡ front ++ part_on slice bound ∷ [] → whole ≡ front ++ constraint_parts given
  one_part given constraint scope slice bound made is parts same_scope same put =
      put ∙ ap (λ p. front ++ p) ((λ i. part_on (same_scope i) (same i) ∷ []) ∙ sym parts ∙ ap constraint_parts (sym is))

  -- those of a gcc
  pub row_parts : (given : Constraint) (scope slice : List ℕ) (rows listed : List (ℕ × ℤ × ℤ)) → given ≡ Gcc scope rows → slice ≡ scope → listed ≡ rows
      → whole ≡ front ++ map (part_on slice) (gcc_bounds (length slice) listed) → whole ≡ front ++ constraint_parts given
  row_parts given scope slice rows listed is same_scope same put =
      put ∙ ap (λ p. front ++ p) ((λ i. map (part_on (same_scope i)) (gcc_bounds (length (same_scope i)) (same i))) ∙ sym (gcc_parts scope rows) ∙ ap constraint_parts (sym is))

-- the coefficients of a sum on at most 256 variables are as few
pub coefs_few : (given : Constraint) (scope : List ℕ) (coefs : List ℤ) (least most : ℤ) → given ≡ Sum scope coefs least most → IsConstraint 256 given → length coefs ≤ 256
coefs_few given scope coefs least most is small =
    let sum : IsConstraint 256 (Sum scope coefs least most) = subst (IsConstraint 256) is small in
    let short = scope_short 256 scope sum.0.over in
    omega (arith, short, sum.0.one_each)

-- so are those of the objective
pub objective_few : (given : Rule) (linear : Linear) → given ≡ rule.Objective linear → IsSmallRule given → length linear.coefs ≤ 256
objective_few given linear is small =
    let is_linear : IsLinear 256 linear.scope linear.coefs = subst IsSmallRule is small in
    let short = scope_short 256 linear.scope is_linear.over in
    omega (arith, short, is_linear.one_each)

-- and its part
objective_one : (linear : Linear) → rule_parts (rule.Objective linear) ≡ part_on linear.scope (objective_bound linear.coefs) ∷ []
unfolding objective_part
objective_one linear = refl

pub objective_pushed : (whole front : List Part) (given : Rule) (linear : Linear) (slice : List ℕ) (bound : BoundSpecification) → given ≡ rule.Objective linear → slice ≡ linear.scope → bound ≡ objective_bound linear.coefs
    → whole ≡ front ++ part_on slice bound ∷ [] → whole ≡ front ++ rule_parts given
objective_pushed whole front given linear slice bound is same_scope same put =
    put ∙ ap (λ p. front ++ p) ((λ i. part_on (same_scope i) (same i) ∷ []) ∙ sym (objective_one linear) ∙ ap rule_parts (sym is))
