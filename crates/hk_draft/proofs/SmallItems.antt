-- The rules of a valid draft are about at most 256 variables, and their numbers are within the limits; there is one objective at most.
use Rattle.std.proofs.Common.{◌≡◌, ℕ, ◌+◌, ◌<◌, ◌≤◌, Bool, List, [], ◌∷◌, ◌++◌, length, Option, None, Some, refl, sym, ap, subst, ◌∙◌, arith, append_assoc, length-append}
use Rattle.std.specs.Prelude.{All, IfSome}
use Rattle.std.specs.List.{flat_map}
use Rattle.std.proofs.lemmas.List.{append-nil}
use Rattle.std.proofs.lemmas.List.Elements.{All-nil, All-cons, All-head, All-tail, All-weaker}
use Rattle.hk_group.specs.declared.linear.Linear.{Linear}
use Rattle.hk_group.specs.declared.problem.Constraint.{Constraint}
use Rattle.hk_spec.specs.Specifications.{BoundSpecification}
use Rattle.hk_group.specs.Composed.{HaveLengths, parts_of}
use Rattle.hk_group.specs.Grouping.{constraint_parts, objective_part, HaveParts}
use Rattle.hk_group.specs.Groups.{Part}
use Rattle.hk_group.specs.Limits.{most_variables}
use Rattle.hk_group.specs.Problems.{IsConstraint, IsLinear}
use Rattle.hk_group.proofs.MoreVariables.{constraint_more, objective_more}
use Rattle.hk_draft.specs.declared.items.Item.{Item}
use Rattle.hk_draft.specs.declared.items.Rule.{Rule}
use Rattle.hk_draft.specs.declared.items.Rule.TheVariants as rule
use Rattle.hk_draft.specs.Drafts.{IsValidDraft, put}
use Rattle.hk_draft.specs.Items.{rule_constraints, rule_objective, rule_parts, first_some, constraints_of, objective_of, gather}
use Rattle.hk_draft.specs.inside.Items.{item_parts, IsSmallRule, AreSmallItems}
use Rattle.hk_draft.proofs.GroupParts.{constraint_group}
use Rattle.hk_draft.proofs.Naming.{Key, draft_of}
use Rattle.hk_draft.proofs.PartsDeclared.{all_parts, all_put}

-- how many objectives there are among items
abbrev rule_linears : Rule → ℕ
rule_linears (rule.Constraint constraint) = 0
rule_linears (rule.Objective linear) = 1

abbrev linears : List Item → ℕ
linears [] = 0
linears (item ∷ items) = rule_linears item.rule + linears items

-- the parts of all groups are those of the items
all_gather : (groups : List (List Part)) (items : List Item) → all_parts (gather groups items) ≡ all_parts groups ++ item_parts items
all_gather groups [] = sym (append-nil (all_parts groups))
all_gather groups (item ∷ items) =
    all_gather (put item.starts groups (rule_parts item.rule)) items
    ∙ ap (λ front. front ++ item_parts items) (all_put (rule_parts item.rule) item.starts groups)
    ∙ append_assoc (all_parts groups) (rule_parts item.rule) (item_parts items)

-- each objective has one part
counted : (items : List Item) → length (item_parts items) ≡ linears items + length (flat_map constraint_parts (constraints_of items))
counted [] = refl
counted (item ∷ items) = by item.rule (counted items)
  where
    by : (r : Rule) → length (item_parts items) ≡ linears items + length (flat_map constraint_parts (constraints_of items)) → length (rule_parts r ++ item_parts items) ≡ (rule_linears r + linears items) + length (flat_map constraint_parts (rule_constraints r ++ constraints_of items))
    by (rule.Constraint constraint) rest =
        let all = length-append (constraint_parts constraint) (item_parts items) in
        let each = length-append (constraint_parts constraint) (flat_map constraint_parts (constraints_of items)) in
        omega (arith, all, each, rest)
    by (rule.Objective linear) rest = omega (arith, rest)

-- so there is one at most where the parts are those of the constraints and of one objective
have_few : (constraints : List Constraint) (objective : Option Linear) (parts : List Part) → HaveParts constraints objective parts → length parts ≤ length (flat_map constraint_parts constraints) + 1
have_few constraints None parts have = let same = ap length have in omega (arith, same)
have_few constraints (Some linear) parts have =
    let before = ap length have.before ∙ length-append have.front have.back in
    let after = ap length have.after ∙ length-append have.front (objective_part linear ∷ have.back) in
    omega (arith, before, after)

one_linear : (items : List Item) → HaveParts (constraints_of items) (objective_of items) (all_parts (gather [] items)) → linears items ≤ 1
one_linear items have =
    let few = have_few (constraints_of items) (objective_of items) (all_parts (gather [] items)) have in
    let same = ap length (all_gather [] items) in
    let count = counted items in
    omega (arith, few, same, count)

no_linear : (items : List Item) → linears items ≤ 0 → objective_of items ≡ None
no_linear [] few = refl
no_linear (item ∷ items) few = by item.rule few (no_linear items)
  where
    by : (r : Rule) → rule_linears r + linears items ≤ 0 → (linears items ≤ 0 → objective_of items ≡ None) → first_some (rule_objective r) (objective_of items) ≡ None
    by (rule.Constraint constraint) few rest = rest (omega (arith, few))
    by (rule.Objective linear) few rest = absurd (omega (arith, few))

-- the objective is about at most 256 variables
abbrev IsSmallLinear : Linear → Type 0
IsSmallLinear linear = IsLinear most_variables linear.scope linear.coefs

-- what is small of a rule and those after it
small_first : (r : Rule) (items : List Item) → rule_linears r + linears items ≤ 1 → All (IsConstraint most_variables) (rule_constraints r ++ constraints_of items) → IfSome (first_some (rule_objective r) (objective_of items)) IsSmallLinear
    → IsSmallRule r × (linears items ≤ 1) × All (IsConstraint most_variables) (constraints_of items) × IfSome (objective_of items) IsSmallLinear
small_first (rule.Constraint constraint) items one all objective =
    (All-head (IsConstraint most_variables) constraint (constraints_of items) all, omega (arith, one), All-tail (IsConstraint most_variables) constraint (constraints_of items) all, objective)
small_first (rule.Objective linear) items one all objective =
    (objective, omega (arith, one), all, subst (λ o. IfSome o IsSmallLinear) (sym (no_linear items (omega (arith, one)))) tt)

small_items : (items : List Item) → linears items ≤ 1 → All (IsConstraint most_variables) (constraints_of items) → IfSome (objective_of items) IsSmallLinear → AreSmallItems items
small_items [] one all objective = All-nil (λ (item : Item). IsSmallRule item.rule)
small_items (item ∷ items) one all objective =
    let first = small_first item.rule items one all objective in
    All-cons (λ (i : Item). IsSmallRule i.rule) item items first.0 (small_items items first.1 first.2 first.3)

-- so are the items of a valid draft
pub draft_small : (entries : List (Key × ℕ)) (items : List Item) (fresh : Bool) → IsValidDraft (draft_of entries items fresh) → AreSmallItems items
draft_small entries items fresh valid = small_items items (one_linear items valid.parts)
    (All-weaker (IsConstraint (length (draft_of entries items fresh).names)) (IsConstraint most_variables) (constraint_more (length (draft_of entries items fresh).names) most_variables valid.variables) (constraints_of items) valid.constraints)
    (objective_more (length (draft_of entries items fresh).names) most_variables valid.variables (objective_of items) valid.objective)

-- such items have parts
rule_some : (r : Rule) → IsSmallRule r → 0 < length (rule_parts r)
rule_some (rule.Constraint constraint) is = (constraint_group most_variables (omega arith) constraint is).some
rule_some (rule.Objective linear) is = omega arith

items_some : (items : List Item) → 0 < length items → AreSmallItems items → 0 < length (item_parts items)
items_some [] some small = absurd (omega (arith, some))
items_some (item ∷ items) some small =
    let first = rule_some item.rule (All-head (λ (i : Item). IsSmallRule i.rule) item items small) in
    let all = length-append (rule_parts item.rule) (item_parts items) in
    omega (arith, first, all)

bounds_some : (bounds : List BoundSpecification) (scopes : List (List ℕ)) → HaveLengths bounds scopes → 0 < length (parts_of bounds scopes) → 0 < length bounds
bounds_some [] [] lengths some = absurd (omega (arith, some))
bounds_some [] (scope ∷ scopes) lengths some = absurd lengths
bounds_some (bound ∷ bounds) scopes lengths some = omega arith

-- so there are specifications of which their group is composed
pub specs_some : (bounds : List BoundSpecification) (scopes : List (List ℕ)) (items : List Item) → HaveLengths bounds scopes → parts_of bounds scopes ≡ item_parts items → 0 < length items → AreSmallItems items → 0 < length bounds
specs_some bounds scopes items lengths parts some small = bounds_some bounds scopes lengths (subst (λ (ps : List Part). 0 < length ps) (sym parts) (items_some items some small))
