-- Items one after the other: what one more declares, which make a group, and which are within the limits.
use Rattle.std.specs.Prelude.{true, false, ◌≡◌, List, [], ◌∷◌, ◌++◌, All}
use Rattle.std.specs.List.{flat_map}
use Rattle.hk_group.specs.Groups.{Part}
use Rattle.hk_group.specs.Limits.{most_variables}
use Rattle.hk_group.specs.Problems.{IsConstraint, IsLinear}
use Rattle.hk_draft.specs.declared.items.Item.{Item}
use Rattle.hk_draft.specs.declared.items.Rule.{Rule}
use Rattle.hk_draft.specs.declared.items.Rule.TheVariants as rule
use Rattle.hk_draft.specs.Drafts.{PlainDraft, put}
use Rattle.hk_draft.specs.Items.{rule_constraints, rule_objective, rule_parts, first_some}

-- the parts of items, in order
abbrev pub item_parts : List Item → List Part
item_parts items = flat_map (λ (item : Item). rule_parts item.rule) items

-- the draft with one rule more
abbrev pub with_rule : PlainDraft → Rule → PlainDraft
with_rule before added = record before {
  constraints = before.constraints ++ rule_constraints added;
  groups = put before.fresh before.groups (rule_parts added);
  objective = first_some before.objective (rule_objective added);
  fresh = false;
}

-- none of the items but the first begins a group
abbrev pub IsRun : List Item → Type 0
IsRun [] = ⊥
IsRun (first ∷ later) = All (λ (item : Item). item.starts ≡ false) later

-- there is no item, or the first begins a group
abbrev pub BeginsGroup : List Item → Type 0
BeginsGroup [] = Unit {0}
BeginsGroup (item ∷ items) = item.starts ≡ true

-- a rule about at most 256 variables, whose numbers are within the limits
abbrev pub IsSmallRule : Rule → Type 0
IsSmallRule (rule.Constraint constraint) = IsConstraint most_variables constraint
IsSmallRule (rule.Objective linear) = IsLinear most_variables linear.scope linear.coefs

-- items of such rules
abbrev pub AreSmallItems : List Item → Type 0
AreSmallItems items = All (λ (item : Item). IsSmallRule item.rule) items
