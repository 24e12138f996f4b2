-- What is read off the items of a draft: constraints, the objective, and the parts of groups.
use Rattle.std.specs.Prelude.{List, [], ◌∷◌, Option, None, Some}
use Rattle.std.specs.List.{flat_map}
use Rattle.hk_group.specs.declared.problem.Constraint.{Constraint}
use Rattle.hk_group.specs.declared.linear.Linear.{Linear}
use Rattle.hk_group.specs.Grouping.{constraint_parts, objective_part}
use Rattle.hk_group.specs.Groups.{Part}
use Rattle.hk_draft.specs.declared.items.Item.{Item}
use Rattle.hk_draft.specs.declared.items.Rule.{Rule}
use Rattle.hk_draft.specs.declared.items.Rule.TheVariants as rule
use Rattle.hk_draft.specs.Drafts.{put}

-- the constraint of a rule, where it is one
abbrev pub rule_constraints : Rule → List Constraint
rule_constraints (rule.Constraint constraint) = constraint ∷ []
rule_constraints (rule.Objective linear) = []

-- the objective of a rule, where it is one
abbrev pub rule_objective : Rule → Option Linear
rule_objective (rule.Constraint constraint) = None
rule_objective (rule.Objective linear) = Some linear

-- the parts of a rule
abbrev pub rule_parts : Rule → List Part
rule_parts (rule.Constraint constraint) = constraint_parts constraint
rule_parts (rule.Objective linear) = objective_part linear ∷ []

-- the first where there is one, or else the second
abbrev pub first_some : Option Linear → Option Linear → Option Linear
first_some None second = second
first_some (Some linear) second = Some linear

-- the constraints of items, in order
abbrev pub constraints_of : List Item → List Constraint
constraints_of items = flat_map (λ (item : Item). rule_constraints item.rule) items

-- the first objective of items
abbrev pub objective_of : List Item → Option Linear
objective_of [] = None
objective_of (item ∷ items) = first_some (rule_objective item.rule) (objective_of items)

-- groups with the parts of items put there one after the other
abbrev pub gather : List (List Part) → List Item → List (List Part)
gather groups [] = groups
gather groups (item ∷ items) = gather (put item.starts groups (rule_parts item.rule)) items
