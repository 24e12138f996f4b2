-- Which parts the constraints and the objective of a problem are: groups share them out, in order.
use Rattle.std.specs.Prelude.{◌≡◌, ℕ, List, [], ◌∷◌, ◌++◌, length, map, Option, None, Some}
use Rattle.std.specs.List.{flat_map}
use Rattle.hk_spec.specs.Library.{alldifferent_bound, among_bound, sequence_bound, gcc_bound, sum_bound, objective_bound}
use Rattle.hk_spec.specs.Specifications.{BoundSpecification}
use Rattle.hk_group.specs.declared.problem.Constraint.{Constraint}
use Rattle.hk_group.specs.declared.problem.Constraint.TheVariants.{AllDifferent, Among, Sequence, Gcc, Sum, User}
use Rattle.hk_group.specs.declared.linear.Linear.{Linear}
use Rattle.hk_group.specs.Groups.{Part, PlainGroup}

-- a specification about the variables of a scope
abbrev pub part_on : List ℕ → BoundSpecification → Part
part_on scope bound = record { bound = bound; scope = scope }

-- the parts of a constraint: the specification of its kind in the library, or the user's; a gcc has one for each row
unfoldable pub constraint_parts : Constraint → List Part
constraint_parts (AllDifferent scope) = part_on scope (alldifferent_bound (length scope)) ∷ []
constraint_parts (Among scope set least most) = part_on scope (among_bound (length scope) set least most) ∷ []
constraint_parts (Sequence scope window set least most) = part_on scope (sequence_bound (length scope) window set least most) ∷ []
constraint_parts (Gcc scope rows) = map (λ row. part_on scope (gcc_bound (length scope) row)) rows
constraint_parts (Sum scope coefs least most) = part_on scope (sum_bound coefs least most) ∷ []
constraint_parts (User bound scope) = part_on scope bound ∷ []

-- the part of the objective
unfoldable pub objective_part : Linear → Part
objective_part linear = part_on linear.scope (objective_bound linear.coefs)

-- the parts of groups, group after group
abbrev pub parts_in : List PlainGroup → List Part
parts_in groups = flat_map (λ (group : PlainGroup). group.parts) groups

-- the list with one item more, at some place
pub record IsWith {A : Type 0} (item : A) (items more : List A) : Type 0 where
  pub front : List A
  pub back : List A
  pub before : items ≡ front ++ back
  pub after : more ≡ front ++ item ∷ back

-- the parts are those of the constraints, in order, with the objective's, where there is one, at some place among them
abbrev pub HaveParts : List Constraint → Option Linear → List Part → Type 0
HaveParts constraints None parts = parts ≡ flat_map constraint_parts constraints
HaveParts constraints (Some linear) parts = IsWith (objective_part linear) (flat_map constraint_parts constraints) parts
