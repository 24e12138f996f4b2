-- What the lines of a model declare so far: a problem that grows, and which constraints share a group.
use Rattle.std.specs.Prelude.{◌≡◌, ℕ, ◌<◌, ◌≤◌, Bool, true, false, List, [], ◌∷◌, ◌++◌, length, map, All, Option, None, IfSome}
use Rattle.std.specs.List.{flat_map}
use Rattle.hk_group.specs.declared.problem.Constraint.{Constraint}
use Rattle.hk_group.specs.declared.linear.Linear.{Linear}
use Rattle.hk_group.specs.Grouping.{HaveParts}
use Rattle.hk_group.specs.Groups.{Part, PlainGroup, IsPart, IsGroup}
use Rattle.hk_group.specs.Limits.{most_variables, most_name_bytes, most_constraints, most_groups}
use Rattle.hk_group.specs.Problems.{PlainProblem, IsConstraint, IsDomain, IsLinear}

-- what lines declare so far: a problem of whose groups the parts are known, and whether the next constraint or objective
-- begins a new group
pub record PlainDraft : Type 0 where
  pub names : List (List ℕ)
  pub domains : List ℕ
  pub constraints : List Constraint
  pub groups : List (List Part)
  pub objective : Option Linear
  pub fresh : Bool

-- the groups with parts at the end of the last one; where there is no group, they are the first one's
abbrev pub put_last : List (List Part) → List Part → List (List Part)
put_last [] parts = parts ∷ []
put_last (group ∷ []) parts = (group ++ parts) ∷ []
put_last (group ∷ next ∷ more) parts = group ∷ put_last (next ∷ more) parts

-- the groups with parts in a new one, or at the end of the last one
abbrev pub put : Bool → List (List Part) → List Part → List (List Part)
put true groups parts = groups ++ parts ∷ []
put false groups parts = put_last groups parts

-- the header alone is declared: what comes next begins the first group
abbrev pub empty_draft : PlainDraft
empty_draft = record { names = []; domains = []; constraints = []; groups = []; objective = None; fresh = true }

-- where what comes next begins a new group, there is room for one
abbrev pub HasGroup : PlainDraft → Type 0
HasGroup before = before.fresh ≡ true → length before.groups < most_groups

-- the problem is the one that was declared: each of its groups is composed of the parts that were declared for it
pub record IsOf (draft : PlainDraft) (p : PlainProblem) : Type 0 where
  pub names : p.names ≡ draft.names
  pub domains : p.domains ≡ draft.domains
  pub constraints : p.constraints ≡ draft.constraints
  pub objective : p.objective ≡ draft.objective
  pub groups : map (λ (group : PlainGroup). group.parts) p.groups ≡ draft.groups
  pub composed : All IsGroup p.groups

-- a group may be composed of the parts: there are some, and each keeps the rules of a part
pub record MakeGroup (parts : List Part) : Type 0 where
  pub some : 0 < length parts
  pub each : All IsPart parts

-- what is declared is within the limits, its constraints and its objective are about its variables, and the parts of its
-- groups are those of its constraints and of its objective
pub record IsValidDraft (draft : PlainDraft) : Type 0 where
  pub named : length draft.names ≡ length draft.domains
  pub variables : length draft.names ≤ most_variables
  pub names : All (λ name. length name ≤ most_name_bytes) draft.names
  pub domains : All IsDomain draft.domains
  pub few : length draft.constraints ≤ most_constraints
  pub constraints : All (IsConstraint (length draft.names)) draft.constraints
  pub objective : IfSome draft.objective (λ linear. IsLinear (length draft.names) linear.scope linear.coefs)
  pub few_groups : length draft.groups ≤ most_groups
  pub groups : All MakeGroup draft.groups
  pub parts : HaveParts draft.constraints draft.objective (flat_map (λ parts. parts) draft.groups)
