-- What a group is composed of, and what is kept of it so that a step looks nothing up.
use Rattle.std.specs.Prelude.{◌≡◌, ℕ, List, [], ◌∷◌, ◌++◌, length, map, All, Any, Option}
use Rattle.std.specs.List.{AllZip}
use Rattle.std.specs.List.Sorted.{IsStrictlyIncreasing}
use Rattle.hk_kinds.specs.declared.kinds.Kind.{Kind}
use Rattle.hk_spec.specs.Specifications.{BoundSpecification}
use Rattle.hk_group.specs.Groups.{Part, PlainGroup, IsGroup, place_in, group_down_shape, group_up_shape}
use Rattle.hk_group.specs.declared.faults.GroupFault.{GroupFault}
use Rattle.hk_group.specs.declared.faults.GroupFault.TheVariants as fault

-- each scope names as many variables as its specification is for
abbrev pub HaveLengths : List BoundSpecification → List (List ℕ) → Type 0
HaveLengths = AllZip (λ (bound : BoundSpecification) (scope : List ℕ). bound.len ≡ length scope)

-- specifications with their scopes, in order
abbrev pub parts_of : List BoundSpecification → List (List ℕ) → List Part
parts_of (bound ∷ bounds) (scope ∷ scopes) = record { bound = bound; scope = scope } ∷ parts_of bounds scopes
parts_of _ _ = []

-- the group has these specifications with these scopes as its parts
pub record IsComposed (bounds : List BoundSpecification) (scopes : List (List ℕ)) (g : PlainGroup) : Type 0 where
  pub parts : g.parts ≡ parts_of bounds scopes
  pub rules : IsGroup g

-- why no group was composed: a scope does not rise; or all do, and there was no memory
pub data IsGroupFault (scopes : List (List ℕ)) : GroupFault → Type 0 where
  not_rising : Any (λ scope. IsStrictlyIncreasing scope → ⊥) scopes → IsGroupFault scopes fault.Scope
  no_memory : All IsStrictlyIncreasing scopes → IsGroupFault scopes fault.Memory

-- the places of a variable in the scopes of parts
abbrev pub places_of : List Part → ℕ → List (Option ℕ)
places_of parts variable = map (λ (part : Part). place_in part.scope variable) parts

-- the places of variables in the scopes of parts, variable by variable
abbrev pub plan_of : List Part → List ℕ → List (Option ℕ)
plan_of parts [] = []
plan_of parts (variable ∷ vars) = places_of parts variable ++ plan_of parts vars

-- what is kept of a group beside its variables and parts: its plan and its shapes
pub record IsKept (g : PlainGroup) (places : List (Option ℕ)) (downs ups : List Kind) : Type 0 where
  pub rules : IsGroup g
  pub plan : places ≡ plan_of g.parts g.vars
  pub down : downs ≡ group_down_shape g
  pub up : ups ≡ group_up_shape g
