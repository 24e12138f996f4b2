-- What holds of a specification whose lines are read one by one.
use Rattle.std.specs.Prelude.{◌≡◌, ◌≤◌, ◌<◌, List, [], length, take, None, Some, IfSome, IsSome, IsTrue}
use Rattle.std.specs.List.{list_all}
use Rattle.hk_kinds.specs.Shapes.{HasShape, IsOfKind}
use Rattle.hk_spec.specs.Names.{is_name, is_free_name, are_distinct}
use Rattle.hk_spec.specs.Scopes.{Scope, is_good_cond}
use Rattle.hk_spec.specs.Specifications.{Specification, kinds_of_properties, initial_values, are_steps, is_step}
use Rattle.hk_spec.specs.declared.expressions.Cond.{Cond}
use Rattle.hk_spec.specs.declared.expressions.Side.{Side}
use Rattle.hk_spec.specs.declared.expressions.Side.TheVariants.{Down, Up}
use Rattle.hk_spec.specs.declared.parts.PropDecl.{PropDecl}
use Rattle.hk_spec.specs.declared.parts.StepExpr.{StepExpr}
use Rattle.hk_text.specs.Lexemes.{IsWord}
use Rattle.hk_parse.specs.BlockLines.{Part, IsTaken, due, part_names, side_of, step_names, test_names}
use Rattle.hk_terms.specs.Names.{scope_of}

-- the steps are good ones of the first properties, one each
pub record AreFirstSteps (scope : Scope) (properties : List PropDecl) (steps : List StepExpr) : Type 0 where
  pub few : length steps ≤ length properties
  pub good : IsTrue (are_steps scope (take (length steps) (kinds_of_properties properties)) steps)

-- what is there is as in a specification; the steps come after the test, those of the up side after those of the down side
pub record IsPart (part : Part) : Type 0 where
  pub named : IsTrue (is_name part.name)
  pub free_names : IsTrue (list_all is_free_name (part_names part))
  pub distinct_names : IsTrue (are_distinct (part_names part))
  pub few_params : length part.params ≤ 16
  pub few_down : length part.down ≤ 32
  pub few_up : length part.up ≤ 32
  pub initial_down : HasShape (kinds_of_properties part.down) (initial_values part.down)
  pub initial_up : HasShape (kinds_of_properties part.up) (initial_values part.up)
  pub good_test : IfSome part.test (λ c. IsTrue (is_good_cond (scope_of (test_names part)) c))
  pub test_first : part.test ≡ None → (part.down_step ≡ []) × (part.up_step ≡ [])
  pub down_first : length part.down_step < length part.down → part.up_step ≡ []
  pub down_steps : AreFirstSteps (scope_of (record { params = part.params; down = part.down; up = [] })) part.down part.down_step
  pub up_steps : AreFirstSteps (scope_of (record { params = part.params; down = []; up = part.up })) part.up part.up_step

-- the whole specification is what the lines say
abbrev pub IsWhole : Part → Specification → Type 0
IsWhole part s = part ≡ record { name = s.name; params = s.params; down = s.down; up = s.up; test = Some s.test; down_step = s.down_step; up_step = s.up_step }

-- a property of this side may stand next
abbrev pub AwaitsProperty : Part → Side → Type 0
AwaitsProperty part Down = (part.test ≡ None) × (part.up ≡ [])
AwaitsProperty part Up = part.test ≡ None

-- the property may be added to this side
pub record FitsProperty (part : Part) (side : Side) (p : PropDecl) : Type 0 where
  pub awaited : AwaitsProperty part side
  pub is_word : IsWord p.name
  pub short : length p.name ≤ 32
  pub free : IsTaken (part_names part) p.name → ⊥
  pub few : length (side_of part side) < 32
  pub is_of_kind : IsOfKind p.kind p.init

-- the test may be added
pub record FitsTest (part : Part) (c : Cond) : Type 0 where
  pub awaited : part.test ≡ None
  pub good : IsTrue (is_good_cond (scope_of (test_names part)) c)

-- the step may be added, that of the property which is due
pub record FitsStep (part : Part) (e : StepExpr) : Type 0 where
  pub tested : IsSome part.test
  pub property : PropDecl
  pub is_due : due part ≡ Some property
  pub good : IsTrue (is_step (scope_of (step_names part)) property.kind e)
