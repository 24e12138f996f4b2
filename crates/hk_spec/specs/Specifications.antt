-- Specifications and their rules, without and with arguments.
use Rattle.std.specs.Prelude.{ℕ, Bool, true, false, ◌&&◌, ◌<◌, ◌≤◌, List, [], ◌∷◌, ◌++◌, length, map, IsTrue}
use Rattle.std.specs.List.{list_all}
use Rattle.hk_kinds.specs.Shapes.{HasShape}
use Rattle.hk_kinds.specs.declared.kinds.Kind.{Kind}
use Rattle.hk_kinds.specs.declared.kinds.Kind.TheVariants.{Min, Max, Interval, SomeBits, AllBits}
use Rattle.hk_kinds.specs.declared.properties.Prop.{Prop}
use Rattle.hk_spec.specs.Arguments.{AreArguments}
use Rattle.hk_spec.specs.Names.{is_name, is_free_name, are_distinct}
use Rattle.hk_spec.specs.Scopes.{Scope, is_good_num, is_good_set, is_good_cond}
use Rattle.hk_spec.specs.declared.arguments.Arg.{Arg}
use Rattle.hk_spec.specs.declared.expressions.Cond.{Cond}
use Rattle.hk_spec.specs.declared.parts.Param.{Param}
use Rattle.hk_spec.specs.declared.parts.ParamKind.{ParamKind}
use Rattle.hk_spec.specs.declared.parts.PropDecl.{PropDecl}
use Rattle.hk_spec.specs.declared.parts.StepExpr.{StepExpr}
use Rattle.hk_spec.specs.declared.parts.StepExpr.TheVariants as step

-- a specification: its parameters, its properties of both sides, its test, and how each property steps
pub record Specification : Type 0 where
  pub name : List ℕ
  pub params : List Param
  pub down : List PropDecl
  pub up : List PropDecl
  pub test : Cond
  pub down_step : List StepExpr
  pub up_step : List StepExpr

-- the kinds of the parameters
abbrev pub param_kinds : Specification → List ParamKind
param_kinds s = map (λ (p : Param). p.kind) s.params

-- the kinds of properties
abbrev pub kinds_of_properties : List PropDecl → List Kind
kinds_of_properties = map (λ (p : PropDecl). p.kind)

-- the values of properties before the first, or after the last position
abbrev pub initial_values : List PropDecl → List Prop
initial_values = map (λ (p : PropDecl). p.init)

-- the shape of the down states
abbrev pub down_shape : Specification → List Kind
down_shape s = kinds_of_properties s.down

-- the shape of the up states
abbrev pub up_shape : Specification → List Kind
up_shape s = kinds_of_properties s.up

-- the names of parameters and properties, which are one list
abbrev pub names_of : Specification → List (List ℕ)
names_of s = map (λ (p : Param). p.name) s.params ++ (map (λ (p : PropDecl). p.name) s.down ++ map (λ (p : PropDecl). p.name) s.up)

-- what the test may name: parameters, the properties of both sides, and the bound
abbrev pub test_scope : Specification → Scope
test_scope s = record { params = param_kinds s; down = down_shape s; up = up_shape s; best = true }

-- what a down step may name: parameters and down properties
abbrev pub down_scope : Specification → Scope
down_scope s = record { params = param_kinds s; down = down_shape s; up = []; best = false }

-- what an up step may name: parameters and up properties
abbrev pub up_scope : Specification → Scope
up_scope s = record { params = param_kinds s; down = []; up = up_shape s; best = false }

-- whether a step has the form that the kind of its property asks, with good expressions
abbrev pub is_step : Scope → Kind → StepExpr → Bool
is_step scope Min (step.Num e) = is_good_num scope e
is_step scope Max (step.Num e) = is_good_num scope e
is_step scope Interval (step.Pair low high) = is_good_num scope low && is_good_num scope high
is_step scope SomeBits (step.Set e) = is_good_set scope e
is_step scope AllBits (step.Set e) = is_good_set scope e
is_step scope _ _ = false

-- whether there is one such step for each property
abbrev pub are_steps : Scope → List Kind → List StepExpr → Bool
are_steps scope [] [] = true
are_steps scope (kind ∷ kinds) (e ∷ steps) = is_step scope kind e && are_steps scope kinds steps
are_steps scope _ _ = false

-- the rules of a specification: names, limits, initial values of their kinds, a good test, one good step a property
pub record IsSpecification (s : Specification) : Type 0 where
  pub named : IsTrue (is_name s.name)
  pub free_names : IsTrue (list_all is_free_name (names_of s))
  pub distinct_names : IsTrue (are_distinct (names_of s))
  pub few_params : length s.params ≤ 16
  pub few_down : length s.down ≤ 32
  pub few_up : length s.up ≤ 32
  pub initial_down : HasShape (down_shape s) (initial_values s.down)
  pub initial_up : HasShape (up_shape s) (initial_values s.up)
  pub good_test : IsTrue (is_good_cond (test_scope s) s.test)
  pub good_down_steps : IsTrue (are_steps (down_scope s) (down_shape s) s.down_step)
  pub good_up_steps : IsTrue (are_steps (up_scope s) (up_shape s) s.up_step)

-- the test is a good one that does not name the bound on the cost; no step may name it
abbrev pub IsWithoutBest : Specification → Type 0
IsWithoutBest s = IsTrue (is_good_cond (record (test_scope s) { best = false }) s.test)

-- a specification with arguments, for lists of so many values
pub record BoundSpecification : Type 0 where
  pub spec : Specification
  pub args : List Arg
  pub len : ℕ

-- the arguments are those that the parameters ask, for lists of at most 65,535 values
pub record IsBound (b : BoundSpecification) : Type 0 where
  pub few : b.len < 65536
  pub rules : IsSpecification b.spec
  pub arguments : AreArguments b.len (param_kinds b.spec) b.args
