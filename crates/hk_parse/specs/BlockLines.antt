-- What a line of a specification adds to the lines before it, and why a line is bad.
use Rattle.std.specs.Prelude.{◌≡◌, ℕ, ◌+◌, ◌<◌, ◌≤◌, ◌⊎◌, nat_lt, if◌then◌else◌, List, [], ◌∷◌, ◌++◌, length, map, All, Any, Contains, Option, None, Some, IfSome, IsSome, slice_get, false, IsTrue}
use Rattle.hk_kinds.specs.declared.kinds.Kind.{Kind}
use Rattle.hk_kinds.specs.declared.properties.Prop.{Prop}
use Rattle.hk_kinds.specs.Shapes.{IsOfKind}
use Rattle.hk_spec.specs.Names.{reserved_words, are_distinct}
use Rattle.hk_spec.specs.Scopes.{is_good_cond}
use Rattle.hk_spec.specs.Specifications.{Specification, is_step}
use Rattle.hk_spec.specs.declared.expressions.Cond.{Cond}
use Rattle.hk_spec.specs.declared.expressions.Side.{Side}
use Rattle.hk_spec.specs.declared.expressions.Side.TheVariants.{Down, Up}
use Rattle.hk_spec.specs.declared.parts.Param.{Param}
use Rattle.hk_spec.specs.declared.parts.PropDecl.{PropDecl}
use Rattle.hk_spec.specs.declared.parts.StepExpr.{StepExpr}
use Rattle.hk_parse.specs.LineTexts.{ParamText, InitText, Single, Pair, Values, StepText, ToNumber, ToPair, ToSet, LineText, Begin, Property, Test, Step, End, HasForm}
use Rattle.hk_terms.specs.Names.{Names, scope_of, NamesSet, NamesNum, NamesCond, SmallSet, SmallNum, SmallCond, WritesUpTo, set_depth, num_depth, cond_depth}
use Rattle.hk_parse.specs.LineTrees.{init_text, step_text}
use Rattle.hk_terms.specs.Trees.{cond_text}

-- what the lines of a specification say so far
pub record Part : Type 0 where
  pub name : List ℕ
  pub params : List Param
  pub down : List PropDecl
  pub up : List PropDecl
  pub test : Option Cond
  pub down_step : List StepExpr
  pub up_step : List StepExpr

-- the names of parameters and properties so far
abbrev pub part_names : Part → List (List ℕ)
part_names part = map (λ (p : Param). p.name) part.params ++ (map (λ (p : PropDecl). p.name) part.down ++ map (λ (p : PropDecl). p.name) part.up)

-- the property whose step is due: first those of the down side in order, then those of the up side
abbrev pub due : Part → Option PropDecl
due part = slice_get (part.down ++ part.up) (length part.down_step + length part.up_step)

-- the step at the end of a side's steps, with the kind of its property, where there is a step
abbrev pub last_step : List PropDecl → List StepExpr → Option (Kind × StepExpr)
last_step (p ∷ properties) (e ∷ []) = Some (p.kind, e)
last_step (p ∷ properties) (e ∷ next ∷ steps) = last_step properties (next ∷ steps)
last_step _ _ = None

-- the latest step, with the kind of its property: the last one of the up side, or else of the down side
abbrev pub latest_step : Part → Option (Kind × StepExpr)
latest_step part = by (last_step part.up part.up_step)
  where
    by : Option (Kind × StepExpr) → Option (Kind × StepExpr)
    by (Some latest) = Some latest
    by None = last_step part.down part.down_step

-- what the test may name
abbrev pub test_names : Part → Names
test_names part = record { params = part.params; down = part.down; up = part.up }

-- what the step that is due may name: parameters, and the properties of its own side
abbrev pub step_names : Part → Names
step_names part = if nat_lt (length part.down_step) (length part.down)
    then record { params = part.params; down = part.down; up = [] }
    else record { params = part.params; down = []; up = part.up }

-- a line may stand after the first: properties of the down side, then of the up side, then the test, then a step for each property in the form that its kind asks, and then the end
abbrev pub MayStand : Part → LineText → Type 0
MayStand part (Begin name params) = ⊥
MayStand part (Property Down name kind init) = (part.test ≡ None) × (part.up ≡ [])
MayStand part (Property Up name kind init) = part.test ≡ None
MayStand part (Test test) = part.test ≡ None
MayStand part (Step name step) = IsSome part.test × IsSome (due part) × IfSome (due part) (λ p. HasForm p.kind step)
MayStand part End = IsSome part.test × (due part ≡ None)

-- the name of a parameter or a property is a reserved word, or one that stands already
abbrev pub IsTaken : List (List ℕ) → List ℕ → Type 0
IsTaken names name = Contains reserved_words name ⊎ Contains names name

-- the names of parameters, as they are written
abbrev pub param_names : List ParamText → List (List ℕ)
param_names params = map (λ (p : ParamText). p.name) params

-- each name of a step stands for what its place asks
abbrev pub NamesStep : Names → StepText → Type 0
NamesStep names (ToNumber e) = NamesNum names e
NamesStep names (ToPair low high) = NamesNum names low × NamesNum names high
NamesStep names (ToSet e) = NamesSet names e

-- the numbers of a step, and its depth, are within their limits
abbrev pub SmallStep : StepText → Type 0
SmallStep (ToNumber e) = SmallNum e × (num_depth e ≤ 32)
SmallStep (ToPair low high) = (SmallNum low × (num_depth low ≤ 32)) × (SmallNum high × (num_depth high ≤ 32))
SmallStep (ToSet e) = SmallSet e × (set_depth e ≤ 32)

-- the numbers of an initial value are within their limits
abbrev pub SmallInit : InitText → Type 0
SmallInit (Single negative digits) = WritesUpTo 1000000000000 digits
SmallInit (Pair negative digits also_negative more_digits) = WritesUpTo 1000000000000 digits × WritesUpTo 1000000000000 more_digits
SmallInit (Values numbers) = All (WritesUpTo 127) numbers

-- the properties of a side so far
abbrev pub side_of : Part → Side → List PropDecl
side_of part Down = part.down
side_of part Up = part.up

-- a name of the first line is taken
abbrev pub BeginNameFault : List ParamText → Type 0
BeginNameFault params = Any (Contains reserved_words) (param_names params) ⊎ (are_distinct (param_names params) ≡ false)

-- a quantity of the first line passes its limit
abbrev pub BeginLimitFault : List ℕ → List ParamText → Type 0
BeginLimitFault name params = (32 < length name) ⊎ (Any (λ (p : ParamText). 32 < length p.name) params ⊎ (16 < length params))

-- a name is taken, or one that is used stands for nothing or for something else than its place asks, or the step is that of another property
abbrev pub LineNameFault : Part → LineText → Type 0
LineNameFault part (Begin name params) = ⊥
LineNameFault part (Property side name kind init) = IsTaken (part_names part) name
LineNameFault part (Test test) = NamesCond (test_names part) test → ⊥
LineNameFault part (Step name step) = IfSome (due part) (λ p. (p.name ≡ name) × NamesStep (step_names part) step) → ⊥
LineNameFault part End = ⊥

-- a quantity passes its limit
abbrev pub LineLimitFault : Part → LineText → Type 0
LineLimitFault part (Begin name params) = ⊥
LineLimitFault part (Property side name kind init) = (32 < length name) ⊎ ((32 ≤ length (side_of part side)) ⊎ (SmallInit init → ⊥))
LineLimitFault part (Test test) = SmallCond test × (cond_depth test ≤ 32) → ⊥
LineLimitFault part (Step name step) = SmallStep step → ⊥
LineLimitFault part End = ⊥

-- a property is added to its side
abbrev pub with_property : Part → Side → PropDecl → Part
with_property part Down p = record part { down = part.down ++ p ∷ [] }
with_property part Up p = record part { up = part.up ++ p ∷ [] }

-- a step is added to that side whose step is due
abbrev pub with_step : Part → StepExpr → Part
with_step part e = if nat_lt (length part.down_step) (length part.down)
    then record part { down_step = part.down_step ++ e ∷ [] }
    else record part { up_step = part.up_step ++ e ∷ [] }

-- the first line begins a specification with its name and its parameters
pub record Begins (name : List ℕ) (params : List ParamText) (part : Part) : Type 0 where
  pub free : BeginNameFault params → ⊥
  pub small : BeginLimitFault name params → ⊥
  pub declared : List Param
  pub params_are : map (λ (p : Param). record { kind = p.kind; name = p.name }) declared ≡ params
  pub begun : part ≡ record { name = name; params = declared; down = []; up = []; test = None; down_step = []; up_step = [] }

-- what a line adds: a property with its initial value; the test; the step of the property that is due
pub data Adds (part : Part) : LineText → Part → Type 0 where
  adds_property : {side : Side} {name : List ℕ} {kind : Kind} {init : InitText} {value : Prop}
      → init_text value ≡ init → IsOfKind kind value
      → Adds part (Property side name kind init) (with_property part side (record { name = name; kind = kind; init = value }))
  adds_test : {c : Cond} → IsTrue (is_good_cond (scope_of (test_names part)) c)
      → Adds part (Test (cond_text (test_names part) c)) (record part { test = Some c })
  adds_step : {p : PropDecl} (e : StepExpr) → due part ≡ Some p → IsTrue (is_step (scope_of (step_names part)) p.kind e)
      → Adds part (Step p.name (step_text (step_names part) e)) (with_step part e)

-- a line is good after the lines before it, and this is what they say then
pub record IsGoodAfter (before : Part) (line : LineText) (after : Part) : Type 0 where
  pub stands : MayStand before line
  pub named : LineNameFault before line → ⊥
  pub small : LineLimitFault before line → ⊥
  pub adds : Adds before line after

-- the specification that its lines say, with this test
abbrev pub whole_spec : Part → Cond → Specification
whole_spec part test = record { name = part.name; params = part.params; down = part.down; up = part.up; test = test; down_step = part.down_step; up_step = part.up_step }
