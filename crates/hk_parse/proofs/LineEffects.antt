-- What a line adds is determined by the lines before it and by the line, and a line without faults adds something.
use Rattle.std.proofs.Common.{◌≡◌, ◌≢◌, ℕ, List, [], ◌∷◌, map, Option, None, Some, IfSome, IsSome, IsTrue, inr, refl, sym, ap, ◌∙◌, subst}
use Rattle.std.proofs.lemmas.Bool.{both_ways}
use Rattle.hk_kinds.specs.Shapes.{IsOfKind}
use Rattle.hk_kinds.specs.declared.kinds.Kind.{Kind}
use Rattle.hk_kinds.specs.declared.properties.Prop.{Prop}
use Rattle.hk_spec.specs.Scopes.{is_good_cond}
use Rattle.hk_spec.specs.Specifications.{is_step}
use Rattle.hk_spec.specs.declared.expressions.Cond.{Cond}
use Rattle.hk_spec.specs.declared.expressions.Side.{Side}
use Rattle.hk_spec.specs.declared.parts.Param.{Param}
use Rattle.hk_spec.specs.declared.parts.PropDecl.{PropDecl}
use Rattle.hk_spec.specs.declared.parts.StepExpr.{StepExpr}
use Rattle.hk_parse.specs.BlockLines.{Part, due, test_names, step_names, MayStand, BeginNameFault, BeginLimitFault, LineNameFault, LineLimitFault, NamesStep, with_property, with_step, Begins, Adds, adds_property, adds_test, adds_step, IsGoodAfter}
use Rattle.hk_terms.specs.Names.{scope_of}
use Rattle.hk_parse.specs.Blocks.{IsPart}
use Rattle.hk_parse.specs.LineTexts.{ParamText, InitText, StepText, LineText, Begin, Property, Test, Step, End, IsLineText, HasForm}
use Rattle.hk_terms.specs.CondTexts.{CondText}
use Rattle.hk_terms.specs.Names.{cond_depth}
use Rattle.hk_parse.specs.LineTrees.{init_text, step_text}
use Rattle.hk_terms.specs.Trees.{cond_text}
use Rattle.hk_terms.proofs.TreeTextsConds.{cond_text_one}
use Rattle.hk_parse.proofs.TreeTextsLines.{test_free, step_free, init_one, step_one}
use Rattle.hk_exprs.proofs.TreesOfConds.{cond_there}
use Rattle.hk_terms.proofs.TreesOfDecisions.{stable_both, stable_below, stable_cond, stable_small_cond, stable_decided, decided_text}
use Rattle.hk_parse.proofs.TreesOfLines.{init_there, step_there, stable_init, stable_names_step, stable_small_step}

param_of : ParamText → Param
param_of p = record { kind = p.kind; name = p.name }

params_back : (declared : List Param) → map param_of (map (λ (p : Param). record { kind = p.kind; name = p.name }) declared) ≡ declared
unfolding param_of
params_back [] = refl
params_back (p ∷ more) = ap (λ ps. p ∷ ps) (params_back more)

params_forth : (params : List ParamText) → map (λ (p : Param). record { kind = p.kind; name = p.name }) (map param_of params) ≡ params
unfolding param_of
params_forth [] = refl
params_forth (p ∷ more) = ap (λ ps. p ∷ ps) (params_forth more)

-- what begins, with these parameters
abbrev begun : List ℕ → List Param → Part
begun name declared = record { name = name; params = declared; down = []; up = []; test = None; down_step = []; up_step = [] }

-- a first line begins one specification
pub begins_one : {name : List ℕ} {params : List ParamText} {a b : Part} → Begins name params a → Begins name params b → a ≡ b
begins_one {name = name} h k =
    let same : h.declared ≡ k.declared = sym (params_back h.declared) ∙ ap (map param_of) (h.params_are ∙ sym k.params_are) ∙ params_back k.declared in
    h.begun ∙ ap (begun name) same ∙ sym k.begun

-- a first line without faults begins a specification
pub begins_exists : (name : List ℕ) (params : List ParamText) → (BeginNameFault params → ⊥) → (BeginLimitFault name params → ⊥) → (part : Part) × Begins name params part
begins_exists name params free small = (begun name (map param_of params), record { free = free; small = small; declared = map param_of params; params_are = params_forth params; begun = refl })

-- a property that is declared so
abbrev declared : List ℕ → Kind → Prop → PropDecl
declared name kind value = record { name = name; kind = kind; init = value }

-- what a line adds, by the line
abbrev AddsOf : Part → LineText → Part → Type 0
AddsOf part (Begin name params) after = ⊥
AddsOf part (Property side name kind init) after = (value : Prop) × (init_text value ≡ init) × IsOfKind kind value × (after ≡ with_property part side (declared name kind value))
AddsOf part (Test test) after = (c : Cond) × (cond_text (test_names part) c ≡ test) × IsTrue (is_good_cond (scope_of (test_names part)) c) × (after ≡ record part { test = Some c })
AddsOf part (Step name step) after = (p : PropDecl) × (e : StepExpr) × (step_text (step_names part) e ≡ step) × IsTrue (is_step (scope_of (step_names part)) p.kind e) × (after ≡ with_step part e)
AddsOf part End after = ⊥

adds_of : {part after : Part} {text : LineText} → Adds part text after → AddsOf part text after
adds_of (adds_property {value = value} written kind) = (value, written, kind, refl)
adds_of (adds_test {c = c} good) = (c, refl, good, refl)
adds_of (adds_step {p = p} e is good) = (p, e, refl, good, refl)

added_one : (part a b : Part) (text : LineText) → IsPart part → AddsOf part text a → AddsOf part text b → a ≡ b
added_one part a b (Begin name params) is h k = absurd h
added_one part a b (Property side name kind init) is (v, v_written, v_kind, v_is) (w, w_written, w_kind, w_is) =
    v_is ∙ ap (λ value. with_property part side (declared name kind value)) (init_one v_kind w_kind (v_written ∙ sym w_written)) ∙ sym w_is
added_one part a b (Test test) is (c, c_written, c_good, c_is) (d, d_written, d_good, d_is) =
    let same = cond_text_one (test_names part) (test_free is) c d c_good d_good (c_written ∙ sym d_written) in
    c_is ∙ tested same ∙ sym d_is
  where
    tested : {c d : Cond} → c ≡ d → record part { test = Some c } ≡ record part { test = Some d }
    tested same = cc
added_one part a b (Step name step) is (p, e, e_written, e_good, e_is) (q, f, f_written, f_good, f_is) =
    e_is ∙ ap (with_step part) (step_one p.kind q.kind (step_free is) e_good f_good (e_written ∙ sym f_written)) ∙ sym f_is
added_one part a b End is h k = absurd h

-- a line adds one thing to the lines before it
pub good_after_one : {part a b : Part} {text : LineText} → IsPart part → IsGoodAfter part text a → IsGoodAfter part text b → a ≡ b
good_after_one {part = part} {a = a} {b = b} {text = text} is h k = added_one part a b text is (adds_of h.adds) (adds_of k.adds)

-- what a line without faults adds
abbrev AfterThere : Part → LineText → Type 0
AfterThere part text = (after : Part) × IsGoodAfter part text after

property_after : (part : Part) (side : Side) (name : List ℕ) (kind : Kind) (init : InitText) → IsLineText (Property side name kind init) → MayStand part (Property side name kind init)
    → (LineNameFault part (Property side name kind init) → ⊥) → (LineLimitFault part (Property side name kind init) → ⊥) → AfterThere part (Property side name kind init)
property_after part side name kind init written stands named small =
    let (value, same, is) = init_there kind init written.1 (stable_init init (λ fails. small (inr (inr fails)))) in
    (with_property part side (declared name kind value), record { stands = stands; named = named; small = small; adds = adds_property same is })

test_after : (part : Part) (test : CondText) → IsLineText (Test test) → MayStand part (Test test) → (LineNameFault part (Test test) → ⊥) → (LineLimitFault part (Test test) → ⊥) → AfterThere part (Test test)
test_after part test written stands named small =
    let within = stable_both (stable_small_cond test) (stable_below (cond_depth test) 32) small in
    let (c, is) = cond_there (test_names part) test (stable_cond (test_names part) test named) within.0 written within.1 in
    (_, record { stands = stands; named = named; small = small; adds = subst (λ text. Adds part (Test text) (record part { test = Some c })) is.text_is (adds_test is.good) })

step_after : (part : Part) (name : List ℕ) (step : StepText) → IsLineText (Step name step) → MayStand part (Step name step)
    → (LineNameFault part (Step name step) → ⊥) → (LineLimitFault part (Step name step) → ⊥) → AfterThere part (Step name step)
step_after part name step written stands named small = by (due part) refl stands.1 stands.2 named
  where
    ready : (p : PropDecl) → due part ≡ Some p → HasForm p.kind step → p.name ≡ name → NamesStep (step_names part) step → AfterThere part (Step name step)
    ready p is form same names =
        let (e, text_is, good) = step_there (step_names part) p.kind step form names (stable_small_step step small) written.1 in
        let added : Adds part (Step p.name (step_text (step_names part) e)) (with_step part e) = adds_step e is good in
        (with_step part e, record { stands = stands; named = named; small = small; adds = subst (λ word. Adds part (Step word step) (with_step part e)) same (subst (λ text. Adds part (Step p.name text) (with_step part e)) text_is added) })

    by : (d : Option PropDecl) → due part ≡ d → IsSome d → IfSome d (λ p. HasForm p.kind step) → ((IfSome d (λ p. (p.name ≡ name) × NamesStep (step_names part) step) → ⊥) → ⊥) → AfterThere part (Step name step)
    by None is some form right = absurd (both_ways _ refl some)
    by (Some p) is some form right =
        let both = stable_both (stable_decided (decided_text p.name name)) (stable_names_step (step_names part) step) right in
        ready p is form both.0 both.1

-- a line without faults that may stand, and isn't the last, adds something to the lines before it
pub good_after_exists : (part : Part) (text : LineText) → IsPart part → IsLineText text → MayStand part text → (LineNameFault part text → ⊥) → (LineLimitFault part text → ⊥) → text ≢ End → (after : Part) × IsGoodAfter part text after
good_after_exists part (Begin name params) is written stands named small more = absurd stands
good_after_exists part (Property side name kind init) is written stands named small more = property_after part side name kind init written stands named small
good_after_exists part (Test test) is written stands named small more = test_after part test written stands named small
good_after_exists part (Step name step) is written stands named small more = step_after part name step written stands named small
good_after_exists part End is written stands named small more = absurd (more refl)
