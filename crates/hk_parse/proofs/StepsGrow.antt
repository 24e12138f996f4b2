-- The steps of a specification whose lines are read.
use Rattle.std.proofs.Common.{◌≡◌, ◌≤◌, ◌<◌, ◌+◌, ℕ, zero, suc, true, Option, None, Some, IfSome, IsSome, Result, OnOk, OnErr, List, [], ◌∷◌, ◌++◌, length, slice_get, refl, sym, ap, ◌∙◌, subst, arith}
use Rattle.std.proofs.lemmas.Bool.{and_parts, and_from, cond-true, cond-false, lt-ltb, le-ltb}
use Rattle.std.proofs.lemmas.List.{length-map, length-append, take_all}
use Rattle.hk_spec.specs.Scopes.{Scope, is_good_cond}
use Rattle.hk_spec.specs.Specifications.{IsSpecification, kinds_of_properties, are_steps, is_step}
use Rattle.hk_spec.specs.declared.expressions.Cond.{Cond}
use Rattle.hk_spec.specs.declared.parts.PropDecl.{PropDecl}
use Rattle.hk_spec.specs.declared.parts.StepExpr.{StepExpr}
use Rattle.hk_parse.specs.BlockLines.{Part, due, step_names, test_names, with_step}
use Rattle.hk_terms.specs.Names.{scope_of}
use Rattle.hk_parse.specs.Blocks.{IsPart, AreFirstSteps, FitsStep}
use Rattle.hk_print.proofs.BestScope.{cond_good_with_best}
use Rattle.hk_parse.proofs.PartsGrow.{after_push}

-- one step more
pub first_steps_more : (scope : Scope) (properties : List PropDecl) (steps : List StepExpr) (p : PropDecl) (e : StepExpr) → slice_get properties (length steps) ≡ Some p → is_step scope p.kind e ≡ true → AreFirstSteps scope properties steps → AreFirstSteps scope properties (steps ++ e ∷ [])
first_steps_more scope [] [] p e at good are = let never : ⊥ = cc in absurd never
first_steps_more scope [] (s ∷ steps) p e at good are = absurd (omega (arith, are.few))
first_steps_more scope (q ∷ more) [] p e at good are =
    let same : q ≡ p = cc in
    record { few = omega arith; good = and_from _ _ (ap (λ (r : PropDecl). is_step scope r.kind e) same ∙ good) refl }
first_steps_more scope (q ∷ more) (s ∷ steps) p e at good are =
    let parts = and_parts (is_step scope q.kind s) _ are.good in
    let rest = first_steps_more scope more steps p e at good (record { few = omega (arith, are.few); good = parts.1 }) in
    record { few = omega (arith, rest.few); good = and_from _ _ parts.0 rest.good }

-- as many steps as properties are the steps of all
pub all_steps : (scope : Scope) (properties : List PropDecl) (steps : List StepExpr) → AreFirstSteps scope properties steps → length properties ≤ length steps → are_steps scope (kinds_of_properties properties) steps ≡ true
all_steps scope properties steps are all =
    ap (λ kinds. are_steps scope kinds steps) (sym (take_all (length steps) (kinds_of_properties properties) (simp length-map all))) ∙ are.good

-- an element of the first of two lists, or of the second
get_left : {X : Type 0} (xs ys : List X) (i : ℕ) → i < length xs → slice_get (xs ++ ys) i ≡ slice_get xs i
get_left [] ys i inside = absurd (omega arith)
get_left (x ∷ xs) ys zero inside = refl
get_left (x ∷ xs) ys (suc i) inside = get_left xs ys i (omega arith)

get_right : {X : Type 0} (xs ys : List X) (i : ℕ) → slice_get (xs ++ ys) (length xs + i) ≡ slice_get ys i
get_right [] ys i = let same : 0 + i ≡ i = omega arith in ap (slice_get ys) same
get_right (x ∷ xs) ys i =
    let same : length (x ∷ xs) + i ≡ suc (length xs + i) = omega arith in
    ap (slice_get (x ∷ xs ++ ys)) same ∙ get_right xs ys i

none_past : {X : Type 0} (xs : List X) (i : ℕ) → slice_get xs i ≡ None → length xs ≤ i
none_past [] i none = omega arith
none_past (x ∷ xs) zero none = let never : ⊥ = cc in absurd never
none_past (x ∷ xs) (suc i) none = let past = none_past xs i none in omega (arith, past)

-- nothing is there, or something
pub none_or_some : {X : Type 0} (o : Option X) → o ≡ None → IsSome o → ⊥
none_or_some None none some = cc
none_or_some (Some x) none some = cc

module _ (part : Part) (is : IsPart part) where
  down_place : length part.down_step < length part.down → length part.down_step + length part.up_step ≡ length part.down_step
  down_place below =
      let none : length part.up_step ≡ 0 = ap (λ steps. length steps) (is.down_first below) in
      omega (arith, none)

  -- while a down step is missing, the step of that property is due
  pub down_due : length part.down_step < length part.down → due part ≡ slice_get part.down (length part.down_step)
  down_due below = ap (slice_get (part.down ++ part.up)) (down_place below) ∙ get_left part.down part.up (length part.down_step) below

  -- and else that of a property of the up side
  pub up_due : length part.down ≤ length part.down_step → due part ≡ slice_get part.up (length part.up_step)
  up_due all =
      let same : length part.down_step ≡ length part.down = omega (arith, all, is.down_steps.few) in
      ap (λ n. slice_get (part.down ++ part.up) (n + length part.up_step)) same ∙ get_right part.down part.up (length part.up_step)

  -- what the step that is due may name
  pub down_names_due : length part.down_step < length part.down → step_names part ≡ record { params = part.params; down = part.down; up = [] }
  down_names_due below = cond-true _ _ _ (lt-ltb _ _ below)

  pub up_names_due : length part.down ≤ length part.down_step → step_names part ≡ record { params = part.params; down = []; up = part.up }
  up_names_due all = cond-false _ _ _ (le-ltb _ _ all)

  -- it goes to the side whose step is due
  pub down_goes : (e : StepExpr) → length part.down_step < length part.down → with_step part e ≡ record part { down_step = part.down_step ++ e ∷ [] }
  down_goes e below = cond-true _ _ _ (lt-ltb _ _ below)

  pub up_goes : (e : StepExpr) → length part.down ≤ length part.down_step → with_step part e ≡ record part { up_step = part.up_step ++ e ∷ [] }
  up_goes e all = cond-false _ _ _ (le-ltb _ _ all)

  -- a down step more
  pub down_step_kept : (e : StepExpr) → FitsStep part e → length part.down_step < length part.down → IsPart (record part { down_step = part.down_step ++ e ∷ [] })
  down_step_kept e fits below = record {
    named = is.named;
    free_names = is.free_names;
    distinct_names = is.distinct_names;
    few_params = is.few_params;
    few_down = is.few_down;
    few_up = is.few_up;
    initial_down = is.initial_down;
    initial_up = is.initial_up;
    good_test = is.good_test;
    test_first = λ none. absurd (none_or_some part.test none fits.tested);
    down_first = λ _. is.down_first below;
    down_steps = first_steps_more _ part.down part.down_step fits.property e (sym (down_due below) ∙ fits.is_due) (ap (λ names. is_step (scope_of names) fits.property.kind e) (sym (down_names_due below)) ∙ fits.good) is.down_steps;
    up_steps = is.up_steps;
  }

  -- an up step more
  pub up_step_kept : (e : StepExpr) → FitsStep part e → length part.down ≤ length part.down_step → IsPart (record part { up_step = part.up_step ++ e ∷ [] })
  up_step_kept e fits all = record {
    named = is.named;
    free_names = is.free_names;
    distinct_names = is.distinct_names;
    few_params = is.few_params;
    few_down = is.few_down;
    few_up = is.few_up;
    initial_down = is.initial_down;
    initial_up = is.initial_up;
    good_test = is.good_test;
    test_first = λ none. absurd (none_or_some part.test none fits.tested);
    down_first = λ below. absurd (omega (arith, below, all));
    down_steps = is.down_steps;
    up_steps = first_steps_more _ part.up part.up_step fits.property e (sym (up_due all) ∙ fits.is_due) (ap (λ names. is_step (scope_of names) fits.property.kind e) (sym (up_names_due all)) ∙ fits.good) is.up_steps;
  }

  -- a step was pushed, or the list stayed
  pub down_step_pushed : {E : Type 0} (e : StepExpr) (now : List StepExpr) (answer : Result (Unit {0}) E) → OnOk answer (now ≡ part.down_step ++ e ∷ []) → OnErr answer (now ≡ part.down_step) → FitsStep part e → length part.down_step < length part.down → IsPart (record part { down_step = now })
  down_step_pushed e now answer ok err fits below = after_push (λ steps. IsPart (record part { down_step = steps })) part.down_step now e answer ok err (down_step_kept e fits below) is

  pub up_step_pushed : {E : Type 0} (e : StepExpr) (now : List StepExpr) (answer : Result (Unit {0}) E) → OnOk answer (now ≡ part.up_step ++ e ∷ []) → OnErr answer (now ≡ part.up_step) → FitsStep part e → length part.down ≤ length part.down_step → IsPart (record part { up_step = now })
  up_step_pushed e now answer ok err fits all = after_push (λ steps. IsPart (record part { up_step = steps })) part.up_step now e answer ok err (up_step_kept e fits all) is

  -- where no step is due, each property has its step
  counted : due part ≡ None → (length part.down ≤ length part.down_step) × (length part.up ≤ length part.up_step)
  counted none =
      let past = none_past (part.down ++ part.up) (length part.down_step + length part.up_step) none in
      (omega (arith, past, length-append part.down part.up, is.down_steps.few, is.up_steps.few), omega (arith, past, length-append part.down part.up, is.down_steps.few, is.up_steps.few))

  -- the whole keeps the rules of a specification
  pub whole : (c : Cond) → part.test ≡ Some c → due part ≡ None → IsSpecification (record { name = part.name; params = part.params; down = part.down; up = part.up; test = c; down_step = part.down_step; up_step = part.up_step })
  whole c tested none =
      let counts = counted none in record {
        named = is.named;
        free_names = is.free_names;
        distinct_names = is.distinct_names;
        few_params = is.few_params;
        few_down = is.few_down;
        few_up = is.few_up;
        initial_down = is.initial_down;
        initial_up = is.initial_up;
        good_test = cond_good_with_best _ _ _ c (subst (λ test. IfSome test (λ c. is_good_cond (scope_of (test_names part)) c ≡ true)) tested is.good_test);
        good_down_steps = all_steps _ part.down part.down_step is.down_steps counts.0;
        good_up_steps = all_steps _ part.up part.up_step is.up_steps counts.1;
      }
