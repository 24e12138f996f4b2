-- A specification whose lines are read keeps its rules with each line.
use Rattle.std.proofs.Common.{◌≡◌, ◌≤◌, ◌<◌, ℕ, true, Option, None, Some, Result, Ok, Err, OnOk, OnErr, ◌||◌, IfSome, List, [], ◌∷◌, ◌++◌, length, map, Contains, refl, sym, ap, ◌∙◌, subst, arith, inl, inr}
use Rattle.std.specs.List.{list_all, list_any}
use Rattle.std.specs.Str.{bytes_eq}
use Rattle.std.proofs.lemmas.Bool.{and_from, false_from_ne_true}
use Rattle.std.proofs.lemmas.List.{append_assoc, append-nil, map-append, length-append}
use Rattle.std.proofs.lemmas.List.Folds.{list_all-append, list_any-append}
use Rattle.hk_kinds.specs.Shapes.{HasShape, no_kinds, one_more, IsOfKind}
use Rattle.hk_kinds.specs.declared.kinds.Kind.{Kind}
use Rattle.hk_kinds.specs.declared.properties.Prop.{Prop}
use Rattle.hk_spec.specs.Names.{is_free_name, are_distinct}
use Rattle.hk_spec.specs.Scopes.{Scope, is_good_cond}
use Rattle.hk_spec.specs.Specifications.{kinds_of_properties, initial_values}
use Rattle.hk_spec.specs.declared.expressions.Cond.{Cond}
use Rattle.hk_spec.specs.declared.expressions.Side.{Side}
use Rattle.hk_spec.specs.declared.expressions.Side.TheVariants.{Down, Up}
use Rattle.hk_spec.specs.declared.parts.Param.{Param}
use Rattle.hk_spec.specs.declared.parts.PropDecl.{PropDecl}
use Rattle.hk_spec.specs.declared.parts.StepExpr.{StepExpr}
use Rattle.hk_parse.specs.BlockLines.{Part, part_names, with_property}
use Rattle.hk_parse.specs.Blocks.{IsPart, AreFirstSteps, FitsProperty, FitsTest}
use Rattle.hk_terms.proofs.FreeNames.{word_is_free}
use Rattle.hk_terms.proofs.NameLists.{any_of_map, distinct_push, listed_found}

-- values that have a shape, and one more of a kind more
shape_push : {kinds : List Kind} {values : List Prop} {kind : Kind} {value : Prop} → HasShape kinds values → IsOfKind kind value → HasShape (kinds ++ kind ∷ []) (values ++ value ∷ [])
shape_push no_kinds one = one_more one no_kinds
shape_push (one_more first more) one = one_more first (shape_push more one)

shape_more : (properties : List PropDecl) (p : PropDecl) → HasShape (kinds_of_properties properties) (initial_values properties) → IsOfKind p.kind p.init → HasShape (kinds_of_properties (properties ++ p ∷ [])) (initial_values (properties ++ p ∷ []))
shape_more properties p shape one =
    subst (λ kinds. HasShape kinds (initial_values (properties ++ p ∷ []))) (sym (map-append (λ (q : PropDecl). q.kind) properties (p ∷ [])))
    (subst (HasShape (kinds_of_properties properties ++ p.kind ∷ [])) (sym (map-append (λ (q : PropDecl). q.init) properties (p ∷ []))) (shape_push shape one))

-- before the first step, the steps are good ones of the first properties
pub no_steps : (scope : Scope) (properties : List PropDecl) (steps : List StepExpr) → steps ≡ [] → AreFirstSteps scope properties steps
no_steps scope properties steps none = subst (AreFirstSteps scope properties) (sym none) (record { few = omega arith; good = refl })

fewer : {n : ℕ} (properties : List PropDecl) (p : PropDecl) → length properties < n → length (properties ++ p ∷ []) ≤ n
fewer properties p few = omega (arith, few, length-append properties (p ∷ []))

-- one name more that is free
names_free : (names now : List (List ℕ)) (name : List ℕ) → now ≡ names ++ name ∷ [] → list_all is_free_name names ≡ true → is_free_name name ≡ true → list_all is_free_name now ≡ true
names_free names now name is free one = ap (list_all is_free_name) is ∙ list_all-append is_free_name names (name ∷ []) ∙ and_from _ _ free (and_from _ _ one refl)

names_distinct : (names now : List (List ℕ)) (name : List ℕ) → now ≡ names ++ name ∷ [] → are_distinct names ≡ true → (Contains names name → ⊥) → are_distinct now ≡ true
names_distinct names now name is distinct new = ap are_distinct is ∙ distinct_push names name distinct (false_from_ne_true _ (λ found. new (listed_found names name found)))

-- where no property of the up side is there, one more of the down side has the last name
down_names : (part : Part) (p : PropDecl) → part.up ≡ [] → part_names (with_property part Down p) ≡ part_names part ++ p.name ∷ []
down_names part p none =
    let params = map (λ (q : Param). q.name) part.params in
    let down = map (λ (q : PropDecl). q.name) part.down in
    let up = map (λ (q : PropDecl). q.name) part.up in
    let no_up : up ≡ [] = ap (map (λ (q : PropDecl). q.name)) none in
    ap (λ names. params ++ (names ++ up)) (map-append (λ (q : PropDecl). q.name) part.down (p ∷ []))
    ∙ ap (λ names. params ++ ((down ++ p.name ∷ []) ++ names)) no_up
    ∙ ap (λ names. params ++ names) (append-nil (down ++ p.name ∷ []))
    ∙ sym (append_assoc params down (p.name ∷ []))
    ∙ ap (λ names. params ++ names ++ p.name ∷ []) (sym (append-nil down) ∙ ap (λ names. down ++ names) (sym no_up))

up_names : (part : Part) (p : PropDecl) → part_names (with_property part Up p) ≡ part_names part ++ p.name ∷ []
up_names part p =
    let params = map (λ (q : Param). q.name) part.params in
    let down = map (λ (q : PropDecl). q.name) part.down in
    let up = map (λ (q : PropDecl). q.name) part.up in
    ap (λ names. params ++ (down ++ names)) (map-append (λ (q : PropDecl). q.name) part.up (p ∷ []))
    ∙ ap (λ names. params ++ names) (sym (append_assoc down up (p.name ∷ [])))
    ∙ sym (append_assoc params (down ++ up) (p.name ∷ []))

-- before the test there is none that could be bad
no_test : {test : Option Cond} (scope : Scope) → test ≡ None → IfSome test (λ c. is_good_cond scope c ≡ true)
no_test scope none = subst (λ t. IfSome t (λ c. is_good_cond scope c ≡ true)) (sym none) tt

-- a property more
pub property_kept : (part : Part) (side : Side) (p : PropDecl) → IsPart part → FitsProperty part side p → IsPart (with_property part side p)
property_kept part Down p is fits =
    let none : part.test ≡ None = fits.awaited.0 in
    let steps = is.test_first none in
    let names = down_names part p fits.awaited.1 in record {
      named = is.named;
      free_names = names_free (part_names part) _ p.name names is.free_names (word_is_free p.name fits.is_word fits.short (λ reserved. fits.free (inl reserved)));
      distinct_names = names_distinct (part_names part) _ p.name names is.distinct_names (λ has. fits.free (inr has));
      few_params = is.few_params;
      few_down = fewer part.down p fits.few;
      few_up = is.few_up;
      initial_down = shape_more part.down p is.initial_down fits.is_of_kind;
      initial_up = is.initial_up;
      good_test = no_test _ none;
      test_first = is.test_first;
      down_first = λ below. steps.1;
      down_steps = no_steps _ _ part.down_step steps.0;
      up_steps = no_steps _ _ part.up_step steps.1;
    }
property_kept part Up p is fits =
    let none : part.test ≡ None = fits.awaited in
    let steps = is.test_first none in
    let names = up_names part p in record {
      named = is.named;
      free_names = names_free (part_names part) _ p.name names is.free_names (word_is_free p.name fits.is_word fits.short (λ reserved. fits.free (inl reserved)));
      distinct_names = names_distinct (part_names part) _ p.name names is.distinct_names (λ has. fits.free (inr has));
      few_params = is.few_params;
      few_down = is.few_down;
      few_up = fewer part.up p fits.few;
      initial_down = is.initial_down;
      initial_up = shape_more part.up p is.initial_up fits.is_of_kind;
      good_test = no_test _ none;
      test_first = is.test_first;
      down_first = λ below. steps.1;
      down_steps = no_steps _ _ part.down_step steps.0;
      up_steps = no_steps _ _ part.up_step steps.1;
    }

-- the test
pub test_kept : (part : Part) (c : Cond) → IsPart part → FitsTest part c → IsPart (record part { test = Some c })
test_kept part c is fits =
    let steps = is.test_first fits.awaited in record {
      named = is.named;
      free_names = is.free_names;
      distinct_names = is.distinct_names;
      few_params = is.few_params;
      few_down = is.few_down;
      few_up = is.few_up;
      initial_down = is.initial_down;
      initial_up = is.initial_up;
      good_test = fits.good;
      test_first = λ none. steps;
      down_first = λ below. steps.1;
      down_steps = is.down_steps;
      up_steps = is.up_steps;
    }

-- a push leaves the list longer by one, or as it was
pub after_push : {X E : Type 0} (P : List X → Type 0) (old now : List X) (x : X) (answer : Result (Unit {0}) E) → OnOk answer (now ≡ old ++ x ∷ []) → OnErr answer (now ≡ old) → P (old ++ x ∷ []) → P old → P now
after_push P old now x (Ok done) ok err longer same = subst P (sym ok) longer
after_push P old now x (Err error) ok err longer same = subst P (sym err) same

-- a property was pushed, or the list stayed
pub down_pushed : {E : Type 0} (part : Part) (p : PropDecl) (now : List PropDecl) (answer : Result (Unit {0}) E) → OnOk answer (now ≡ part.down ++ p ∷ []) → OnErr answer (now ≡ part.down) → IsPart part → FitsProperty part Down p → IsPart (record part { down = now })
down_pushed part p now answer ok err is fits = after_push (λ down. IsPart (record part { down = down })) part.down now p answer ok err (property_kept part Down p is fits) is

pub up_pushed : {E : Type 0} (part : Part) (p : PropDecl) (now : List PropDecl) (answer : Result (Unit {0}) E) → OnOk answer (now ≡ part.up ++ p ∷ []) → OnErr answer (now ≡ part.up) → IsPart part → FitsProperty part Up p → IsPart (record part { up = now })
up_pushed part p now answer ok err is fits = after_push (λ up. IsPart (record part { up = up })) part.up now p answer ok err (property_kept part Up p is fits) is

-- a name is that of a parameter, of a property of the down side, or of one of the up side
pub name_found : (part : Part) (name : List ℕ) → list_any (bytes_eq name) (part_names part) ≡
    (list_any (λ (p : Param). bytes_eq name p.name) part.params || (list_any (λ (p : PropDecl). bytes_eq name p.name) part.down || list_any (λ (p : PropDecl). bytes_eq name p.name) part.up))
name_found part name =
    let test = bytes_eq name in
    let params = map (λ (q : Param). q.name) part.params in
    let down = map (λ (q : PropDecl). q.name) part.down in
    let up = map (λ (q : PropDecl). q.name) part.up in
    list_any-append test params (down ++ up)
    ∙ ap (λ b. b || list_any test (down ++ up)) (any_of_map test (λ (q : Param). q.name) part.params)
    ∙ ap (λ b. list_any (λ (p : Param). test p.name) part.params || b)
    (list_any-append test down up ∙ ap (λ b. b || list_any test up) (any_of_map test (λ (q : PropDecl). q.name) part.down) ∙ ap (λ b. list_any (λ (p : PropDecl). test p.name) part.down || b) (any_of_map test (λ (q : PropDecl). q.name) part.up))
