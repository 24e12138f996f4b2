-- A specification whose lines are read, and whose tests and steps have allowed senses, is graded.
use Rattle.std.proofs.Common.{◌≡◌, ℕ, zero, suc, Bool, true, false, nat_lt, Option, None, Some, List, [], ◌∷◌, ◌++◌, length, refl, sym, ap, subst, ◌∙◌}
use Rattle.std.specs.Prelude.{IfSome}
use Rattle.std.proofs.lemmas.Option.{IfSome_then}
use Rattle.hk_kinds.specs.declared.kinds.Kind.{Kind}
use Rattle.hk_parse.specs.BlockLines.{Part, Begins, Adds, adds_property, adds_test, adds_step, IsGoodAfter, MayStand, last_step, latest_step, with_step, whole_spec}
use Rattle.hk_parse.specs.Blocks.{IsPart}
use Rattle.hk_parse.specs.LineTexts.{ParamText, LineText, Property}
use Rattle.hk_spec.specs.declared.expressions.Cond.{Cond}
use Rattle.hk_spec.specs.declared.expressions.Side.TheVariants.{Down, Up}
use Rattle.hk_spec.specs.declared.parts.PropDecl.{PropDecl}
use Rattle.hk_spec.specs.declared.parts.StepExpr.{StepExpr}
use Rattle.hk_spec.specs.declared.senses.Place.{Place}
use Rattle.hk_spec.specs.declared.senses.Place.TheVariants as place
use Rattle.hk_spec.specs.declared.senses.Sense.{Sense}
use Rattle.hk_spec.specs.Grades.{Kinds, IsGraded, wrong_test, wrong_step, wrong_step_at, wrong_sense}
use Rattle.hk_spec.specs.Specifications.{kinds_of_properties}
use Rattle.hk_model.specs.Models.{kinds_so_far, wrong_latest}
use Rattle.hk_parse.proofs.LastSteps.{no_last, last_skips}
use Rattle.hk_parse.proofs.PartRules.{below_from, most_from}
use Rattle.hk_parse.proofs.StepsGrow.{down_goes, up_goes}

-- what is said so far is graded, once there is a test
abbrev pub IsGradedPart : Part → Type 0
IsGradedPart part = IfSome part.test (λ test. IsGraded (whole_spec part test))

-- without a test nothing is owed
untested : (part : Part) → part.test ≡ None → IsGradedPart part
untested part none = subst (λ test. IfSome test (λ c. IsGraded (whole_spec part c))) (sym none) tt

-- the first line has no test
pub begins_graded : {name : List ℕ} {params : List ParamText} {part : Part} → Begins name params part → IsGradedPart part
begins_graded begins = subst IsGradedPart (sym begins.begun) tt

-- a specification that ends is graded
pub whole_graded : {part : Part} {test : Cond} → part.test ≡ Some test → IsGradedPart part → IsGraded (whole_spec part test)
whole_graded {part = part} tested graded = subst (λ test. IfSome test (λ c. IsGraded (whole_spec part c))) tested graded

-- what is wrong with a last step, where there is one
abbrev wrong_last : Kinds → Option (Kind × StepExpr) → Option Sense
wrong_last of None = None
wrong_last of (Some (kind, e)) = wrong_step of kind e

-- no step stands where there is none
no_step_at : (of : Kinds) (kinds : List Kind) (k : ℕ) → wrong_step_at of kinds [] k ≡ None
no_step_at of [] k = refl
no_step_at of (kind ∷ kinds) zero = refl
no_step_at of (kind ∷ kinds) (suc k) = no_step_at of kinds k

-- one allowed step more leaves all steps allowed
allowed_push : (of : Kinds) (properties : List PropDecl) (steps : List StepExpr) (e : StepExpr) → ((k : ℕ) → wrong_step_at of (kinds_of_properties properties) steps k ≡ None)
    → wrong_last of (last_step properties (steps ++ e ∷ [])) ≡ None → (k : ℕ) → wrong_step_at of (kinds_of_properties properties) (steps ++ e ∷ []) k ≡ None
allowed_push of [] steps e allowed last k = refl
allowed_push of (p ∷ more) [] e allowed last zero = last
allowed_push of (p ∷ more) [] e allowed last (suc k) = no_step_at of (kinds_of_properties more) k
allowed_push of (p ∷ more) (s ∷ steps) e allowed last zero = allowed zero
allowed_push of (p ∷ more) (s ∷ steps) e allowed last (suc k) = allowed_push of more steps e (λ j. allowed (suc j)) (ap (wrong_last of) (sym (last_skips p more s steps e)) ∙ last) k

-- without a step, the test is the latest that is read
pub latest_test : (part : Part) (test : Cond) (down up : List PropDecl) → down ≡ part.down → up ≡ part.up → latest_step part ≡ None → part.test ≡ Some test → wrong_test (record { down = kinds_of_properties down; up = kinds_of_properties up }) test ≡ wrong_latest part
latest_test part test down up down_is up_is no_step tested = rw (no_step, tested, down_is, up_is) refl

module _ (part : Part) (allowed : wrong_latest part ≡ None) where
  -- the last up step is allowed
  up_last : wrong_last (kinds_so_far part) (last_step part.up part.up_step) ≡ None
  up_last = by (last_step part.up part.up_step) refl
    where
      by : (found : Option (Kind × StepExpr)) → last_step part.up part.up_step ≡ found → wrong_last (kinds_so_far part) found ≡ None
      by None is = refl
      by (Some (kind, e)) is = rw is at allowed

  module _ (no_up : part.up_step ≡ []) where
    no_up_last : last_step part.up part.up_step ≡ None
    no_up_last = ap (last_step part.up) no_up ∙ no_last part.up

    -- before the up steps, the last down step is allowed
    down_last : wrong_last (kinds_so_far part) (last_step part.down part.down_step) ≡ None
    down_last = by (last_step part.down part.down_step) refl
      where
        by : (found : Option (Kind × StepExpr)) → last_step part.down part.down_step ≡ found → wrong_last (kinds_so_far part) found ≡ None
        by None is = refl
        by (Some (kind, e)) is = rw (no_up_last, is) at allowed

    -- and before the steps, the test is
    test_allowed : {test : Cond} → part.down_step ≡ [] → part.test ≡ Some test → wrong_test (kinds_so_far part) test ≡ None
    test_allowed no_down tested = let none : last_step part.down part.down_step ≡ None = ap (last_step part.down) no_down ∙ no_last part.down in rw (no_up_last, none, tested) at allowed

-- a test without steps that is allowed makes a graded specification
test_graded : (part : Part) (test : Cond) → part.down_step ≡ [] → part.up_step ≡ [] → wrong_latest (record part { test = Some test }) ≡ None → IsGraded (whole_spec part test)
test_graded part test no_down no_up latest = record { allowed = allowed }
  where
    allowed : (p : Place) → wrong_sense (whole_spec part test) p ≡ None
    allowed place.Test = test_allowed (record part { test = Some test }) latest no_up no_down refl
    allowed (place.Down k) = rw no_down (no_step_at _ _ k)
    allowed (place.Up k) = rw no_up (no_step_at _ _ k)

-- one allowed step more keeps a specification graded
down_graded : (part : Part) (e : StepExpr) (test : Cond) → wrong_last (kinds_so_far part) (last_step part.down (part.down_step ++ e ∷ [])) ≡ None → IsGraded (whole_spec part test) → IsGraded (whole_spec (record part { down_step = part.down_step ++ e ∷ [] }) test)
down_graded part e test last graded = record { allowed = allowed }
  where
    allowed : (p : Place) → wrong_sense (whole_spec (record part { down_step = part.down_step ++ e ∷ [] }) test) p ≡ None
    allowed place.Test = graded.allowed place.Test
    allowed (place.Down k) = allowed_push _ part.down part.down_step e (λ j. graded.allowed (place.Down j)) last k
    allowed (place.Up k) = graded.allowed (place.Up k)

up_graded : (part : Part) (e : StepExpr) (test : Cond) → wrong_last (kinds_so_far part) (last_step part.up (part.up_step ++ e ∷ [])) ≡ None → IsGraded (whole_spec part test) → IsGraded (whole_spec (record part { up_step = part.up_step ++ e ∷ [] }) test)
up_graded part e test last graded = record { allowed = allowed }
  where
    allowed : (p : Place) → wrong_sense (whole_spec (record part { up_step = part.up_step ++ e ∷ [] }) test) p ≡ None
    allowed place.Test = graded.allowed place.Test
    allowed (place.Down k) = graded.allowed (place.Down k)
    allowed (place.Up k) = allowed_push _ part.up part.up_step e (λ j. graded.allowed (place.Up j)) last k

-- the step that is due, where it is allowed, keeps a specification graded
step_graded : (part : Part) (e : StepExpr) → IsPart part → wrong_latest (with_step part e) ≡ None → IsGradedPart part → IsGradedPart (with_step part e)
step_graded part e is latest graded = by (nat_lt (length part.down_step) (length part.down)) refl
  where
    by : (below : Bool) → nat_lt (length part.down_step) (length part.down) ≡ below → IsGradedPart (with_step part e)
    by true is_below =
        let below = below_from _ _ is_below in
        let goes = down_goes part is e below in
        let last = down_last (record part { down_step = part.down_step ++ e ∷ [] }) (subst (λ p. wrong_latest p ≡ None) goes latest) (is.down_first below) in
        subst IsGradedPart (sym goes) (IfSome_then part.test graded (λ c. down_graded part e c last))
    by false over =
        let goes = up_goes part is e (most_from _ _ over) in
        let last = up_last (record part { up_step = part.up_step ++ e ∷ [] }) (subst (λ p. wrong_latest p ≡ None) goes latest) in
        subst IsGradedPart (sym goes) (IfSome_then part.test graded (λ c. up_graded part e c last))

-- a good line whose test or step is allowed keeps what is said graded
pub good_after_graded : {part after : Part} {text : LineText} → IsPart part → IsGoodAfter part text after → wrong_latest after ≡ None → IsGradedPart part → IsGradedPart after
good_after_graded {part = part} {after = after} {text = text} is good latest graded = by text after good.stands good.adds latest
  where
    by : (text : LineText) (after : Part) → MayStand part text → Adds part text after → wrong_latest after ≡ None → IsGradedPart after
    by (Property Down name kind init) after stands (adds_property value of_kind) latest = untested _ stands.0
    by (Property Up name kind init) after stands (adds_property value of_kind) latest = untested _ stands
    by _ _ stands (adds_test {c = c} good) latest = let none = is.test_first stands in test_graded part c none.0 none.1 latest
    by _ _ stands (adds_step e due good) latest = step_graded part e is latest graded
