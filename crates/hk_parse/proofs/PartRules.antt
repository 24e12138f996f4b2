-- What holds of the lines that are read: it holds from the first line on, each good line keeps it, and where all lines are there they say a specification.
use Rattle.std.proofs.Common.{◌≡◌, ◌<◌, ◌≤◌, ℕ, Bool, true, false, None, Some, List, length, nat_lt, refl, sym, subst, arith, inl, inr}
use Rattle.std.specs.Prelude.{IfSome, IsTrue}
use Rattle.std.proofs.lemmas.Bool.Decides.{nat_tests}
use Rattle.hk_spec.specs.Scopes.{is_good_cond}
use Rattle.hk_spec.specs.Specifications.{IsSpecification, test_scope}
use Rattle.hk_spec.specs.declared.expressions.Cond.{Cond}
use Rattle.hk_spec.specs.declared.expressions.Side.TheVariants.{Down, Up}
use Rattle.hk_spec.specs.declared.parts.StepExpr.{StepExpr}
use Rattle.hk_parse.specs.BlockLines.{Part, Begins, IsGoodAfter, MayStand, LineNameFault, LineLimitFault, Adds, adds_property, adds_test, adds_step, due, test_names, with_step, whole_spec}
use Rattle.hk_terms.specs.Names.{scope_of}
use Rattle.hk_parse.specs.Blocks.{IsPart, FitsStep}
use Rattle.hk_parse.specs.LineTexts.{ParamText, LineText, Begin, Property, IsLineText}
use Rattle.hk_parse.proofs.Beginnings.{begun_is_part}
use Rattle.hk_parse.proofs.PartsGrow.{property_kept, test_kept}
use Rattle.hk_parse.proofs.StepsGrow.{down_goes, up_goes, down_step_kept, up_step_kept, whole}

-- a first line that is well written begins lines that keep the rules
pub begins_valid : {name : List ℕ} {params : List ParamText} {part : Part} → IsLineText (Begin name params) → Begins name params part → IsPart part
begins_valid {name = name} {params = params} written begins =
    subst IsPart (sym begins.begun) (begun_is_part name params begins.declared (record { is_word = written.0; words = written.1; free = begins.free; small = begins.small }) begins.params_are)

most_from_not : (m n : ℕ) → (n < m → ⊥) → m ≤ n
most_from_not m n h = omega (arith, h)

below_from_not : (m n : ℕ) → (n ≤ m → ⊥) → m < n
below_from_not m n h = omega (arith, h)

pub below_from : (m n : ℕ) → nat_lt m n ≡ true → m < n
below_from m n h = grind (arith, nat_tests)

pub most_from : (m n : ℕ) → nat_lt m n ≡ false → n ≤ m
most_from m n h = grind (arith, nat_tests)

module _ (part : Part) (is : IsPart part) where
  -- the step that is due is added
  pub step_kept : (e : StepExpr) → FitsStep part e → IsPart (with_step part e)
  step_kept e fits = by (nat_lt (length part.down_step) (length part.down)) refl
    where
      by : (below : Bool) → nat_lt (length part.down_step) (length part.down) ≡ below → IsPart (with_step part e)
      by true is_below = let below = below_from _ _ is_below in subst IsPart (sym (down_goes part is e below)) (down_step_kept part is e fits below)
      by false over = let all = most_from _ _ over in subst IsPart (sym (up_goes part is e all)) (up_step_kept part is e fits all)

  added : (text : LineText) (after : Part) → IsLineText text → MayStand part text → (LineNameFault part text → ⊥) → (LineLimitFault part text → ⊥) → Adds part text after → IsPart after
  added (Property Down name kind init) after written stands new small (adds_property value_is of_kind) =
      property_kept part Down _ is (record { awaited = stands; is_word = written.0; short = most_from_not _ _ (λ long. small (inl long)); free = new; few = below_from_not _ _ (λ many. small (inr (inl many))); is_of_kind = of_kind })
  added (Property Up name kind init) after written stands new small (adds_property value_is of_kind) =
      property_kept part Up _ is (record { awaited = stands; is_word = written.0; short = most_from_not _ _ (λ long. small (inl long)); free = new; few = below_from_not _ _ (λ many. small (inr (inl many))); is_of_kind = of_kind })
  added _ _ written stands new small (adds_test {c = c} good) = test_kept part c is (record { awaited = stands; good = good })
  added _ _ written stands new small (adds_step {p = p} e next good) = step_kept e (record { tested = stands.0; property = p; is_due = next; good = good })

-- a good line keeps the rules
pub good_after_valid : {part after : Part} {text : LineText} → IsPart part → IsLineText text → IsGoodAfter part text after → IsPart after
good_after_valid {part = part} {after = after} {text = text} is written good = added part is text after written good.stands good.named good.small good.adds

module _ {part : Part} {test : Cond} (is : IsPart part) (tested : part.test ≡ Some test) where
  -- the test doesn't name the bound on the cost
  pub whole_no_best : IsTrue (is_good_cond (record (test_scope (whole_spec part test)) { best = false }) test)
  whole_no_best = subst (λ t. IfSome t (λ c. IsTrue (is_good_cond (scope_of (test_names part)) c))) tested is.good_test

  -- where no step is due, the lines say a specification
  pub whole_valid : due part ≡ None → IsSpecification (whole_spec part test)
  whole_valid none = whole part is test tested none
