-- What the line of a step adds, and why one is bad.
use Rattle.std.proofs.Common.{◌≡◌, ℕ, Option, None, Some, IfSome, IsSome, Result, Ok, Err, OnOk, List, ◌∷◌, refl, sym, ap, subst}
use Rattle.std.specs.Prelude.{codes}
use Rattle.hk_spec.specs.declared.parts.PropDecl.{PropDecl}
use Rattle.hk_spec.specs.declared.parts.StepExpr.{StepExpr}
use Rattle.hk_parse.specs.BlockFaults.{GoesOn, IsLineFault}
use Rattle.hk_parse.specs.BlockLines.{Part, MayStand, Adds, adds_step, NamesStep, due, step_names, with_step, LineNameFault}
use Rattle.hk_parse.specs.Blocks.{FitsStep}
use Rattle.hk_parse.specs.LineTexts.{Step, StepText, HasForm, SaysLine}
use Rattle.hk_parse.specs.inside.StepReads.{AreNamedStepTexts, IsStepFault, ReadsStepOf}
use Rattle.hk_parse.specs.declared.faults.BlockFault.{BlockFault}
use Rattle.hk_parse.specs.declared.faults.BlockFault.TheVariants.{Syntax, Name, Limit, Memory}
use Rattle.hk_parse.proofs.LineWords.{step_line}

-- what is not missing is there
pub some_there : {X : Type 0} (o : Option X) → (o ≡ None → ⊥) → IsSome o
some_there None other = absurd (other refl)
some_there (Some x) other = refl

module _ (part : Part) (p : PropDecl) (texts : List (List ℕ)) (tested : IsSome part.test) (is_due : due part ≡ Some p) where
  says_step : (name : List ℕ) (step : StepText) → AreNamedStepTexts p.kind texts name step → SaysLine (codes "step" ∷ texts) (Step name step)
  says_step name step are = record { texts_are = ap (λ ts. codes "step" ∷ ts) are.texts_are; written = (are.is_word, are.written) }

  due_some : IsSome (due part)
  due_some = subst IsSome (sym is_due) refl

  due_form : (step : StepText) → HasForm p.kind step → IfSome (due part) (λ q. HasForm q.kind step)
  due_form step form = subst (λ d. IfSome d (λ q. HasForm q.kind step)) (sym is_due) form

  form_due : (step : StepText) → IfSome (due part) (λ q. HasForm q.kind step) → HasForm p.kind step
  form_due step form = subst (λ d. IfSome d (λ q. HasForm q.kind step)) is_due form

  step_stands : (name : List ℕ) (step : StepText) → HasForm p.kind step → MayStand part (Step name step)
  step_stands name step form = (tested, due_some, due_form step form)

  -- names are good where the name is the property's, and those of the step stand for what their places ask
  name_good : (name : List ℕ) (step : StepText) → (p.name ≡ name) × NamesStep (step_names part) step → LineNameFault part (Step name step) → ⊥
  name_good name step named fault = fault (subst (λ d. IfSome d (λ q. (q.name ≡ name) × NamesStep (step_names part) step)) (sym is_due) named)

  name_bad : (name : List ℕ) (step : StepText) → ((p.name ≡ name) × NamesStep (step_names part) step → ⊥) → LineNameFault part (Step name step)
  name_bad name step other named = other (subst (λ d. IfSome d (λ q. (q.name ≡ name) × NamesStep (step_names part) step)) is_due named)

  -- a step that was read may be added
  pub step_fits : (e : StepExpr) → ReadsStepOf (step_names part) p texts e → FitsStep part e
  step_fits e read = let (same, good, named, small) = read.is_made in record { tested = tested; property = p; is_due = is_due; good = good }

  -- and goes on
  pub step_goes_on : (after : Part) (e : StepExpr) → ReadsStepOf (step_names part) p texts e → after ≡ with_step part e → GoesOn part (codes "step" ∷ texts) after
  step_goes_on after e read is =
      let (same, good, named, small) = read.is_made in record {
        line = Step p.name read.text;
        says = says_step p.name read.text read.are;
        good = record {
          stands = step_stands p.name read.text read.are.form;
          named = name_good p.name read.text (refl, named);
          small = λ fault. fault small;
          adds = subst (λ now. Adds part (Step p.name read.text) now) (sym is) (subst (λ text. Adds part (Step p.name text) (with_step part e)) same (adds_step e is_due good));
        };
      }

  pub step_answer : {E : Type 0} (after : Part) (e : StepExpr) (answer : Result (Unit {0}) E) → ReadsStepOf (step_names part) p texts e → OnOk answer (after ≡ with_step part e) → OnOk answer (GoesOn part (codes "step" ∷ texts) after)
  step_answer after e (Ok done) read is = step_goes_on after e read is
  step_answer after e (Err error) read is = tt

  -- or it is bad
  pub step_fault : (fault : BlockFault) → IsStepFault (step_names part) p texts fault → IsLineFault part (codes "step" ∷ texts) fault
  step_fault Syntax none = λ line says. step_line line says (λ l. MayStand part l → ⊥) (λ name step is_word written are stands. none name step (record { texts_are = are; is_word = is_word; written = written; form = form_due step stands.2 }))
  step_fault Name (name, step, are, other) = (Step name step, says_step name step are, step_stands name step are.form, name_bad name step other)
  step_fault Limit (step, are, named, large) = (Step p.name step, says_step p.name step are, step_stands p.name step are.form, name_good p.name step (refl, named), large)
  step_fault Memory wrong = tt
