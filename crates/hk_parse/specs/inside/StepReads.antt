-- What is read of the line of a step, by the property whose step it is.
use Rattle.std.specs.Prelude.{◌≡◌, ℕ, List, ◌∷◌, Result, Ok, Err, IsTrue}
use Rattle.hk_kinds.specs.declared.kinds.Kind.{Kind}
use Rattle.hk_spec.specs.Specifications.{is_step}
use Rattle.hk_spec.specs.declared.parts.PropDecl.{PropDecl}
use Rattle.hk_spec.specs.declared.parts.StepExpr.{StepExpr}
use Rattle.hk_text.specs.Lexemes.{IsWord}
use Rattle.hk_parse.specs.BlockLines.{NamesStep, SmallStep}
use Rattle.hk_terms.specs.Names.{scope_of}
use Rattle.hk_parse.specs.LineTexts.{StepText, step_texts, IsStepText, HasForm}
use Rattle.hk_terms.specs.Names.{Names}
use Rattle.hk_parse.specs.LineTrees.{step_text}
use Rattle.hk_parse.specs.declared.faults.BlockFault.{BlockFault}
use Rattle.hk_parse.specs.declared.faults.BlockFault.TheVariants as fault
use Rattle.hk_terms.specs.declared.flaws.Flaw.{Flaw}
use Rattle.hk_terms.specs.declared.flaws.Flaw.TheVariants.{Name, Limit}

-- what is made of a step as it is written: the step; or Name where a name doesn't stand for what its place asks; or else Limit where a number or a depth passes its limit
abbrev pub IsStepOf : Names → Kind → StepText → Result StepExpr Flaw → Type 0
IsStepOf names kind text (Ok e) = (step_text names e ≡ text) × IsTrue (is_step (scope_of names) kind e) × NamesStep names text × SmallStep text
IsStepOf names kind text (Err Name) = NamesStep names text → ⊥
IsStepOf names kind text (Err Limit) = NamesStep names text × (SmallStep text → ⊥)

-- the texts are a step in the form that the kind asks
pub record AreStepTexts (kind : Kind) (texts : List (List ℕ)) (step : StepText) : Type 0 where
  pub texts_are : texts ≡ step_texts step
  pub written : IsStepText step
  pub form : HasForm kind step

-- and this is made of it
pub record ReadsStep (names : Names) (kind : Kind) (texts : List (List ℕ)) (made : Result StepExpr Flaw) : Type 0 where
  pub text : StepText
  pub are : AreStepTexts kind texts text
  pub is_made : IsStepOf names kind text made

-- the texts are a name and a step in the form that the kind asks
pub record AreNamedStepTexts (kind : Kind) (texts : List (List ℕ)) (name : List ℕ) (step : StepText) : Type 0 where
  pub texts_are : texts ≡ name ∷ step_texts step
  pub is_word : IsWord name
  pub written : IsStepText step
  pub form : HasForm kind step

-- the texts are the step of the property, and this is made of it
pub record ReadsStepOf (names : Names) (p : PropDecl) (texts : List (List ℕ)) (e : StepExpr) : Type 0 where
  pub text : StepText
  pub are : AreNamedStepTexts p.kind texts p.name text
  pub is_made : IsStepOf names p.kind text (Ok e)

-- why the texts are no step of the property
abbrev pub IsStepFault : Names → PropDecl → List (List ℕ) → BlockFault → Type 0
IsStepFault names p texts fault.Syntax = (name : List ℕ) (step : StepText) → AreNamedStepTexts p.kind texts name step → ⊥
IsStepFault names p texts fault.Name = (name : List ℕ) × (step : StepText) × AreNamedStepTexts p.kind texts name step × ((p.name ≡ name) × NamesStep names step → ⊥)
IsStepFault names p texts fault.Limit = (step : StepText) × AreNamedStepTexts p.kind texts p.name step × NamesStep names step × (SmallStep step → ⊥)
IsStepFault names p texts fault.Memory = Unit {0}

-- the answer about a step that was made, under a name: Name where that is not the property's own
abbrev pub IsNamed : List ℕ → List ℕ → Result StepExpr Flaw → Result StepExpr BlockFault → Type 0
IsNamed name own (Ok e) (Ok step) = (name ≡ own) × (step ≡ e)
IsNamed name own (Ok e) (Err fault.Name) = name ≡ own → ⊥
IsNamed name own (Err Name) (Err fault.Name) = Unit {0}
IsNamed name own (Err Limit) (Err fault.Name) = name ≡ own → ⊥
IsNamed name own (Err Limit) (Err fault.Limit) = name ≡ own
IsNamed name own _ _ = ⊥

-- what was made, or the fault of its flaw
abbrev pub or_fault : {X : Type 0} → Result X Flaw → Result X BlockFault
or_fault (Ok x) = Ok x
or_fault (Err Name) = Err fault.Name
or_fault (Err Limit) = Err fault.Limit
