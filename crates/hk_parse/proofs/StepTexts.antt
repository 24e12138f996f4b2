-- Steps as they are written, and what is made of them.
use Rattle.std.proofs.Common.{◌≡◌, ◌≤◌, ℕ, true, true≢false, Option, Some, None, IfSome, IsNone, Result, Ok, Err, IfOk, IfErr, List, ◌∷◌, sym, ap, ◌∙◌, subst, arith}
use Rattle.std.proofs.lemmas.Bool.{and_parts, and_from, leb-true}
use Rattle.hk_kinds.specs.declared.kinds.Kind.{Kind}
use Rattle.hk_kinds.specs.declared.kinds.Kind.TheVariants.{Min, Max, Interval, SomeBits, AllBits}
use Rattle.hk_spec.specs.Scopes as scopes
use Rattle.hk_spec.specs.Scopes.{is_good_num, is_good_set}
use Rattle.hk_spec.specs.declared.expressions.NumExpr.{NumExpr}
use Rattle.hk_spec.specs.declared.expressions.SetExpr.{SetExpr}
use Rattle.hk_spec.specs.declared.parts.PropDecl.{PropDecl}
use Rattle.hk_spec.specs.declared.parts.StepExpr.{StepExpr}
use Rattle.hk_spec.specs.declared.parts.StepExpr.TheVariants as step
use Rattle.hk_terms.specs.Names.{scope_of}
use Rattle.hk_text.specs.Lexemes.{IsWord}
use Rattle.hk_parse.specs.declared.faults.BlockFault.{BlockFault}
use Rattle.hk_parse.specs.declared.faults.BlockFault.TheVariants as fault
use Rattle.hk_parse.specs.LineTexts.{StepText, ToNumber, ToPair, ToSet, HasForm}
use Rattle.hk_terms.specs.Names.{Names, set_depth, num_depth}
use Rattle.hk_terms.specs.NumTexts.{NumText}
use Rattle.hk_exprs.specs.Reads.{ReadsNum, ReadsPair, ReadsSet}
use Rattle.hk_terms.specs.SetTexts.{SetText}
use Rattle.hk_parse.specs.inside.StepReads.{ReadsStep, IsStepOf, AreStepTexts, AreNamedStepTexts, ReadsStepOf, IsStepFault, IsNamed}
use Rattle.hk_terms.specs.Trees.{num_text, set_text}
use Rattle.hk_terms.specs.declared.flaws.Flaw.{Flaw}
use Rattle.hk_terms.specs.declared.flaws.Flaw.TheVariants.{Name, Limit}
use Rattle.hk_terms.proofs.Depths.{num_deep, set_deep}

-- what is written of a good expression is not too deep
pub num_shallow : (names : Names) {text : NumText} (e : NumExpr) → num_text names e ≡ text → is_good_num (scope_of names) e ≡ true → num_depth text ≤ 32
num_shallow names {text = text} e is good =
    let depth : num_depth text ≡ scopes.num_depth e = ap num_depth (sym is) ∙ num_deep names e in
    omega (arith, depth, leb-true (scopes.num_depth e) 32 (and_parts (scopes.num_fits (scope_of names) e) _ good).1)

pub set_shallow : (names : Names) {text : SetText} (e : SetExpr) → set_text names e ≡ text → is_good_set (scope_of names) e ≡ true → set_depth text ≤ 32
set_shallow names {text = text} e is good =
    let depth : set_depth text ≡ scopes.set_depth e = ap set_depth (sym is) ∙ set_deep names e in
    omega (arith, depth, leb-true (scopes.set_depth e) 32 (and_parts (scopes.set_fits (scope_of names) e) _ good).1)

-- what holds of an answer holds of what it is
pub some_is : {X : Type 0} (P : X → Type 0) {o : Option X} {x y : X} → IfSome o P → o ≡ Some x → x ≡ y → P y
some_is P holds is same = subst P same (subst (λ r. IfSome r P) is holds)

module _ {names : Names} {texts : List (List ℕ)} where
  -- a step to a number was read
  pub number_step_read : {e : NumExpr} → ReadsNum names texts (Ok e) → ReadsStep names Min texts (Ok (step.Num e))
  number_step_read {e = e} read =
      let (same, good, named, small) = read.is_made in record {
        text = ToNumber read.text;
        are = record { texts_are = read.texts_are; written = read.written; form = tt };
        is_made = (ap ToNumber same, good, named, (small, num_shallow names e same good));
      }

  pub number_step_flaw : (flaw : Flaw) → ReadsNum names texts (Err flaw) → ReadsStep names Min texts (Err flaw)
  number_step_flaw Name read = record { text = ToNumber read.text; are = record { texts_are = read.texts_are; written = read.written; form = tt }; is_made = read.is_made }
  number_step_flaw Limit read = record { text = ToNumber read.text; are = record { texts_are = read.texts_are; written = read.written; form = tt }; is_made = read.is_made }

  -- a step to two numbers was read
  pub interval_step_read : {low high : NumExpr} → ReadsPair names texts (Ok (low, high)) → ReadsStep names Interval texts (Ok (step.Pair low high))
  interval_step_read {low = low} {high = high} read =
      let (same, good, named, small) = read.is_made.0 in
      let (also_same, also_good, also_named, also_small) = read.is_made.1 in record {
        text = ToPair read.low read.high;
        are = record { texts_are = read.texts_are; written = (read.low_written, read.high_written); form = tt };
        is_made = (both_texts same also_same, and_from _ _ good also_good, (named, also_named), ((small, num_shallow names low same good), (also_small, num_shallow names high also_same also_good)));
      }
    where
      both_texts : {a b c d : NumText} → a ≡ c → b ≡ d → ToPair a b ≡ ToPair c d
      both_texts x y = cc

  pub interval_step_flaw : (flaw : Flaw) → ReadsPair names texts (Err flaw) → ReadsStep names Interval texts (Err flaw)
  interval_step_flaw Name read = record { text = ToPair read.low read.high; are = record { texts_are = read.texts_are; written = (read.low_written, read.high_written); form = tt }; is_made = read.is_made }
  interval_step_flaw Limit read = record { text = ToPair read.low read.high; are = record { texts_are = read.texts_are; written = (read.low_written, read.high_written); form = tt }; is_made = read.is_made }

  -- a step to a set was read
  pub set_step_read : {e : SetExpr} → ReadsSet names texts (Ok e) → ReadsStep names SomeBits texts (Ok (step.Set e))
  set_step_read {e = e} read =
      let (same, good, named, small) = read.is_made in record {
        text = ToSet read.text;
        are = record { texts_are = read.texts_are; written = read.written; form = tt };
        is_made = (ap ToSet same, good, named, (small, set_shallow names e same good));
      }

  pub set_step_flaw : (flaw : Flaw) → ReadsSet names texts (Err flaw) → ReadsStep names SomeBits texts (Err flaw)
  set_step_flaw Name read = record { text = ToSet read.text; are = record { texts_are = read.texts_are; written = read.written; form = tt }; is_made = read.is_made }
  set_step_flaw Limit read = record { text = ToSet read.text; are = record { texts_are = read.texts_are; written = read.written; form = tt }; is_made = read.is_made }

-- what is read of a number or a set serves both kinds
number_form : (text : StepText) → HasForm Min text → HasForm Max text
number_form (ToNumber e) form = tt
number_form (ToPair low high) form = absurd form
number_form (ToSet e) form = absurd form

set_form : (text : StepText) → HasForm SomeBits text → HasForm AllBits text
set_form (ToNumber e) form = absurd form
set_form (ToPair low high) form = absurd form
set_form (ToSet e) form = tt

number_made : (names : Names) (text : StepText) (made : Result StepExpr Flaw) → IsStepOf names Min text made → IsStepOf names Max text made
number_made names text (Ok (step.Num e)) is = is
number_made names text (Ok (step.Pair low high)) (same, good, named, small) = absurd (true≢false (sym good))
number_made names text (Ok (step.Set e)) (same, good, named, small) = absurd (true≢false (sym good))
number_made names text (Err Name) is = is
number_made names text (Err Limit) is = is

set_made : (names : Names) (text : StepText) (made : Result StepExpr Flaw) → IsStepOf names SomeBits text made → IsStepOf names AllBits text made
set_made names text (Ok (step.Num e)) (same, good, named, small) = absurd (true≢false (sym good))
set_made names text (Ok (step.Pair low high)) (same, good, named, small) = absurd (true≢false (sym good))
set_made names text (Ok (step.Set e)) is = is
set_made names text (Err Name) is = is
set_made names text (Err Limit) is = is

number_form_back : (text : StepText) → HasForm Max text → HasForm Min text
number_form_back (ToNumber e) form = tt
number_form_back (ToPair low high) form = absurd form
number_form_back (ToSet e) form = absurd form

set_form_back : (text : StepText) → HasForm AllBits text → HasForm SomeBits text
set_form_back (ToNumber e) form = absurd form
set_form_back (ToPair low high) form = absurd form
set_form_back (ToSet e) form = tt

-- the same of an answer
pub max_step_read : {E : Type 0} {kind : Kind} (names : Names) (texts : List (List ℕ)) (read : Result (Option (Result StepExpr Flaw)) E) → kind ≡ Max
    → IfOk read (λ found. IfSome found (ReadsStep names Min texts)) → IfOk read (λ found. IfSome found (ReadsStep names kind texts))
max_step_read names texts (Err error) is reads = tt
max_step_read names texts (Ok None) is reads = tt
max_step_read names texts (Ok (Some made)) is reads = subst (λ kind. ReadsStep names kind texts made) (sym is) (record {
  text = reads.text;
  are = record { texts_are = reads.are.texts_are; written = reads.are.written; form = number_form reads.text reads.are.form };
  is_made = number_made names reads.text made reads.is_made;
})

pub all_step_read : {E : Type 0} {kind : Kind} (names : Names) (texts : List (List ℕ)) (read : Result (Option (Result StepExpr Flaw)) E) → kind ≡ AllBits
    → IfOk read (λ found. IfSome found (ReadsStep names SomeBits texts)) → IfOk read (λ found. IfSome found (ReadsStep names kind texts))
all_step_read names texts (Err error) is reads = tt
all_step_read names texts (Ok None) is reads = tt
all_step_read names texts (Ok (Some made)) is reads = subst (λ kind. ReadsStep names kind texts made) (sym is) (record {
  text = reads.text;
  are = record { texts_are = reads.are.texts_are; written = reads.are.written; form = set_form reads.text reads.are.form };
  is_made = set_made names reads.text made reads.is_made;
})

-- where no step is read, the texts are none
abbrev pub AreNoStep : Kind → List (List ℕ) → Option (Result StepExpr Flaw) → Type 0
AreNoStep kind texts found = IsNone found → (text : StepText) → AreStepTexts kind texts text → ⊥

pub max_step_none : {E : Type 0} {kind : Kind} (texts : List (List ℕ)) (read : Result (Option (Result StepExpr Flaw)) E) → kind ≡ Max → IfOk read (AreNoStep Min texts) → IfOk read (AreNoStep kind texts)
max_step_none texts (Err error) is none = tt
max_step_none texts (Ok found) is none =
    subst (λ kind. AreNoStep kind texts found) (sym is) (λ nothing text are. none nothing text (record { texts_are = are.texts_are; written = are.written; form = number_form_back text are.form }))

pub all_step_none : {E : Type 0} {kind : Kind} (texts : List (List ℕ)) (read : Result (Option (Result StepExpr Flaw)) E) → kind ≡ AllBits → IfOk read (AreNoStep SomeBits texts) → IfOk read (AreNoStep kind texts)
all_step_none texts (Err error) is none = tt
all_step_none texts (Ok found) is none =
    subst (λ kind. AreNoStep kind texts found) (sym is) (λ nothing text are. none nothing text (record { texts_are = are.texts_are; written = are.written; form = set_form_back text are.form }))

-- a name and a step: the step of the property, where the name is its own, or its fault
module _ {names : Names} (p : PropDecl) {texts rest : List (List ℕ)} {name : List ℕ} (begins : texts ≡ name ∷ rest) (word : IsWord name) where
  named_texts : {made : Result StepExpr Flaw} (read : ReadsStep names p.kind rest made) → AreNamedStepTexts p.kind texts name read.text
  named_texts read = record { texts_are = begins ∙ ap (λ ts. name ∷ ts) read.are.texts_are; is_word = word; written = read.are.written; form = read.are.form }

  pub named_read : (made : Result StepExpr Flaw) (result : Result StepExpr BlockFault) → ReadsStep names p.kind rest made → IsNamed name p.name made result → IfOk result (ReadsStepOf names p texts)
  named_read (Ok e) (Ok step) read (same, is) = record {
    text = read.text;
    are = subst (λ n. AreNamedStepTexts p.kind texts n read.text) same (named_texts read);
    is_made = subst (λ made. IsStepOf names p.kind read.text (Ok made)) (sym is) read.is_made;
  }
  named_read (Err Name) (Ok step) read never = absurd never
  named_read (Err Limit) (Ok step) read never = absurd never
  named_read made (Err fault) read named = tt

  pub named_fault : (made : Result StepExpr Flaw) (result : Result StepExpr BlockFault) → ReadsStep names p.kind rest made → IsNamed name p.name made result → IfErr result (IsStepFault names p texts)
  named_fault made (Ok step) read named = tt
  named_fault (Ok e) (Err fault.Name) read other = (name, read.text, named_texts read, λ both. other (sym both.0))
  named_fault (Err Name) (Err fault.Name) read named = (name, read.text, named_texts read, λ both. read.is_made both.1)
  named_fault (Err Limit) (Err fault.Name) read other = (name, read.text, named_texts read, λ both. other (sym both.0))
  named_fault (Err Limit) (Err fault.Limit) read same = (read.text, subst (λ n. AreNamedStepTexts p.kind texts n read.text) same (named_texts read), read.is_made.0, read.is_made.1)
  named_fault (Ok e) (Err fault.Syntax) read never = absurd never
  named_fault (Ok e) (Err fault.Limit) read never = absurd never
  named_fault (Ok e) (Err fault.Memory) read never = absurd never
  named_fault (Err Name) (Err fault.Syntax) read never = absurd never
  named_fault (Err Name) (Err fault.Limit) read never = absurd never
  named_fault (Err Name) (Err fault.Memory) read never = absurd never
  named_fault (Err Limit) (Err fault.Syntax) read never = absurd never
  named_fault (Err Limit) (Err fault.Memory) read never = absurd never
