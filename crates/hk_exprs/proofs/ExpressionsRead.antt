-- What the operand at the end of a run is, as a condition, as a number, as a set, as one of two numbers.
use Rattle.std.proofs.Common.{◌≡◌, ℕ, List, [], ◌∷◌, ◌++◌, Option, None, Some, Result, refl, sym, ap, subst, ◌∙◌}
use Rattle.std.specs.Result.{result_map_both}
use Rattle.hk_spec.specs.declared.expressions.NumExpr.{NumExpr}
use Rattle.hk_spec.specs.declared.expressions.SetExpr.{SetExpr}
use Rattle.hk_spec.specs.declared.expressions.Cond.{Cond}
use Rattle.hk_terms.specs.SetTexts.{SetText, set_texts, IsSetText}
use Rattle.hk_terms.specs.NumTexts.{NumText, num_texts, IsNumText}
use Rattle.hk_terms.specs.CondTexts.{CondText, cond_texts, IsCondText}
use Rattle.hk_terms.specs.Operands.{Operand}
use Rattle.hk_exprs.specs.inside.Machines.{as_num, as_set, as_cond, Empty, One, First, Both, Steps, no_step}
use Rattle.hk_terms.specs.Names.{Names}
use Rattle.hk_terms.specs.Outcomes.{IsCondOf, IsNumOf, IsSetOf}
use Rattle.hk_exprs.specs.Reads.{IsPairOf, ReadsCond, ReadsNum, ReadsSet, ReadsPair}
use Rattle.hk_exprs.specs.inside.Standing.{BothOrNone, neither, both_there, IsMadeCond, IsMadeNum, IsMadeSet, made_well, made_misnamed, made_large}
use Rattle.hk_terms.specs.declared.flaws.Flaw.{Flaw}
use Rattle.hk_exprs.specs.declared.operands.Tree.{Tree}
use Rattle.hk_exprs.proofs.FramesSaid.{cond_said, num_said, set_said, pair_said}
use Rattle.hk_exprs.proofs.MachineMarks.{none_some}
use Rattle.hk_exprs.proofs.MachineReads.{one_same, both_same, cond_none, num_none, set_none, pair_none}
use Rattle.hk_exprs.proofs.MachineSteps.{steps_one}

-- what is made, without the depth
abbrev pub root_made : {T : Type 0} → Result (Tree T) Flaw → Result T Flaw
root_made made = result_map_both (λ tree. tree.root) (λ flaw. flaw) made

-- what is made of an expression, with the depth and without it
cond_root : {names : Names} {text : CondText} {made : Result (Tree Cond) Flaw} → IsMadeCond names text made → IsCondOf names text (root_made made)
cond_root (made_well is named small deep depth) = (is.text_is, is.good, named, small)
cond_root (made_misnamed none) = none
cond_root (made_large named large) = (named, large)

num_root : {names : Names} {text : NumText} {made : Result (Tree NumExpr) Flaw} → IsMadeNum names text made → IsNumOf names text (root_made made)
num_root (made_well is named small deep depth) = (is.text_is, is.good, named, small)
num_root (made_misnamed none) = none
num_root (made_large named large) = (named, large)

set_root : {names : Names} {text : SetText} {made : Result (Tree SetExpr) Flaw} → IsMadeSet names text made → IsSetOf names text (root_made made)
set_root (made_well is named small deep depth) = (is.text_is, is.good, named, small)
set_root (made_misnamed none) = none
set_root (made_large named large) = (named, large)

-- where one is there, so is the other
there : {A B : Type 0} {stand : A → B → Type 0} {o : Option A} {b : B} → BothOrNone stand o (Some b) → (a : A) × (o ≡ Some a) × stand a b
there (both_there {a = a} is) = (a, refl, is)

-- where one is not there, neither is the other
not_there : {A B : Type 0} {stand : A → B → Type 0} {o : Option A} → BothOrNone stand o None → o ≡ None
not_there neither = refl

-- another run to the end comes to the same operand, which is of no kind
of_no_kind : {X : Type 0} (kind : Operand → Option X) {texts : List (List ℕ)} {x y : Operand} {e : X} → Steps (Empty ∷ []) texts (One x ∷ []) [] → kind x ≡ None → kind y ≡ Some e → Steps (Empty ∷ []) texts (One y ∷ []) [] → ⊥
of_no_kind kind steps none some other = none_some (sym none ∙ ap kind (one_same (steps_one steps other)) ∙ some)

module _ {names : Names} {texts : List (List ℕ)} {x : Operand} (steps : Steps (Empty ∷ []) texts (One x ∷ []) []) where
  -- the operand is a condition, of which this is made
  pub cond_read : {made : Result (Tree Cond) Flaw} {root : Result Cond Flaw} → BothOrNone (IsMadeCond names) (as_cond x) (Some made) → root ≡ root_made made → ReadsCond names texts root
  cond_read both same =
      let found = there both in
      let said = cond_said steps found.1 in
      record { text = found.0; written = said.0; texts_are = said.1; is_made = subst (IsCondOf names found.0) (sym same) (cond_root found.2) }

  -- it is none
  pub no_cond_read : BothOrNone (IsMadeCond names) (as_cond x) None → (text : CondText) → IsCondText text → texts ≡ cond_texts text → ⊥
  no_cond_read none = cond_none no_step (λ y c is other. of_no_kind as_cond steps (not_there none) is other)

  -- the same of a number
  pub num_read : {made : Result (Tree NumExpr) Flaw} {root : Result NumExpr Flaw} → BothOrNone (IsMadeNum names) (as_num x) (Some made) → root ≡ root_made made → ReadsNum names texts root
  num_read both same =
      let found = there both in
      let said = num_said steps found.1 in
      record { text = found.0; written = said.0; texts_are = said.1; is_made = subst (IsNumOf names found.0) (sym same) (num_root found.2) }

  pub no_num_read : BothOrNone (IsMadeNum names) (as_num x) None → (text : NumText) → IsNumText text → texts ≡ num_texts text → ⊥
  no_num_read none = num_none no_step (λ y e is other. of_no_kind as_num steps (not_there none) is other)

  -- the same of a set
  pub set_read : {made : Result (Tree SetExpr) Flaw} {root : Result SetExpr Flaw} → BothOrNone (IsMadeSet names) (as_set x) (Some made) → root ≡ root_made made → ReadsSet names texts root
  set_read both same =
      let found = there both in
      let said = set_said steps found.1 in
      record { text = found.0; written = said.0; texts_are = said.1; is_made = subst (IsSetOf names found.0) (sym same) (set_root found.2) }

  pub no_set_read : BothOrNone (IsMadeSet names) (as_set x) None → (text : SetText) → IsSetText text → texts ≡ set_texts text → ⊥
  no_set_read none = set_none no_step (λ y e is other. of_no_kind as_set steps (not_there none) is other)

module _ {texts : List (List ℕ)} where
  -- no run comes to one operand
  pub no_cond_run : ((x : Operand) → Steps (Empty ∷ []) texts (One x ∷ []) [] → ⊥) → (text : CondText) → IsCondText text → texts ≡ cond_texts text → ⊥
  no_cond_run none = cond_none no_step (λ y c is other. none y other)

  pub no_num_run : ((x : Operand) → Steps (Empty ∷ []) texts (One x ∷ []) [] → ⊥) → (text : NumText) → IsNumText text → texts ≡ num_texts text → ⊥
  no_num_run none = num_none no_step (λ y e is other. none y other)

  pub no_set_run : ((x : Operand) → Steps (Empty ∷ []) texts (One x ∷ []) [] → ⊥) → (text : SetText) → IsSetText text → texts ≡ set_texts text → ⊥
  no_set_run none = set_none no_step (λ y e is other. none y other)

  -- no run comes to two operands side by side
  pub no_pair_run : ((x y : Operand) → Steps (First ∷ []) texts (Both x y ∷ []) [] → ⊥) → (low high : NumText) → IsNumText low → IsNumText high → texts ≡ num_texts low ++ num_texts high → ⊥
  no_pair_run none = pair_none no_step (λ x y low high low_is high_is other. none x y other)

module _ {names : Names} {texts : List (List ℕ)} {x y : Operand} (steps : Steps (First ∷ []) texts (Both x y ∷ []) []) where
  -- both operands are numbers, and this is made of them
  pub pair_read : {low high : Result (Tree NumExpr) Flaw} {low' high' : Result NumExpr Flaw} {made : Result (NumExpr × NumExpr) Flaw}
      → BothOrNone (IsMadeNum names) (as_num x) (Some low) → BothOrNone (IsMadeNum names) (as_num y) (Some high)
      → low' ≡ root_made low → high' ≡ root_made high
      → ((names : Names) (a b : NumText) → IsNumOf names a low' → IsNumOf names b high' → IsPairOf names a b made)
      → ReadsPair names texts made
  pair_read one two low_same high_same is =
      let first = there one in
      let second = there two in
      let said = pair_said steps first.1 second.1 in
      record {
        low = first.0;
        high = second.0;
        low_written = said.0;
        high_written = said.1;
        texts_are = said.2;
        is_made = is names first.0 second.0 (subst (IsNumOf names first.0) (sym low_same) (num_root first.2)) (subst (IsNumOf names second.0) (sym high_same) (num_root second.2));
      }

  -- the first is none
  pub no_low_read : BothOrNone (IsMadeNum names) (as_num x) None → (low high : NumText) → IsNumText low → IsNumText high → texts ≡ num_texts low ++ num_texts high → ⊥
  no_low_read none = pair_none no_step (λ a b low high low_is high_is other. none_some (sym (not_there none) ∙ ap as_num (both_same (steps_one steps other)).0 ∙ low_is))

  -- the second is none
  pub no_high_read : BothOrNone (IsMadeNum names) (as_num y) None → (low high : NumText) → IsNumText low → IsNumText high → texts ≡ num_texts low ++ num_texts high → ⊥
  no_high_read none = pair_none no_step (λ a b low high low_is high_is other. none_some (sym (not_there none) ∙ ap as_num (both_same (steps_one steps other)).1 ∙ high_is))
