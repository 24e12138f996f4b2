-- Marks, and the brackets that aren't marks.
use Rattle.std.proofs.Common.{◌≡◌, ℕ, if◌then◌else◌, List, [], ◌∷◌, Option, Some, None, bytes_eq, refl, sym, ap, ◌∙◌}
use Rattle.hk_terms.specs.declared.marks.Mark.{Mark}
use Rattle.hk_terms.specs.declared.marks.Mark.TheVariants.{Union, Common, Without, Plus, Minus, Times, AtMost, Below, AtLeast, Above, Equal, In, NotIn, Sub, And, Or, Comma}
use Rattle.hk_terms.specs.Operands.{mark_text}
use Rattle.hk_exprs.specs.inside.Machines.{BeginsMark}
use Rattle.hk_text.proofs.TokenTexts.{same_first}

-- the mark of a text, where it is one
abbrev pub mark_in : List ℕ → List Mark → Option Mark
mark_in text [] = None
mark_in text (mark ∷ more) = if bytes_eq text (mark_text mark) then Some mark else mark_in text more

abbrev pub mark_at : List ℕ → Option Mark
mark_at text = mark_in text (Union ∷ Common ∷ Without ∷ Plus ∷ Minus ∷ Times ∷ AtMost ∷ Below ∷ AtLeast ∷ Above ∷ Equal ∷ In ∷ NotIn ∷ Sub ∷ And ∷ Or ∷ Comma ∷ [])

pub mark_at_text : (mark : Mark) → mark_at (mark_text mark) ≡ Some mark
mark_at_text Union = refl
mark_at_text Common = refl
mark_at_text Without = refl
mark_at_text Plus = refl
mark_at_text Minus = refl
mark_at_text Times = refl
mark_at_text AtMost = refl
mark_at_text Below = refl
mark_at_text AtLeast = refl
mark_at_text Above = refl
mark_at_text Equal = refl
mark_at_text In = refl
mark_at_text NotIn = refl
mark_at_text Sub = refl
mark_at_text And = refl
mark_at_text Or = refl
mark_at_text Comma = refl

-- a value that is there is one
pub some_one : {X : Type 0} {x y : X} → Some x ≡ Some y → x ≡ y
some_one same = cc

-- two marks with one text are one
pub mark_one : (a b : Mark) → mark_text a ≡ mark_text b → a ≡ b
mark_one a b same = some_one (sym (mark_at_text a) ∙ ap mark_at same ∙ mark_at_text b)

-- no value isn't one that is there
pub none_some : {X : Type 0} {x : X} → None ≡ Some x → ⊥
none_some same = cc

-- a text that is no mark is the text of no mark: the test is `refl` where its bytes are written out
pub no_mark : {text : List ℕ} (mark : Mark) → mark_text mark ≡ text → mark_at text ≡ None → ⊥
no_mark mark same none = none_some (sym none ∙ ap mark_at (sym same) ∙ mark_at_text mark)

-- texts that begin with a text that is no mark begin with no mark
pub begins_no_mark : {texts rest : List (List ℕ)} {text : List ℕ} → texts ≡ text ∷ rest → mark_at text ≡ None → BeginsMark texts → ⊥
begins_no_mark is none begins = no_mark begins.0 (same_first begins.2 is) none
