-- The texts of operands and of frames, and that each is well written.
use Rattle.std.proofs.Common.{◌≡◌, ℕ, Bool, true, false, if◌then◌else◌, List, [], ◌∷◌, ◌++◌, Option, Some, None, option_map, bytes_eq, codes, refl, ap, subst, ◌⊎◌, inl, inr}
use Rattle.hk_text.specs.Lexemes.{IsWord}
use Rattle.hk_text.specs.Numbers.{IsNumber}
use Rattle.hk_terms.specs.SetTexts.{SetText, set_texts, in_parentheses, IsSetText}
use Rattle.hk_terms.specs.NumTexts.{NumText, num_texts, IsNumText}
use Rattle.hk_terms.specs.CondTexts.{CondText, cond_texts, IsCondText}
use Rattle.hk_terms.specs.Operands.{mark_text, Operand, Word, Signed, Num, Set, Cond}
use Rattle.hk_exprs.specs.inside.Machines.{as_num, as_set, as_cond, Frame, Empty, Turned, One, Neg, After, Two, NotOf, First, Second, Both, Content, Value, Single, Couple}
use Rattle.hk_text.proofs.TokenTexts.{eq_same, nonzero_text}
use Rattle.hk_exprs.proofs.MachineMarks.{some_one, none_some}

-- the texts of an operand
abbrev pub operand_texts : Operand → List (List ℕ)
operand_texts (Word word) = word ∷ []
operand_texts (Signed digits) = codes "-" ∷ digits ∷ []
operand_texts (Num e) = num_texts e
operand_texts (Set e) = set_texts e
operand_texts (Cond c) = cond_texts c

-- the operand is well written
abbrev pub IsOperand : Operand → Type 0
IsOperand (Word word) = IsWord word
IsOperand (Signed digits) = (n : ℕ) × IsNumber digits n
IsOperand (Num e) = IsNumText e
IsOperand (Set e) = IsSetText e
IsOperand (Cond c) = IsCondText c

-- the texts of what was taken since a parenthesis was opened
abbrev pub frame_texts : Frame → List (List ℕ)
frame_texts Empty = []
frame_texts Turned = codes "-" ∷ []
frame_texts (One a) = operand_texts a
frame_texts (Neg a) = codes "-" ∷ operand_texts a
frame_texts (After a mark) = operand_texts a ++ mark_text mark ∷ []
frame_texts (Two a mark b) = operand_texts a ++ mark_text mark ∷ operand_texts b
frame_texts (NotOf c) = codes "not" ∷ cond_texts c
frame_texts First = []
frame_texts (Second a) = operand_texts a
frame_texts (Both a b) = operand_texts a ++ operand_texts b

-- all that stands in the frame is well written
abbrev pub IsFrame : Frame → Type 0
IsFrame Empty = Unit {0}
IsFrame Turned = Unit {0}
IsFrame (One a) = IsOperand a
IsFrame (Neg a) = IsOperand a
IsFrame (After a mark) = IsOperand a
IsFrame (Two a mark b) = IsOperand a × IsOperand b
IsFrame (NotOf c) = IsCondText c
IsFrame First = Unit {0}
IsFrame (Second a) = IsOperand a
IsFrame (Both a b) = IsOperand a × IsOperand b

-- the texts of frames and of the parenthesis that was opened after them, the innermost frame first
abbrev pub outer_texts : List Frame → List (List ℕ)
outer_texts [] = []
outer_texts (frame ∷ frames) = outer_texts frames ++ (frame_texts frame ++ codes "(" ∷ [])

-- the texts that were taken, with frames that stand so now, the innermost first
abbrev pub frames_texts : List Frame → List (List ℕ)
frames_texts [] = []
frames_texts (frame ∷ frames) = outer_texts frames ++ frame_texts frame

-- all that stands in frames is well written
abbrev pub AreFrames : List Frame → Type 0
AreFrames [] = Unit {0}
AreFrames (frame ∷ frames) = IsFrame frame × AreFrames frames

-- the texts of what stood in parentheses, with the parentheses, and that it is well written
abbrev pub content_texts : Content → List (List ℕ)
content_texts (Value x) = operand_texts x
content_texts (Single x) = in_parentheses (operand_texts x)
content_texts (Couple a b) = in_parentheses (num_texts a ++ codes "," ∷ num_texts b)

abbrev pub IsContent : Content → Type 0
IsContent (Value x) = IsOperand x
IsContent (Single x) = IsOperand x
IsContent (Couple a b) = IsNumText a × IsNumText b

-- a value under a test is there where the test holds, or where it doesn't
pub some_where : {X : Type 0} {y x : X} (test : Bool) → (if test then Some y else None) ≡ Some x → (test ≡ true) × (y ≡ x)
some_where true same = (refl, some_one same)
some_where false same = absurd (none_some same)

pub some_unless : {X : Type 0} {y x : X} (test : Bool) → (if test then None else Some y) ≡ Some x → (test ≡ false) × (y ≡ x)
some_unless true same = absurd (none_some same)
some_unless false same = (refl, some_one same)

pub some_either : {X : Type 0} {y x : X} {other : Option X} (test : Bool) → (if test then Some y else other) ≡ Some x → ((test ≡ true) × (y ≡ x)) ⊎ (other ≡ Some x)
some_either true same = inl (refl, some_one same)
some_either false same = inr same

pub some_only : {X : Type 0} {x : X} {other : Option X} (test : Bool) → (if test then other else None) ≡ Some x → (test ≡ true) × (other ≡ Some x)
some_only true same = (refl, same)
some_only false same = absurd (none_some same)

-- a value that was made of another
pub some_made : {X Y : Type 0} (make : X → Y) (from : Option X) {y : Y} → option_map make from ≡ Some y → (x : X) × (from ≡ Some x) × (make x ≡ y)
some_made make None same = absurd (none_some same)
some_made make (Some x) same = (x, refl, some_one same)

-- an operand as a number has its texts
pub num_has : (x : Operand) (e : NumText) → as_num x ≡ Some e → IsOperand x → IsNumText e × (operand_texts x ≡ num_texts e)
num_has (Word word) e same is = subst (λ e. IsNumText e × (word ∷ [] ≡ num_texts e)) (some_one same) (is, refl)
num_has (Signed digits) e same is =
    let made = some_unless (bytes_eq digits (codes "0")) same in
    subst (λ e. IsNumText e × (codes "-" ∷ digits ∷ [] ≡ num_texts e)) made.1 (nonzero_text is.1 made.0, refl)
num_has (Num n) e same is = subst (λ e. IsNumText e × (num_texts n ≡ num_texts e)) (some_one same) (is, refl)
num_has (Set s) e same is = absurd (none_some same)
num_has (Cond c) e same is = absurd (none_some same)

-- the same as a set
pub set_has : (x : Operand) (e : SetText) → as_set x ≡ Some e → IsOperand x → IsSetText e × (operand_texts x ≡ set_texts e)
set_has (Word word) e same is = subst (λ e. IsSetText e × (word ∷ [] ≡ set_texts e)) (some_one same) (is, refl)
set_has (Signed digits) e same is = absurd (none_some same)
set_has (Num n) e same is = absurd (none_some same)
set_has (Set s) e same is = subst (λ e. IsSetText e × (set_texts s ≡ set_texts e)) (some_one same) (is, refl)
set_has (Cond c) e same is = absurd (none_some same)

truth_has : (word : List ℕ) (c : CondText) → as_cond (Word word) ≡ Some c → IsCondText c × (word ∷ [] ≡ cond_texts c)
truth_has word c same = elim (some_either (bytes_eq word (codes "true")) same) [
  | inl true_is ↦ subst (λ c. IsCondText c × (word ∷ [] ≡ cond_texts c)) true_is.1 (tt, ap (λ text. text ∷ []) (eq_same true_is.0))
  | inr other ↦
      let false_is = some_where (bytes_eq word (codes "false")) other in
      subst (λ c. IsCondText c × (word ∷ [] ≡ cond_texts c)) false_is.1 (tt, ap (λ text. text ∷ []) (eq_same false_is.0))
]

-- the same as a condition
pub cond_has : (x : Operand) (c : CondText) → as_cond x ≡ Some c → IsOperand x → IsCondText c × (operand_texts x ≡ cond_texts c)
cond_has (Word word) c same is = truth_has word c same
cond_has (Signed digits) c same is = absurd (none_some same)
cond_has (Num n) c same is = absurd (none_some same)
cond_has (Set s) c same is = absurd (none_some same)
cond_has (Cond d) c same is = subst (λ c. IsCondText c × (cond_texts d ≡ cond_texts c)) (some_one same) (is, refl)
