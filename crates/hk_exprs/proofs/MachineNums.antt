-- The texts of an expression of a number are taken as one operand.
use Rattle.std.proofs.Common.{◌≡◌, ℕ, true, false, List, [], ◌∷◌, ◌++◌, Some, option_map, codes, refl, ap, ap₂, ◌∙◌, append_assoc}
use Rattle.hk_text.specs.Lexemes.{IsWord}
use Rattle.hk_terms.specs.declared.marks.Mark.{Mark}
use Rattle.hk_terms.specs.declared.marks.Mark.TheVariants as mark
use Rattle.hk_terms.specs.SetTexts.{set_texts, in_parentheses}
use Rattle.hk_terms.specs.NumTexts.{NumText, NumOperation, Choice, Number, Named, Item, Low, High, Card, Joined, Chosen, Negative, Plus, Minus, Times, Least, Most, num_mark, choice_word, num_texts, IsNumText}
use Rattle.hk_terms.specs.Operands.{mark_text, Operand, Word, Signed, Num, atom_word, atom_item, atom_low, atom_high, atom_number}
use Rattle.hk_exprs.specs.inside.Machines.{Frame, Turned, Neg, Two, Value, Single, Couple, couple, closed, applied, BeginsNumber, Steps, no_step, then_step, step_open, step_close, step_signed, step_turned}
use Rattle.hk_text.proofs.TokenTexts.{same_first, mark_no_number}
use Rattle.hk_terms.proofs.MachineAtoms.{word_or_number}
use Rattle.hk_exprs.proofs.MachineSteps.{steps_then}
use Rattle.hk_exprs.proofs.MachinePlaces.{set_operand, set_operand_is, num_operand, num_operand_is, Puts, puts_empty, puts_turned, puts_after, Ends, ends_at, ends_mark, ends_word, ends_number, atom_taken, two_taken}
use Rattle.hk_exprs.proofs.MachineSets.{both_some, set_taken, closed_single}

-- the mark of an operation
abbrev pub num_operation_mark : NumOperation → Mark
num_operation_mark Plus = mark.Plus
num_operation_mark Minus = mark.Minus
num_operation_mark Times = mark.Times

pub num_operation_text : (operation : NumOperation) → mark_text (num_operation_mark operation) ≡ num_mark operation
num_operation_text Plus = refl
num_operation_text Minus = refl
num_operation_text Times = refl

closed_num : (operation : NumOperation) (a b : NumText) → IsNumText a × IsNumText b → closed (Two (num_operand a) (num_operation_mark operation) (num_operand b)) ≡ Some (Value (Num (Joined operation a b)))
closed_num Plus a b is = ap (option_map Value) (both_some (λ x y. Num (Joined Plus x y)) (num_operand_is a is.0) (num_operand_is b is.1))
closed_num Minus a b is = ap (option_map Value) (both_some (λ x y. Num (Joined Minus x y)) (num_operand_is a is.0) (num_operand_is b is.1))
closed_num Times a b is = ap (option_map Value) (both_some (λ x y. Num (Joined Times x y)) (num_operand_is a is.0) (num_operand_is b is.1))

closed_couple : (a b : NumText) → IsNumText a × IsNumText b → closed (Two (num_operand a) mark.Comma (num_operand b)) ≡ Some (Couple a b)
closed_couple a b is = ap₂ couple (num_operand_is a is.0) (num_operand_is b is.1)

choice_is : (choice : Choice) → IsWord (choice_word choice)
choice_is Least = (refl, refl)
choice_is Most = (refl, refl)

choice_applied : (choice : Choice) (a b : NumText) → applied (Word (choice_word choice)) (Couple a b) ≡ Some (Num (Chosen choice a b))
choice_applied Least a b = refl
choice_applied Most a b = refl

negative_by : (a : NumText) {frame : Frame} {put : Operand → Frame} (frames : List Frame) (rest : List (List ℕ)) → IsNumText a → Puts frame put
    → (BeginsNumber (num_texts a ++ codes ")" ∷ rest) → ⊥)
    → Steps (Turned ∷ frame ∷ frames) (num_texts a ++ codes ")" ∷ rest) (Neg (num_operand a) ∷ frame ∷ frames) (codes ")" ∷ rest)
    → Steps (frame ∷ frames) (in_parentheses (codes "-" ∷ num_texts a) ++ rest) (put (Num (Negative a)) ∷ frames) rest
negative_by a frames rest is puts unsigned steps =
    then_step (step_open (ap (λ texts. codes "(" ∷ codes "-" ∷ texts) (append_assoc (num_texts a) (codes ")" ∷ []) rest))) (
    then_step (step_turned refl unsigned) (
    steps_then steps (then_step (step_close refl (ap (option_map (λ e. Value (Num (Negative e)))) (num_operand_is a is)) (puts.placed (Num (Negative a)))) no_step)
    )
    )

-- the negative of a number: where its texts begin with a number, they are that number alone
negative_taken : (a : NumText) {frame : Frame} {put : Operand → Frame} (frames : List Frame) (rest : List (List ℕ)) → IsNumText a → Puts frame put
    → Steps (Turned ∷ frame ∷ frames) (num_texts a ++ codes ")" ∷ rest) (Neg (num_operand a) ∷ frame ∷ frames) (codes ")" ∷ rest)
    → Steps (frame ∷ frames) (in_parentheses (codes "-" ∷ num_texts a) ++ rest) (put (Num (Negative a)) ∷ frames) rest
negative_taken (Number false digits) frames rest is puts steps =
    then_step (step_open refl) (then_step (step_signed refl is.1 refl refl) (then_step (step_close refl refl (puts.placed (Num (Negative (Number false digits))))) no_step))
negative_taken (Number true digits) frames rest is puts steps = negative_by (Number true digits) frames rest is puts (λ begins. mark_no_number (same_first begins.3 refl) refl begins.4) steps
negative_taken (Named word) frames rest is puts steps = negative_by (Named word) frames rest is puts (λ begins. word_or_number refl is begins.3 begins.4) steps
negative_taken (Item word) frames rest is puts steps = negative_by (Item word) frames rest is puts (λ begins. word_or_number refl is begins.3 begins.4) steps
negative_taken (Low word) frames rest is puts steps = negative_by (Low word) frames rest is puts (λ begins. word_or_number refl is begins.3 begins.4) steps
negative_taken (High word) frames rest is puts steps = negative_by (High word) frames rest is puts (λ begins. word_or_number refl is begins.3 begins.4) steps
negative_taken (Card set) frames rest is puts steps = negative_by (Card set) frames rest is puts (λ begins. mark_no_number (same_first begins.3 refl) refl begins.4) steps
negative_taken (Joined operation a b) frames rest is puts steps = negative_by (Joined operation a b) frames rest is puts (λ begins. mark_no_number (same_first begins.3 refl) refl begins.4) steps
negative_taken (Chosen choice a b) frames rest is puts steps = negative_by (Chosen choice a b) frames rest is puts (λ begins. word_or_number refl (choice_is choice) begins.3 begins.4) steps
negative_taken (Negative a) frames rest is puts steps = negative_by (Negative a) frames rest is puts (λ begins. mark_no_number (same_first begins.3 refl) refl begins.4) steps

-- the texts of a number are taken as its operand
pub num_taken : (e : NumText) {frame : Frame} {put : Operand → Frame} (frames : List Frame) (rest : List (List ℕ)) → IsNumText e → Puts frame put → Ends rest → Steps (frame ∷ frames) (num_texts e ++ rest) (put (num_operand e) ∷ frames) rest
num_taken (Number false digits) frames rest is puts ends = atom_taken puts (atom_number refl is.1)
num_taken (Number true digits) frames rest is puts ends = then_step (step_signed refl is.1 puts.waits (puts.placed (Signed digits))) no_step
num_taken (Named word) frames rest is puts ends = atom_taken puts (atom_word refl is ends.opening ends.point)
num_taken (Item word) frames rest is puts ends = atom_taken puts (atom_item refl is)
num_taken (Low word) frames rest is puts ends = atom_taken puts (atom_low refl is)
num_taken (High word) frames rest is puts ends = atom_taken puts (atom_high refl is)
num_taken (Card set) {frame = frame} {put = put} frames rest is puts ends =
    let opens : Ends (codes "(" ∷ ((set_texts set ++ codes ")" ∷ []) ++ rest)) = ends_at (codes "(") refl refl in
    steps_then (atom_taken puts (atom_word {word = codes "card"} refl (refl, refl) opens.opening opens.point)) (
    then_step (step_open (ap (λ texts. codes "(" ∷ texts) (append_assoc (set_texts set) (codes ")" ∷ []) rest))) (
    steps_then (set_taken set (put (Word (codes "card")) ∷ frames) (codes ")" ∷ rest) is puts_empty (ends_at (codes ")") refl refl)) (
    then_step (step_close refl (closed_single set) (puts.last (Word (codes "card")) (Single (set_operand set)) ∙ ap (λ e. option_map put (option_map (λ e. Num (Card e)) e)) (set_operand_is set))) no_step
    )
    )
    )
num_taken (Joined operation a b) {frame = frame} frames rest is puts ends =
    two_taken (num_operation_mark operation) (num_texts a) (num_texts b) rest (num_mark operation) (num_operation_text operation)
    (num_taken a (frame ∷ frames) (num_mark operation ∷ (num_texts b ++ codes ")" ∷ rest)) is.0 puts_empty (ends_mark (num_operation_mark operation) (num_operation_text operation)))
    (num_taken b (frame ∷ frames) (codes ")" ∷ rest) is.1 (puts_after (num_operand a) (num_operation_mark operation)) (ends_at (codes ")") refl refl))
    (closed_num operation a b is) (puts.placed (Num (Joined operation a b)))
num_taken (Chosen choice a b) {frame = frame} {put = put} frames rest is puts ends =
    let opens : Ends (in_parentheses (num_texts a ++ codes "," ∷ num_texts b) ++ rest) = ends_at (codes "(") refl refl in
    steps_then (atom_taken puts (atom_word refl (choice_is choice) opens.opening opens.point)) (
    two_taken mark.Comma (num_texts a) (num_texts b) rest (codes ",") refl
    (num_taken a (put (Word (choice_word choice)) ∷ frames) (codes "," ∷ (num_texts b ++ codes ")" ∷ rest)) is.0 puts_empty (ends_at (codes ",") refl refl))
    (num_taken b (put (Word (choice_word choice)) ∷ frames) (codes ")" ∷ rest) is.1 (puts_after (num_operand a) mark.Comma) (ends_at (codes ")") refl refl))
    (closed_couple a b is) (puts.last (Word (choice_word choice)) (Couple a b) ∙ ap (option_map put) (choice_applied choice a b))
    )
num_taken (Negative a) {frame = frame} frames rest is puts ends = negative_taken a frames rest is puts (num_taken a (frame ∷ frames) (codes ")" ∷ rest) is puts_turned (ends_at (codes ")") refl refl))

-- a word ends before an expression of a number
pub num_ends : (e : NumText) (rest : List (List ℕ)) → IsNumText e → Ends (num_texts e ++ rest)
num_ends (Number false digits) rest is = ends_number is.1
num_ends (Number true digits) rest is = ends_at (codes "-") refl refl
num_ends (Named word) rest is = ends_word is
num_ends (Item word) rest is = ends_word is
num_ends (Low word) rest is = ends_word is
num_ends (High word) rest is = ends_word is
num_ends (Card set) rest is = ends_at (codes "card") refl refl
num_ends (Joined operation a b) rest is = ends_at (codes "(") refl refl
num_ends (Chosen choice a b) rest is = ends_word (choice_is choice)
num_ends (Negative a) rest is = ends_at (codes "(") refl refl
