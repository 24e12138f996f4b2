-- The texts of an expression of a set are taken as one operand.
use Rattle.std.proofs.Common.{◌≡◌, ℕ, List, [], ◌∷◌, ◌++◌, Option, Some, option_map, codes, refl, ap, ap₂, append_assoc}
use Rattle.hk_terms.specs.declared.marks.Mark.{Mark}
use Rattle.hk_terms.specs.declared.marks.Mark.TheVariants as mark
use Rattle.hk_terms.specs.SetTexts.{SetText, SetOperation, Values, One, Named, Joined, Union, Common, Without, set_mark, listed, set_texts, IsSetText}
use Rattle.hk_terms.specs.Operands.{mark_text, Operand, Set, atom_word, atom_one, atom_values}
use Rattle.hk_exprs.specs.inside.Machines.{both, Frame, Two, Value, Single, closed, Steps}
use Rattle.hk_exprs.specs.inside.Machines as machine
use Rattle.hk_exprs.proofs.MachinePlaces.{set_operand, set_operand_is, Puts, puts_empty, puts_after, Ends, ends_at, ends_mark, atom_taken, two_taken}

-- the mark of an operation
abbrev pub set_operation_mark : SetOperation → Mark
set_operation_mark Union = mark.Union
set_operation_mark Common = mark.Common
set_operation_mark Without = mark.Without

pub set_operation_text : (operation : SetOperation) → mark_text (set_operation_mark operation) ≡ set_mark operation
set_operation_text Union = refl
set_operation_text Common = refl
set_operation_text Without = refl

-- two values that are there
pub both_some : {X : Type 0} (make : X → X → Operand) {p q : Option X} {a b : X} → p ≡ Some a → q ≡ Some b → both make p q ≡ Some (make a b)
both_some make one two = ap₂ (both make) one two

closed_set : (operation : SetOperation) (a b : SetText) → closed (Two (set_operand a) (set_operation_mark operation) (set_operand b)) ≡ Some (Value (Set (Joined operation a b)))
closed_set Union a b = ap (option_map Value) (both_some (λ x y. Set (Joined Union x y)) (set_operand_is a) (set_operand_is b))
closed_set Common a b = ap (option_map Value) (both_some (λ x y. Set (Joined Common x y)) (set_operand_is a) (set_operand_is b))
closed_set Without a b = ap (option_map Value) (both_some (λ x y. Set (Joined Without x y)) (set_operand_is a) (set_operand_is b))

-- the texts of a set are taken as its operand
pub set_taken : (e : SetText) {frame : Frame} {put : Operand → Frame} (frames : List Frame) (rest : List (List ℕ)) → IsSetText e → Puts frame put → Ends rest → Steps (frame ∷ frames) (set_texts e ++ rest) (put (set_operand e) ∷ frames) rest
set_taken (Values numbers) frames rest is puts ends = atom_taken puts (atom_values (ap (λ texts. codes "{" ∷ texts) (append_assoc (listed numbers) (codes "}" ∷ []) rest)) is)
set_taken One frames rest is puts ends = atom_taken puts (atom_one refl)
set_taken (Named word) frames rest is puts ends = atom_taken puts (atom_word refl is ends.opening ends.point)
set_taken (Joined operation a b) {frame = frame} frames rest is puts ends =
    two_taken (set_operation_mark operation) (set_texts a) (set_texts b) rest (set_mark operation) (set_operation_text operation)
    (set_taken a (frame ∷ frames) (set_mark operation ∷ (set_texts b ++ codes ")" ∷ rest)) is.0 puts_empty (ends_mark (set_operation_mark operation) (set_operation_text operation)))
    (set_taken b (frame ∷ frames) (codes ")" ∷ rest) is.1 (puts_after (set_operand a) (set_operation_mark operation)) (ends_at (codes ")") refl refl))
    (closed_set operation a b) (puts.placed (Set (Joined operation a b)))

-- a set alone in parentheses
pub closed_single : (e : SetText) → closed (machine.One (set_operand e)) ≡ Some (Single (set_operand e))
closed_single (Values numbers) = refl
closed_single One = refl
closed_single (Named word) = refl
closed_single (Joined operation a b) = refl
