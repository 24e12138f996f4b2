-- What a frame holds when its parenthesis is closed, and the frame outside after it, have their texts.
use Rattle.std.proofs.Common.{◌≡◌, ℕ, List, [], ◌∷◌, ◌++◌, Option, Some, None, option_map, bytes_eq, codes, refl, sym, ap, ap₂, subst, ◌∙◌, append_assoc, inl, inr}
use Rattle.hk_terms.specs.declared.marks.Mark.{Mark}
use Rattle.hk_terms.specs.declared.marks.Mark.TheVariants.{Union, Common, Without, Plus, Minus, Times, AtMost, Below, AtLeast, Above, Equal, In, NotIn, Sub, And, Or, Comma}
use Rattle.hk_terms.specs.SetTexts.{in_parentheses}
use Rattle.hk_terms.specs.NumTexts as nums
use Rattle.hk_terms.specs.NumTexts.{NumText}
use Rattle.hk_terms.specs.Operands.{mark_text, Operand, Word, Signed, Num, Set, Cond}
use Rattle.hk_exprs.specs.inside.Machines.{as_num, as_set, joined, Frame, Empty, Turned, One, Neg, After, Two, NotOf, First, Second, Both, Content, Value, Single, Couple, couple, closed, applied, with_last, received}
use Rattle.hk_text.proofs.TokenTexts.{eq_same}
use Rattle.hk_exprs.proofs.MachineMarks.{some_one, none_some}
use Rattle.hk_exprs.proofs.FramesTexts.{operand_texts, IsOperand, frame_texts, IsFrame, content_texts, IsContent, some_where, some_either, some_only, some_made, num_has, set_has}
use Rattle.hk_exprs.proofs.FramesTaken.{Has, joined_has, place_has}

-- what stood in parentheses is well written, and has these texts
abbrev pub Holds : List (List ℕ) → Content → Type 0
Holds texts content = IsContent content × (content_texts content ≡ texts)

value_has : (a : Operand) (mark : Mark) (b : Operand) {content : Content} → option_map Value (joined a mark b) ≡ Some content → IsOperand a × IsOperand b → Holds (in_parentheses (operand_texts a ++ mark_text mark ∷ operand_texts b)) content
value_has a mark b same is =
    let made = some_made Value (joined a mark b) same in
    subst (Holds (in_parentheses (operand_texts a ++ mark_text mark ∷ operand_texts b))) made.2 (joined_has a mark b made.1 is.0 is.1)

couple_has : (a b : Operand) {content : Content} → couple (as_num a) (as_num b) ≡ Some content → IsOperand a × IsOperand b → Holds (in_parentheses (operand_texts a ++ codes "," ∷ operand_texts b)) content
couple_has a b {content = content} same is = by (as_num a) (as_num b) refl refl same
  where
    by : (p q : Option NumText) → as_num a ≡ p → as_num b ≡ q → couple p q ≡ Some content → Holds (in_parentheses (operand_texts a ++ codes "," ∷ operand_texts b)) content
    by None q one two same = absurd (none_some same)
    by (Some p) None one two same = absurd (none_some same)
    by (Some p) (Some q) one two same =
        let first = num_has a p one is.0 in
        let second = num_has b q two is.1 in
        subst (Holds (in_parentheses (operand_texts a ++ codes "," ∷ operand_texts b))) (some_one same) ((first.0, second.0), ap₂ (λ xs ys. in_parentheses (xs ++ codes "," ∷ ys)) (sym first.1) (sym second.1))

-- what a closed frame holds has its texts in parentheses
pub closed_has : (frame : Frame) {content : Content} → closed frame ≡ Some content → IsFrame frame → Holds (in_parentheses (frame_texts frame)) content
closed_has Empty same is = absurd (none_some same)
closed_has Turned same is = absurd (none_some same)
closed_has (One (Word word)) same is = subst (Holds (in_parentheses (word ∷ []))) (some_one same) (is, refl)
closed_has (One (Signed digits)) same is = subst (Holds (in_parentheses (codes "-" ∷ digits ∷ []))) (some_one same) (is, refl)
closed_has (One (Num e)) same is = subst (Holds (in_parentheses (operand_texts (Num e)))) (some_one same) (is, refl)
closed_has (One (Set e)) same is = subst (Holds (in_parentheses (operand_texts (Set e)))) (some_one same) (is, refl)
closed_has (One (Cond c)) same is = subst (Holds (in_parentheses (operand_texts (Cond c)))) (some_one same) (is, refl)
closed_has (Neg a) same is =
    let made = some_made (λ e. Value (Num (nums.Negative e))) (as_num a) same in
    let has = num_has a made.0 made.1 is in
    subst (Holds (in_parentheses (codes "-" ∷ operand_texts a))) made.2 (has.0, ap (λ texts. in_parentheses (codes "-" ∷ texts)) (sym has.1))
closed_has (After a mark) same is = absurd (none_some same)
closed_has (Two a Union b) same is = value_has a Union b same is
closed_has (Two a Common b) same is = value_has a Common b same is
closed_has (Two a Without b) same is = value_has a Without b same is
closed_has (Two a Plus b) same is = value_has a Plus b same is
closed_has (Two a Minus b) same is = value_has a Minus b same is
closed_has (Two a Times b) same is = value_has a Times b same is
closed_has (Two a AtMost b) same is = value_has a AtMost b same is
closed_has (Two a Below b) same is = value_has a Below b same is
closed_has (Two a AtLeast b) same is = value_has a AtLeast b same is
closed_has (Two a Above b) same is = value_has a Above b same is
closed_has (Two a Equal b) same is = value_has a Equal b same is
closed_has (Two a In b) same is = value_has a In b same is
closed_has (Two a NotIn b) same is = value_has a NotIn b same is
closed_has (Two a Sub b) same is = value_has a Sub b same is
closed_has (Two a And b) same is = value_has a And b same is
closed_has (Two a Or b) same is = value_has a Or b same is
closed_has (Two a Comma b) same is = couple_has a b same is
closed_has (NotOf c) same is = subst (Holds (in_parentheses (codes "not" ∷ operand_texts (Cond c)))) (some_one same) (is, refl)
closed_has First same is = absurd (none_some same)
closed_has (Second a) same is = absurd (none_some same)
closed_has (Both a b) same is = absurd (none_some same)

-- a word that is applied has its text and those of the parentheses
pub applied_has : (x : Operand) (content : Content) {y : Operand} → applied x content ≡ Some y → IsContent content → Has (operand_texts x ++ content_texts content) y
applied_has (Word word) (Value x) same is = absurd (none_some same)
applied_has (Word word) (Single x) same is =
    let named = some_only (bytes_eq word (codes "card")) same in
    let made = some_made (λ e. Num (nums.Card e)) (as_set x) named.1 in
    let has = set_has x made.0 made.1 is in
    subst (Has (word ∷ in_parentheses (operand_texts x))) made.2 (has.0, ap₂ (λ text texts. text ∷ in_parentheses texts) (sym (eq_same named.0)) (sym has.1))
applied_has (Word word) (Couple a b) same is = elim (some_either (bytes_eq word (codes "min")) same) [
  | inl least ↦ subst (Has (word ∷ content_texts (Couple a b))) least.1 (is, ap (λ text. text ∷ content_texts (Couple a b)) (sym (eq_same least.0)))
  | inr other ↦
      let most = some_where (bytes_eq word (codes "max")) other in
      subst (Has (word ∷ content_texts (Couple a b))) most.1 (is, ap (λ text. text ∷ content_texts (Couple a b)) (sym (eq_same most.0)))
]
applied_has (Signed digits) content same is = absurd (none_some same)
applied_has (Num e) content same is = absurd (none_some same)
applied_has (Set e) content same is = absurd (none_some same)
applied_has (Cond c) content same is = absurd (none_some same)

-- the frame is well written, and has these texts
abbrev pub Frames : List (List ℕ) → Frame → Type 0
Frames texts frame = IsFrame frame × (frame_texts frame ≡ texts)

-- a frame whose last operand is applied has the texts of the parentheses after its own
pub with_last_has : (frame : Frame) (content : Content) {next : Frame} → with_last frame content ≡ Some next → IsFrame frame → IsContent content → Frames (frame_texts frame ++ content_texts content) next
with_last_has Empty content same is holds = absurd (none_some same)
with_last_has Turned content same is holds = absurd (none_some same)
with_last_has (One x) content same is holds =
    let made = some_made One (applied x content) same in
    subst (Frames (operand_texts x ++ content_texts content)) made.2 (applied_has x content made.1 holds)
with_last_has (Neg x) content same is holds =
    let made = some_made Neg (applied x content) same in
    let has = applied_has x content made.1 holds in
    subst (Frames (codes "-" ∷ (operand_texts x ++ content_texts content))) made.2 (has.0, ap (λ texts. codes "-" ∷ texts) has.1)
with_last_has (After a mark) content same is holds = absurd (none_some same)
with_last_has (Two a mark x) content same is holds =
    let made = some_made (Two a mark) (applied x content) same in
    let has = applied_has x content made.1 holds in
    subst (Frames ((operand_texts a ++ mark_text mark ∷ operand_texts x) ++ content_texts content)) made.2 ((is.0, has.0), ap (λ texts. operand_texts a ++ mark_text mark ∷ texts) has.1 ∙ sym (append_assoc (operand_texts a) (mark_text mark ∷ operand_texts x) (content_texts content)))
with_last_has (NotOf c) content same is holds = absurd (none_some same)
with_last_has First content same is holds = absurd (none_some same)
with_last_has (Second x) content same is holds =
    let made = some_made Second (applied x content) same in
    subst (Frames (operand_texts x ++ content_texts content)) made.2 (applied_has x content made.1 holds)
with_last_has (Both a x) content same is holds =
    let made = some_made (Both a) (applied x content) same in
    let has = applied_has x content made.1 holds in
    subst (Frames ((operand_texts a ++ operand_texts x) ++ content_texts content)) made.2 ((is.0, has.0), ap (λ texts. operand_texts a ++ texts) has.1 ∙ sym (append_assoc (operand_texts a) (operand_texts x) (content_texts content)))

-- a frame after parentheses has their texts after its own
pub received_has : (frame : Frame) (content : Content) {next : Frame} → received frame content ≡ Some next → IsFrame frame → IsContent content → Frames (frame_texts frame ++ content_texts content) next
received_has frame (Value x) same is holds = place_has frame x same is holds
received_has frame (Single x) same is holds = with_last_has frame (Single x) same is holds
received_has frame (Couple a b) same is holds = with_last_has frame (Couple a b) same is holds
