-- What a frame becomes with an operand more, and what it holds when its parenthesis is closed, has their texts.
use Rattle.std.proofs.Common.{◌≡◌, ℕ, Bool, true, false, List, [], ◌∷◌, ◌++◌, Option, Some, None, bytes_eq, codes, refl, sym, ap₂, subst, ◌∙◌, append_assoc}
use Rattle.hk_terms.specs.declared.marks.Mark.{Mark}
use Rattle.hk_terms.specs.declared.marks.Mark.TheVariants.{Union, Common, Without, Plus, Minus, Times, AtMost, Below, AtLeast, Above, Equal, In, NotIn, Sub, And, Or, Comma}
use Rattle.hk_terms.specs.SetTexts as sets
use Rattle.hk_terms.specs.SetTexts.{SetText, set_texts, in_parentheses, IsSetText}
use Rattle.hk_terms.specs.NumTexts as nums
use Rattle.hk_terms.specs.NumTexts.{NumText, num_texts, IsNumText}
use Rattle.hk_terms.specs.CondTexts as conds
use Rattle.hk_terms.specs.CondTexts.{CondText, member_word, cond_texts, IsCondText}
use Rattle.hk_terms.specs.Operands.{mark_text, Operand, Word, Signed, Num, Set, Cond}
use Rattle.hk_exprs.specs.inside.Machines.{as_num, as_set, as_cond, both, member, joined, Frame, Empty, Turned, One, Neg, After, Two, NotOf, First, Second, Both, place}
use Rattle.hk_text.proofs.TokenTexts.{eq_same}
use Rattle.hk_exprs.proofs.MachineMarks.{some_one, none_some}
use Rattle.hk_exprs.proofs.FramesTexts.{operand_texts, IsOperand, frame_texts, IsFrame, some_where, some_only, some_made, num_has, set_has, cond_has}

-- both values are there
both_there : {X : Type 0} (make : X → X → Operand) (p q : Option X) {x : Operand} → both make p q ≡ Some x → (a b : X) × (p ≡ Some a) × (q ≡ Some b) × (make a b ≡ x)
both_there make None q same = absurd (none_some same)
both_there make (Some a) None same = absurd (none_some same)
both_there make (Some a) (Some b) same = (a, b, refl, refl, some_one same)

-- the operand is well written, and has these texts
abbrev pub Has : List (List ℕ) → Operand → Type 0
Has texts x = IsOperand x × (operand_texts x ≡ texts)

both_sets : (make : SetText → SetText → Operand) (mark : List ℕ) → ((p q : SetText) → IsSetText p → IsSetText q → Has (in_parentheses (set_texts p ++ mark ∷ set_texts q)) (make p q)) → (a b : Operand) {x : Operand} → both make (as_set a) (as_set b) ≡ Some x → IsOperand a → IsOperand b → Has (in_parentheses (operand_texts a ++ mark ∷ operand_texts b)) x
both_sets make mark made a b same a_is b_is =
    let there = both_there make (as_set a) (as_set b) same in
    let first = set_has a there.0 there.2 a_is in
    let second = set_has b there.1 there.3 b_is in
    let whole = made there.0 there.1 first.0 second.0 in
    subst (Has (in_parentheses (operand_texts a ++ mark ∷ operand_texts b))) there.4 (whole.0, whole.1 ∙ ap₂ (λ xs ys. in_parentheses (xs ++ mark ∷ ys)) (sym first.1) (sym second.1))

both_nums : (make : NumText → NumText → Operand) (mark : List ℕ) → ((p q : NumText) → IsNumText p → IsNumText q → Has (in_parentheses (num_texts p ++ mark ∷ num_texts q)) (make p q)) → (a b : Operand) {x : Operand} → both make (as_num a) (as_num b) ≡ Some x → IsOperand a → IsOperand b → Has (in_parentheses (operand_texts a ++ mark ∷ operand_texts b)) x
both_nums make mark made a b same a_is b_is =
    let there = both_there make (as_num a) (as_num b) same in
    let first = num_has a there.0 there.2 a_is in
    let second = num_has b there.1 there.3 b_is in
    let whole = made there.0 there.1 first.0 second.0 in
    subst (Has (in_parentheses (operand_texts a ++ mark ∷ operand_texts b))) there.4 (whole.0, whole.1 ∙ ap₂ (λ xs ys. in_parentheses (xs ++ mark ∷ ys)) (sym first.1) (sym second.1))

both_conds : (make : CondText → CondText → Operand) (mark : List ℕ) → ((p q : CondText) → IsCondText p → IsCondText q → Has (in_parentheses (cond_texts p ++ mark ∷ cond_texts q)) (make p q)) → (a b : Operand) {x : Operand} → both make (as_cond a) (as_cond b) ≡ Some x → IsOperand a → IsOperand b → Has (in_parentheses (operand_texts a ++ mark ∷ operand_texts b)) x
both_conds make mark made a b same a_is b_is =
    let there = both_there make (as_cond a) (as_cond b) same in
    let first = cond_has a there.0 there.2 a_is in
    let second = cond_has b there.1 there.3 b_is in
    let whole = made there.0 there.1 first.0 second.0 in
    subst (Has (in_parentheses (operand_texts a ++ mark ∷ operand_texts b))) there.4 (whole.0, whole.1 ∙ ap₂ (λ xs ys. in_parentheses (xs ++ mark ∷ ys)) (sym first.1) (sym second.1))

member_has : (inside : Bool) (a b : Operand) {x : Operand} → member inside a (as_set b) ≡ Some x → IsOperand b → Has (in_parentheses (operand_texts a ++ member_word inside ∷ operand_texts b)) x
member_has inside (Word word) b {x = x} same b_is = by (as_set b) refl same
  where
    by : (from : Option SetText) → as_set b ≡ from → member inside (Word word) from ≡ Some x → Has (in_parentheses (word ∷ member_word inside ∷ operand_texts b)) x
    by None from same = absurd (none_some same)
    by (Some set) from same =
        let made = some_where (bytes_eq word (codes "v")) same in
        let has = set_has b set from b_is in
        subst (Has (in_parentheses (word ∷ member_word inside ∷ operand_texts b))) made.1 (has.0, ap₂ (λ text ys. in_parentheses (text ∷ member_word inside ∷ ys)) (sym (eq_same made.0)) (sym has.1))
member_has inside (Signed digits) b same b_is = absurd (none_some same)
member_has inside (Num e) b same b_is = absurd (none_some same)
member_has inside (Set e) b same b_is = absurd (none_some same)
member_has inside (Cond c) b same b_is = absurd (none_some same)

-- two operands with a mark between them have their texts in parentheses
pub joined_has : (a : Operand) (mark : Mark) (b : Operand) {x : Operand} → joined a mark b ≡ Some x → IsOperand a → IsOperand b → Has (in_parentheses (operand_texts a ++ mark_text mark ∷ operand_texts b)) x
joined_has a Union b same a_is b_is = both_sets (λ x y. Set (sets.Joined sets.Union x y)) (mark_text Union) (λ p q p_is q_is. ((p_is, q_is), refl)) a b same a_is b_is
joined_has a Common b same a_is b_is = both_sets (λ x y. Set (sets.Joined sets.Common x y)) (mark_text Common) (λ p q p_is q_is. ((p_is, q_is), refl)) a b same a_is b_is
joined_has a Without b same a_is b_is = both_sets (λ x y. Set (sets.Joined sets.Without x y)) (mark_text Without) (λ p q p_is q_is. ((p_is, q_is), refl)) a b same a_is b_is
joined_has a Plus b same a_is b_is = both_nums (λ x y. Num (nums.Joined nums.Plus x y)) (mark_text Plus) (λ p q p_is q_is. ((p_is, q_is), refl)) a b same a_is b_is
joined_has a Minus b same a_is b_is = both_nums (λ x y. Num (nums.Joined nums.Minus x y)) (mark_text Minus) (λ p q p_is q_is. ((p_is, q_is), refl)) a b same a_is b_is
joined_has a Times b same a_is b_is = both_nums (λ x y. Num (nums.Joined nums.Times x y)) (mark_text Times) (λ p q p_is q_is. ((p_is, q_is), refl)) a b same a_is b_is
joined_has a AtMost b same a_is b_is = both_nums (λ x y. Cond (conds.Compared conds.AtMost x y)) (mark_text AtMost) (λ p q p_is q_is. ((p_is, q_is), refl)) a b same a_is b_is
joined_has a Below b same a_is b_is = both_nums (λ x y. Cond (conds.Compared conds.Below x y)) (mark_text Below) (λ p q p_is q_is. ((p_is, q_is), refl)) a b same a_is b_is
joined_has a AtLeast b same a_is b_is = both_nums (λ x y. Cond (conds.Compared conds.AtLeast x y)) (mark_text AtLeast) (λ p q p_is q_is. ((p_is, q_is), refl)) a b same a_is b_is
joined_has a Above b same a_is b_is = both_nums (λ x y. Cond (conds.Compared conds.Above x y)) (mark_text Above) (λ p q p_is q_is. ((p_is, q_is), refl)) a b same a_is b_is
joined_has a Equal b same a_is b_is = both_nums (λ x y. Cond (conds.Compared conds.Equal x y)) (mark_text Equal) (λ p q p_is q_is. ((p_is, q_is), refl)) a b same a_is b_is
joined_has a In b same a_is b_is = member_has true a b same b_is
joined_has a NotIn b same a_is b_is = member_has false a b same b_is
joined_has a Sub b same a_is b_is = both_sets (λ x y. Cond (conds.Subset x y)) (mark_text Sub) (λ p q p_is q_is. ((p_is, q_is), refl)) a b same a_is b_is
joined_has a And b same a_is b_is = both_conds (λ x y. Cond (conds.Joined true x y)) (mark_text And) (λ p q p_is q_is. ((p_is, q_is), refl)) a b same a_is b_is
joined_has a Or b same a_is b_is = both_conds (λ x y. Cond (conds.Joined false x y)) (mark_text Or) (λ p q p_is q_is. ((p_is, q_is), refl)) a b same a_is b_is
joined_has a Comma b same a_is b_is = absurd (none_some same)

-- a frame with an operand more has the texts of both
pub place_has : (frame : Frame) (x : Operand) {next : Frame} → place frame x ≡ Some next → IsFrame frame → IsOperand x → IsFrame next × (frame_texts next ≡ frame_texts frame ++ operand_texts x)
place_has Empty x same is x_is = subst (λ next. IsFrame next × (frame_texts next ≡ operand_texts x)) (some_one same) (x_is, refl)
place_has Turned x same is x_is = subst (λ next. IsFrame next × (frame_texts next ≡ codes "-" ∷ operand_texts x)) (some_one same) (x_is, refl)
place_has (One (Word word)) x same is x_is =
    let named = some_only (bytes_eq word (codes "not")) same in
    let made = some_made NotOf (as_cond x) named.1 in
    let has = cond_has x made.0 made.1 x_is in
    subst (λ next. IsFrame next × (frame_texts next ≡ word ∷ operand_texts x)) made.2 (has.0, ap₂ (λ text texts. text ∷ texts) (sym (eq_same named.0)) (sym has.1))
place_has (One (Signed digits)) x same is x_is = absurd (none_some same)
place_has (One (Num e)) x same is x_is = absurd (none_some same)
place_has (One (Set e)) x same is x_is = absurd (none_some same)
place_has (One (Cond c)) x same is x_is = absurd (none_some same)
place_has (Neg a) x same is x_is = absurd (none_some same)
place_has (After a mark) x same is x_is = subst (λ next. IsFrame next × (frame_texts next ≡ (operand_texts a ++ mark_text mark ∷ []) ++ operand_texts x)) (some_one same) ((is, x_is), sym (append_assoc (operand_texts a) (mark_text mark ∷ []) (operand_texts x)))
place_has (Two a mark b) x same is x_is = absurd (none_some same)
place_has (NotOf c) x same is x_is = absurd (none_some same)
place_has First x same is x_is = subst (λ next. IsFrame next × (frame_texts next ≡ operand_texts x)) (some_one same) (x_is, refl)
place_has (Second a) x same is x_is = subst (λ next. IsFrame next × (frame_texts next ≡ operand_texts a ++ operand_texts x)) (some_one same) ((is, x_is), refl)
place_has (Both a b) x same is x_is = absurd (none_some same)
