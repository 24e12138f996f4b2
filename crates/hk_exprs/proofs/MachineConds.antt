-- The texts of a condition are taken as one operand, and the texts of each expression are taken whole.
use Rattle.std.proofs.Common.{◌≡◌, ℕ, Bool, true, false, List, [], ◌∷◌, ◌++◌, Some, option_map, codes, refl, ap, subst, append_assoc, append-nil}
use Rattle.hk_text.specs.Lexemes.{IsWord}
use Rattle.hk_terms.specs.declared.marks.Mark.{Mark}
use Rattle.hk_terms.specs.declared.marks.Mark.TheVariants as mark
use Rattle.hk_terms.specs.SetTexts.{SetText, set_texts, IsSetText}
use Rattle.hk_terms.specs.NumTexts.{NumText, num_texts, IsNumText}
use Rattle.hk_terms.specs.CondTexts.{CondText, Comparison, Truth, Compared, Member, Subset, Joined, Not, AtMost, Below, AtLeast, Above, Equal, truth_word, comparison_mark, member_word, joining_word, cond_texts, IsCondText}
use Rattle.hk_terms.specs.Operands.{mark_text, Operand, Word, Cond, atom_word}
use Rattle.hk_exprs.specs.inside.Machines.{as_num, as_set, as_cond, Frame, Empty, One, Two, NotOf, First, Both, place, Value, member, closed, BeginsMark, Steps, no_step, then_step, step_open, step_close, step_atom}
use Rattle.hk_exprs.proofs.MachineMarks.{begins_no_mark}
use Rattle.hk_exprs.proofs.MachineSteps.{steps_then}
use Rattle.hk_exprs.proofs.MachinePlaces.{set_operand, set_operand_is, num_operand, num_operand_is, cond_operand, cond_operand_is, puts_empty, puts_after, puts_first, puts_second, Ends, ends_none, ends_at, ends_mark, atom_taken, two_taken}
use Rattle.hk_exprs.proofs.MachineSets.{both_some, set_taken}
use Rattle.hk_exprs.proofs.MachineNums.{num_taken, num_ends}

-- the mark of a comparison, of `in` and `notin`, of `and` and `or`
abbrev pub comparison_of : Comparison → Mark
comparison_of AtMost = mark.AtMost
comparison_of Below = mark.Below
comparison_of AtLeast = mark.AtLeast
comparison_of Above = mark.Above
comparison_of Equal = mark.Equal

pub comparison_of_text : (comparison : Comparison) → mark_text (comparison_of comparison) ≡ comparison_mark comparison
comparison_of_text AtMost = refl
comparison_of_text Below = refl
comparison_of_text AtLeast = refl
comparison_of_text Above = refl
comparison_of_text Equal = refl

abbrev pub member_of : Bool → Mark
member_of true = mark.In
member_of false = mark.NotIn

pub member_of_text : (inside : Bool) → mark_text (member_of inside) ≡ member_word inside
member_of_text true = refl
member_of_text false = refl

abbrev pub joining_of : Bool → Mark
joining_of true = mark.And
joining_of false = mark.Or

pub joining_of_text : (both : Bool) → mark_text (joining_of both) ≡ joining_word both
joining_of_text true = refl
joining_of_text false = refl

closed_compared : (comparison : Comparison) (a b : NumText) → IsNumText a × IsNumText b → closed (Two (num_operand a) (comparison_of comparison) (num_operand b)) ≡ Some (Value (Cond (Compared comparison a b)))
closed_compared AtMost a b is = ap (option_map Value) (both_some (λ x y. Cond (Compared AtMost x y)) (num_operand_is a is.0) (num_operand_is b is.1))
closed_compared Below a b is = ap (option_map Value) (both_some (λ x y. Cond (Compared Below x y)) (num_operand_is a is.0) (num_operand_is b is.1))
closed_compared AtLeast a b is = ap (option_map Value) (both_some (λ x y. Cond (Compared AtLeast x y)) (num_operand_is a is.0) (num_operand_is b is.1))
closed_compared Above a b is = ap (option_map Value) (both_some (λ x y. Cond (Compared Above x y)) (num_operand_is a is.0) (num_operand_is b is.1))
closed_compared Equal a b is = ap (option_map Value) (both_some (λ x y. Cond (Compared Equal x y)) (num_operand_is a is.0) (num_operand_is b is.1))

closed_member : (inside : Bool) (set : SetText) → closed (Two (Word (codes "v")) (member_of inside) (set_operand set)) ≡ Some (Value (Cond (Member inside set)))
closed_member true set = ap (λ e. option_map Value (member true (Word (codes "v")) e)) (set_operand_is set)
closed_member false set = ap (λ e. option_map Value (member false (Word (codes "v")) e)) (set_operand_is set)

closed_subset : (a b : SetText) → closed (Two (set_operand a) mark.Sub (set_operand b)) ≡ Some (Value (Cond (Subset a b)))
closed_subset a b = ap (option_map Value) (both_some (λ x y. Cond (Subset x y)) (set_operand_is a) (set_operand_is b))

closed_joined : (both : Bool) (a b : CondText) → closed (Two (cond_operand a) (joining_of both) (cond_operand b)) ≡ Some (Value (Cond (Joined both a b)))
closed_joined true a b = ap (option_map Value) (both_some (λ x y. Cond (Joined true x y)) (cond_operand_is a) (cond_operand_is b))
closed_joined false a b = ap (option_map Value) (both_some (λ x y. Cond (Joined false x y)) (cond_operand_is a) (cond_operand_is b))

truth_is : (holds : Bool) → IsWord (truth_word holds)
truth_is true = (refl, refl)
truth_is false = (refl, refl)

truth_no_mark : (holds : Bool) (rest : List (List ℕ)) → BeginsMark (truth_word holds ∷ rest) → ⊥
truth_no_mark true rest begins = begins_no_mark refl refl begins
truth_no_mark false rest begins = begins_no_mark refl refl begins

-- a word ends before a condition
pub cond_ends : (c : CondText) (rest : List (List ℕ)) → Ends (cond_texts c ++ rest)
cond_ends (Truth true) rest = ends_at (codes "true") refl refl
cond_ends (Truth false) rest = ends_at (codes "false") refl refl
cond_ends (Compared comparison a b) rest = ends_at (codes "(") refl refl
cond_ends (Member inside set) rest = ends_at (codes "(") refl refl
cond_ends (Subset a b) rest = ends_at (codes "(") refl refl
cond_ends (Joined both a b) rest = ends_at (codes "(") refl refl
cond_ends (Not a) rest = ends_at (codes "(") refl refl

-- the texts of a condition are taken as its operand, also after `not`
pub cond_taken : (c : CondText) {frame next : Frame} (frames : List Frame) (rest : List (List ℕ)) → IsCondText c → place frame (cond_operand c) ≡ Some next → Ends rest → Steps (frame ∷ frames) (cond_texts c ++ rest) (next ∷ frames) rest
cond_taken (Truth holds) frames rest is placed ends = then_step (step_atom (atom_word refl (truth_is holds) ends.opening ends.point) (λ awaits begins. truth_no_mark holds rest begins) placed) no_step
cond_taken (Compared comparison a b) {frame = frame} frames rest is placed ends =
    two_taken (comparison_of comparison) (num_texts a) (num_texts b) rest (comparison_mark comparison) (comparison_of_text comparison)
    (num_taken a (frame ∷ frames) (comparison_mark comparison ∷ (num_texts b ++ codes ")" ∷ rest)) is.0 puts_empty (ends_mark (comparison_of comparison) (comparison_of_text comparison)))
    (num_taken b (frame ∷ frames) (codes ")" ∷ rest) is.1 (puts_after (num_operand a) (comparison_of comparison)) (ends_at (codes ")") refl refl))
    (closed_compared comparison a b is) placed
cond_taken (Member inside set) {frame = frame} frames rest is placed ends =
    let word : Ends (member_word inside ∷ (set_texts set ++ codes ")" ∷ rest)) = ends_mark (member_of inside) (member_of_text inside) in
    two_taken (member_of inside) (codes "v" ∷ []) (set_texts set) rest (member_word inside) (member_of_text inside)
    (atom_taken puts_empty (atom_word {word = codes "v"} refl (refl, refl) word.opening word.point))
    (set_taken set (frame ∷ frames) (codes ")" ∷ rest) is (puts_after (Word (codes "v")) (member_of inside)) (ends_at (codes ")") refl refl))
    (closed_member inside set) placed
cond_taken (Subset a b) {frame = frame} frames rest is placed ends =
    two_taken mark.Sub (set_texts a) (set_texts b) rest (codes "sub") refl
    (set_taken a (frame ∷ frames) (codes "sub" ∷ (set_texts b ++ codes ")" ∷ rest)) is.0 puts_empty (ends_at (codes "sub") refl refl))
    (set_taken b (frame ∷ frames) (codes ")" ∷ rest) is.1 (puts_after (set_operand a) mark.Sub) (ends_at (codes ")") refl refl))
    (closed_subset a b) placed
cond_taken (Joined both a b) {frame = frame} frames rest is placed ends =
    two_taken (joining_of both) (cond_texts a) (cond_texts b) rest (joining_word both) (joining_of_text both)
    (cond_taken a (frame ∷ frames) (joining_word both ∷ (cond_texts b ++ codes ")" ∷ rest)) is.0 refl (ends_mark (joining_of both) (joining_of_text both)))
    (cond_taken b (frame ∷ frames) (codes ")" ∷ rest) is.1 refl (ends_at (codes ")") refl refl))
    (closed_joined both a b) placed
cond_taken (Not a) {frame = frame} frames rest is placed ends =
    let word = cond_ends a (codes ")" ∷ rest) in
    then_step (step_open (ap (λ texts. codes "(" ∷ codes "not" ∷ texts) (append_assoc (cond_texts a) (codes ")" ∷ []) rest))) (
    steps_then (atom_taken puts_empty (atom_word {word = codes "not"} refl (refl, refl) word.opening word.point)) (
    steps_then (cond_taken a (frame ∷ frames) (codes ")" ∷ rest) is (ap (option_map NotOf) (cond_operand_is a)) (ends_at (codes ")") refl refl)) (
    then_step (step_close refl refl placed) no_step
    )
    )
    )

-- a condition that is well written is found
pub cond_found : (c : CondText) → IsCondText c → (x : Operand) × (as_cond x ≡ Some c) × Steps (Empty ∷ []) (cond_texts c) (One x ∷ []) []
cond_found c is = (cond_operand c, cond_operand_is c, subst (λ texts. Steps (Empty ∷ []) texts (One (cond_operand c) ∷ []) []) (append-nil (cond_texts c)) (cond_taken c [] [] is refl ends_none))

-- the same of a number, and of a set
pub num_found : (e : NumText) → IsNumText e → (x : Operand) × (as_num x ≡ Some e) × Steps (Empty ∷ []) (num_texts e) (One x ∷ []) []
num_found e is = (num_operand e, num_operand_is e is, subst (λ texts. Steps (Empty ∷ []) texts (One (num_operand e) ∷ []) []) (append-nil (num_texts e)) (num_taken e [] [] is puts_empty ends_none))

pub set_found : (e : SetText) → IsSetText e → (x : Operand) × (as_set x ≡ Some e) × Steps (Empty ∷ []) (set_texts e) (One x ∷ []) []
set_found e is = (set_operand e, set_operand_is e, subst (λ texts. Steps (Empty ∷ []) texts (One (set_operand e) ∷ []) []) (append-nil (set_texts e)) (set_taken e [] [] is puts_empty ends_none))

-- two numbers side by side that are well written are found
pub pair_found : (low high : NumText) → IsNumText low → IsNumText high → (a b : Operand) × (as_num a ≡ Some low) × (as_num b ≡ Some high) × Steps (First ∷ []) (num_texts low ++ num_texts high) (Both a b ∷ []) []
pair_found low high low_is high_is =
    let second = num_taken high [] [] high_is (puts_second (num_operand low)) ends_none in
    let whole = steps_then (num_taken low [] (num_texts high ++ []) low_is puts_first (num_ends high [] high_is)) second in
    (num_operand low, num_operand high, num_operand_is low low_is, num_operand_is high high_is, subst (λ texts. Steps (First ∷ []) (num_texts low ++ texts) (Both (num_operand low) (num_operand high) ∷ []) []) (append-nil (num_texts high)) whole)
