-- The operands that expressions become, and how frames take them.
use Rattle.std.proofs.Common.{◌≡◌, ℕ, true, false, List, [], ◌∷◌, ◌++◌, Some, option_map, bytes_eq, codes, refl, sym, ap, ◌∙◌, append_assoc}
use Rattle.hk_text.specs.Lexemes.{IsWord}
use Rattle.hk_text.specs.Numbers.{IsNumber}
use Rattle.hk_terms.specs.declared.marks.Mark.{Mark}
use Rattle.hk_terms.specs.SetTexts as sets
use Rattle.hk_terms.specs.SetTexts.{SetText, in_parentheses}
use Rattle.hk_terms.specs.NumTexts as nums
use Rattle.hk_terms.specs.NumTexts.{NumText, IsNumText}
use Rattle.hk_terms.specs.CondTexts as conds
use Rattle.hk_terms.specs.CondTexts.{CondText, truth_word}
use Rattle.hk_terms.specs.Operands.{mark_text, Operand, Word, Signed, Num, Set, Cond, AtomThen}
use Rattle.hk_exprs.specs.inside.Machines.{as_num, as_set, as_cond, Frame, Empty, Turned, One, Neg, After, Two, First, Second, Both, place, Content, closed, applied, with_last, received, awaits_mark, Steps, no_step, then_step, step_open, step_close, step_mark, step_atom}
use Rattle.hk_text.proofs.TokenTexts.{differ, same_first, mark_no_word, mark_no_number, suc_text}
use Rattle.hk_exprs.proofs.MachineMarks.{no_mark}
use Rattle.hk_exprs.proofs.MachineSteps.{steps_then}

-- the operand that an expression of a set becomes
abbrev pub set_operand : SetText → Operand
set_operand (sets.Values numbers) = Set (sets.Values numbers)
set_operand sets.One = Set sets.One
set_operand (sets.Named word) = Word word
set_operand (sets.Joined operation a b) = Set (sets.Joined operation a b)

-- the same of a number
abbrev pub num_operand : NumText → Operand
num_operand (nums.Number false digits) = Num (nums.Number false digits)
num_operand (nums.Number true digits) = Signed digits
num_operand (nums.Named word) = Word word
num_operand (nums.Item word) = Num (nums.Item word)
num_operand (nums.Low word) = Num (nums.Low word)
num_operand (nums.High word) = Num (nums.High word)
num_operand (nums.Card set) = Num (nums.Card set)
num_operand (nums.Joined operation a b) = Num (nums.Joined operation a b)
num_operand (nums.Chosen choice a b) = Num (nums.Chosen choice a b)
num_operand (nums.Negative a) = Num (nums.Negative a)

-- the same of a condition
abbrev pub cond_operand : CondText → Operand
cond_operand (conds.Truth holds) = Word (truth_word holds)
cond_operand (conds.Compared comparison a b) = Cond (conds.Compared comparison a b)
cond_operand (conds.Member inside set) = Cond (conds.Member inside set)
cond_operand (conds.Subset a b) = Cond (conds.Subset a b)
cond_operand (conds.Joined both a b) = Cond (conds.Joined both a b)
cond_operand (conds.Not a) = Cond (conds.Not a)

-- that operand is the expression
pub set_operand_is : (e : SetText) → as_set (set_operand e) ≡ Some e
set_operand_is (sets.Values numbers) = refl
set_operand_is sets.One = refl
set_operand_is (sets.Named word) = refl
set_operand_is (sets.Joined operation a b) = refl

pub num_operand_is : (e : NumText) → IsNumText e → as_num (num_operand e) ≡ Some e
num_operand_is (nums.Number false digits) is = refl
num_operand_is (nums.Number true digits) is = rw (suc_text is.1)
num_operand_is (nums.Named word) is = refl
num_operand_is (nums.Item word) is = refl
num_operand_is (nums.Low word) is = refl
num_operand_is (nums.High word) is = refl
num_operand_is (nums.Card set) is = refl
num_operand_is (nums.Joined operation a b) is = refl
num_operand_is (nums.Chosen choice a b) is = refl
num_operand_is (nums.Negative a) is = refl

pub cond_operand_is : (c : CondText) → as_cond (cond_operand c) ≡ Some c
cond_operand_is (conds.Truth true) = refl
cond_operand_is (conds.Truth false) = refl
cond_operand_is (conds.Compared comparison a b) = refl
cond_operand_is (conds.Member inside set) = refl
cond_operand_is (conds.Subset a b) = refl
cond_operand_is (conds.Joined both a b) = refl
cond_operand_is (conds.Not a) = refl

-- a frame that takes any operand, and awaits no mark
pub record Puts (frame : Frame) (put : Operand → Frame) : Type 0 where
  pub waits : awaits_mark frame ≡ false
  pub placed : (x : Operand) → place frame x ≡ Some (put x)
  pub last : (x : Operand) (content : Content) → with_last (put x) content ≡ option_map put (applied x content)

pub puts_empty : Puts Empty One
puts_empty = record { waits = refl; placed = λ x. refl; last = λ x content. refl }

pub puts_turned : Puts Turned Neg
puts_turned = record { waits = refl; placed = λ x. refl; last = λ x content. refl }

pub puts_after : (a : Operand) (mark : Mark) → Puts (After a mark) (Two a mark)
puts_after a mark = record { waits = refl; placed = λ x. refl; last = λ x content. refl }

pub puts_first : Puts First Second
puts_first = record { waits = refl; placed = λ x. refl; last = λ x content. refl }

pub puts_second : (a : Operand) → Puts (Second a) (Both a)
puts_second a = record { waits = refl; placed = λ x. refl; last = λ x content. refl }

-- a word ends before these texts
pub record Ends (rest : List (List ℕ)) : Type 0 where
  pub opening : (more : List (List ℕ)) → rest ≡ codes "[" ∷ more → ⊥
  pub point : (more : List (List ℕ)) → rest ≡ codes "." ∷ more → ⊥

-- before nothing, before another text, before a mark, a word, a number
pub ends_none : Ends []
ends_none = record { opening = λ more same. cc; point = λ more same. cc }

pub ends_at : {rest : List (List ℕ)} (text : List ℕ) → bytes_eq text (codes "[") ≡ false → bytes_eq text (codes ".") ≡ false → Ends (text ∷ rest)
ends_at text opening point = record { opening = λ more same. differ (same_first refl same) opening; point = λ more same. differ (same_first refl same) point }

pub ends_mark : {rest : List (List ℕ)} {text : List ℕ} (mark : Mark) → mark_text mark ≡ text → Ends (text ∷ rest)
ends_mark mark is = record { opening = λ more same. no_mark mark (is ∙ same_first refl same) refl; point = λ more same. no_mark mark (is ∙ same_first refl same) refl }

pub ends_word : {rest : List (List ℕ)} {word : List ℕ} → IsWord word → Ends (word ∷ rest)
ends_word word = record { opening = λ more same. mark_no_word (same_first refl same) refl word; point = λ more same. mark_no_word (same_first refl same) refl word }

pub ends_number : {rest : List (List ℕ)} {digits : List ℕ} {n : ℕ} → IsNumber digits n → Ends (digits ∷ rest)
ends_number number = record { opening = λ more same. mark_no_number (same_first refl same) refl number; point = λ more same. mark_no_number (same_first refl same) refl number }

-- an operand that no parenthesis stands around is taken
pub atom_taken : {frame : Frame} {put : Operand → Frame} {frames : List Frame} {texts rest : List (List ℕ)} {x : Operand} → Puts frame put → AtomThen texts x rest → Steps (frame ∷ frames) texts (put x ∷ frames) rest
atom_taken {x = x} puts atom = then_step (step_atom atom (λ awaits begins. let both : true ≡ false = sym awaits ∙ puts.waits in cc) (puts.placed x)) no_step

split_two : (first second rest : List (List ℕ)) (text : List ℕ) → in_parentheses (first ++ text ∷ second) ++ rest ≡ codes "(" ∷ (first ++ text ∷ (second ++ codes ")" ∷ rest))
split_two first second rest text = ap (λ texts. codes "(" ∷ texts) (simp append_assoc)

-- two operands with a mark between them, in parentheses
pub two_taken : {frame next : Frame} {frames : List Frame} {a b : Operand} {content : Content} (mark : Mark) (first second rest : List (List ℕ)) (text : List ℕ)
    → mark_text mark ≡ text
    → Steps (Empty ∷ frame ∷ frames) (first ++ text ∷ (second ++ codes ")" ∷ rest)) (One a ∷ frame ∷ frames) (text ∷ (second ++ codes ")" ∷ rest))
    → Steps (After a mark ∷ frame ∷ frames) (second ++ codes ")" ∷ rest) (Two a mark b ∷ frame ∷ frames) (codes ")" ∷ rest)
    → closed (Two a mark b) ≡ Some content → received frame content ≡ Some next
    → Steps (frame ∷ frames) (in_parentheses (first ++ text ∷ second) ++ rest) (next ∷ frames) rest
two_taken mark first second rest text is a_steps b_steps shut got =
    then_step (step_open (split_two first second rest text)) (
    steps_then a_steps (then_step (step_mark (ap (λ t. t ∷ (second ++ codes ")" ∷ rest)) (sym is))) (
    steps_then b_steps (then_step (step_close refl shut got) no_step)
    ))
    )
