-- What is kept of operands after a word.
use Rattle.std.proofs.Common.{◌≡◌, Bool, true, false, List, ℕ, Option, None, Some, option_map, Result, codes, bytes_eq, if◌then◌else◌, sym, ap, ◌∙◌, subst, refl}
use Rattle.std.specs.Borrow.{Bor}
use Rattle.hk_spec.specs.declared.expressions.Cond.{Cond}
use Rattle.hk_terms.specs.CondTexts as conds
use Rattle.hk_terms.specs.CondTexts.{CondText}
use Rattle.hk_exprs.specs.inside.Machines as machine
use Rattle.hk_exprs.specs.inside.Machines.{as_set, as_cond}
use Rattle.hk_terms.specs.Names.{Names}
use Rattle.hk_terms.specs.NumTexts as nums
use Rattle.hk_terms.specs.NumTexts.{NumText}
use Rattle.hk_terms.specs.SetTexts.{SetText}
use Rattle.hk_exprs.specs.inside.Standing.{BothOrNone, neither, both_there, is_the_word, the_word, IsTextOf, IsKept, IsKeptFrame, IsMadeCond, kept_not}
use Rattle.hk_terms.specs.declared.flaws.Flaw.{Flaw}
use Rattle.hk_exprs.specs.declared.operands.Operand.{Operand}
use Rattle.hk_exprs.specs.declared.operands.Tree.{Tree}
use Rattle.hk_exprs.specs.declared.frames.Frame.TheVariants as frame

-- one option or another, by a test
pub by_true : {A B : Type 0} {stand : A → B → Type 0} {test : Bool} (p q : Option A) {r : Option B} → test ≡ true → BothOrNone stand p r → BothOrNone stand (if test then p else q) r
by_true {stand = stand} p q {r = r} is there = subst (λ (t : Bool). BothOrNone stand (if t then p else q) r) (sym is) there

pub by_false : {A B : Type 0} {stand : A → B → Type 0} {test : Bool} (p q : Option A) {r : Option B} → test ≡ false → BothOrNone stand q r → BothOrNone stand (if test then p else q) r
by_false {stand = stand} p q {r = r} is there = subst (λ (t : Bool). BothOrNone stand (if t then p else q) r) (sym is) there

-- the operand is this word
pub word_there : (x : machine.Operand) {word : Bor (List ℕ)} (text : List ℕ) {test : Bool} → BothOrNone IsTextOf (the_word x) (Some word) → test ≡ bytes_eq word.now text → is_the_word x text ≡ test
word_there (machine.Word w) text (both_there is) same = ap (λ w. bytes_eq w text) is ∙ sym same
word_there (machine.Signed digits) text there same = elim there [ ]
word_there (machine.Num e) text there same = elim there [ ]
word_there (machine.Set e) text there same = elim there [ ]
word_there (machine.Cond c) text there same = elim there [ ]

-- the operand is no word
pub word_none : (x : machine.Operand) (text : List ℕ) → BothOrNone IsTextOf (the_word x) None → is_the_word x text ≡ false
word_none (machine.Word word) text none = elim none [ ]
word_none (machine.Signed digits) text none = refl
word_none (machine.Num e) text none = refl
word_none (machine.Set e) text none = refl
word_none (machine.Cond c) text none = refl

module _ {names : Names} where
  -- what comes before `in` or `notin` is not the word `v`
  pub member_no_value : (inside : Bool) (x : machine.Operand) (set : Option SetText) → is_the_word x (codes "v") ≡ false → BothOrNone (IsKept names) (machine.member inside x set) None
  member_no_value inside (machine.Word word) None is = neither
  member_no_value inside (machine.Word word) (Some set) is = by_false (Some (machine.Cond (conds.Member inside set))) None is neither
  member_no_value inside (machine.Signed digits) set is = neither
  member_no_value inside (machine.Num e) set is = neither
  member_no_value inside (machine.Set e) set is = neither
  member_no_value inside (machine.Cond c) set is = neither

  -- what comes after `in` or `notin` is no set
  pub member_no_set : {B : Type 0} {stand : SetText → B → Type 0} (inside : Bool) (x : machine.Operand) (set : Option SetText) → BothOrNone stand set None → BothOrNone (IsKept names) (machine.member inside x set) None
  member_no_set inside (machine.Word word) set neither = neither
  member_no_set inside (machine.Signed digits) set neither = neither
  member_no_set inside (machine.Num e) set neither = neither
  member_no_set inside (machine.Set e) set neither = neither
  member_no_set inside (machine.Cond c) set neither = neither

  -- the value is in a set, or not
  pub member_made : {B : Type 0} {stand : SetText → B → Type 0} (inside : Bool) (x : machine.Operand) (set : Option SetText) {b : B} {made : Operand} → is_the_word x (codes "v") ≡ true → BothOrNone stand set (Some b)
      → ((text : SetText) → stand text b → IsKept names (machine.Cond (conds.Member inside text)) made) → BothOrNone (IsKept names) (machine.member inside x set) (Some made)
  member_made inside (machine.Word word) set is (both_there {a = text} h) kept = by_true (Some (machine.Cond (conds.Member inside text))) None is (both_there (kept text h))
  member_made inside (machine.Signed digits) set is there kept = cc
  member_made inside (machine.Num e) set is there kept = cc
  member_made inside (machine.Set e) set is there kept = cc
  member_made inside (machine.Cond c) set is there kept = cc

  -- an operand after one that is not the word `not`
  pub place_no_not : (x y : machine.Operand) → is_the_word x (codes "not") ≡ false → BothOrNone (IsKeptFrame names) (machine.place (machine.One x) y) None
  place_no_not (machine.Word word) y is = by_false (option_map machine.NotOf (as_cond y)) None is neither
  place_no_not (machine.Signed digits) y is = neither
  place_no_not (machine.Num e) y is = neither
  place_no_not (machine.Set e) y is = neither
  place_no_not (machine.Cond c) y is = neither

  not_of : {c : Option CondText} {made : Option (Result (Tree Cond) Flaw)} → BothOrNone (IsMadeCond names) c made → BothOrNone (IsKeptFrame names) (option_map machine.NotOf c) (option_map frame.NotOf made)
  not_of neither = neither
  not_of (both_there h) = both_there (kept_not h)

  -- an operand after the word `not`
  pub place_not : (x y : machine.Operand) {made : Option (Result (Tree Cond) Flaw)} → is_the_word x (codes "not") ≡ true → BothOrNone (IsMadeCond names) (as_cond y) made → BothOrNone (IsKeptFrame names) (machine.place (machine.One x) y) (option_map frame.NotOf made)
  place_not (machine.Word word) y is there = by_true (option_map machine.NotOf (as_cond y)) None is (not_of there)
  place_not (machine.Signed digits) y is there = cc
  place_not (machine.Num e) y is there = cc
  place_not (machine.Set e) y is there = cc
  place_not (machine.Cond c) y is there = cc

  -- one operand in parentheses after another word than `card`
  pub card_no_word : (x y : machine.Operand) → is_the_word x (codes "card") ≡ false → BothOrNone (IsKept names) (machine.applied x (machine.Single y)) None
  card_no_word (machine.Word word) y is = by_false (option_map (λ e. machine.Num (nums.Card e)) (as_set y)) None is neither
  card_no_word (machine.Signed digits) y is = neither
  card_no_word (machine.Num e) y is = neither
  card_no_word (machine.Set e) y is = neither
  card_no_word (machine.Cond c) y is = neither

  no_card : {B : Type 0} {stand : SetText → B → Type 0} {set : Option SetText} → BothOrNone stand set None → BothOrNone (IsKept names) (option_map (λ e. machine.Num (nums.Card e)) set) None
  no_card neither = neither

  either_none : {B : Type 0} {stand : SetText → B → Type 0} {set : Option SetText} (test : Bool) → BothOrNone stand set None → BothOrNone (IsKept names) (if test then option_map (λ e. machine.Num (nums.Card e)) set else None) None
  either_none true none = no_card none
  either_none false none = neither

  -- what stands in parentheses after a word is no set
  pub card_no_set : {B : Type 0} {stand : SetText → B → Type 0} (x y : machine.Operand) → BothOrNone stand (as_set y) None → BothOrNone (IsKept names) (machine.applied x (machine.Single y)) None
  card_no_set (machine.Word word) y none = either_none (bytes_eq word (codes "card")) none
  card_no_set (machine.Signed digits) y none = neither
  card_no_set (machine.Num e) y none = neither
  card_no_set (machine.Set e) y none = neither
  card_no_set (machine.Cond c) y none = neither

  one_card : {B : Type 0} {stand : SetText → B → Type 0} {set : Option SetText} {b : B} {made : Operand} → BothOrNone stand set (Some b)
      → ((text : SetText) → stand text b → IsKept names (machine.Num (nums.Card text)) made) → BothOrNone (IsKept names) (option_map (λ e. machine.Num (nums.Card e)) set) (Some made)
  one_card (both_there {a = text} h) kept = both_there (kept text h)

  -- the number of values of a set
  pub card_made : {B : Type 0} {stand : SetText → B → Type 0} (x y : machine.Operand) {b : B} {made : Operand} → is_the_word x (codes "card") ≡ true → BothOrNone stand (as_set y) (Some b)
      → ((text : SetText) → stand text b → IsKept names (machine.Num (nums.Card text)) made) → BothOrNone (IsKept names) (machine.applied x (machine.Single y)) (Some made)
  card_made (machine.Word word) y is there kept = by_true (option_map (λ e. machine.Num (nums.Card e)) (as_set y)) None is (one_card there kept)
  card_made (machine.Signed digits) y is there kept = cc
  card_made (machine.Num e) y is there kept = cc
  card_made (machine.Set e) y is there kept = cc
  card_made (machine.Cond c) y is there kept = cc

  -- two numbers in parentheses after another word than `min` and `max`
  pub choice_none : (x : machine.Operand) (a b : NumText) → is_the_word x (codes "min") ≡ false → is_the_word x (codes "max") ≡ false → BothOrNone (IsKept names) (machine.applied x (machine.Couple a b)) None
  choice_none (machine.Word word) a b is also = by_false (Some (machine.Num (nums.Chosen nums.Least a b))) (if bytes_eq word (codes "max") then Some (machine.Num (nums.Chosen nums.Most a b)) else None) is (by_false (Some (machine.Num (nums.Chosen nums.Most a b))) None also neither)
  choice_none (machine.Signed digits) a b is also = neither
  choice_none (machine.Num e) a b is also = neither
  choice_none (machine.Set e) a b is also = neither
  choice_none (machine.Cond c) a b is also = neither

  -- the less of two numbers
  pub choice_least : (x : machine.Operand) (a b : NumText) {made : Operand} → is_the_word x (codes "min") ≡ true → IsKept names (machine.Num (nums.Chosen nums.Least a b)) made → BothOrNone (IsKept names) (machine.applied x (machine.Couple a b)) (Some made)
  choice_least (machine.Word word) a b is kept = by_true (Some (machine.Num (nums.Chosen nums.Least a b))) (if bytes_eq word (codes "max") then Some (machine.Num (nums.Chosen nums.Most a b)) else None) is (both_there kept)
  choice_least (machine.Signed digits) a b is kept = cc
  choice_least (machine.Num e) a b is kept = cc
  choice_least (machine.Set e) a b is kept = cc
  choice_least (machine.Cond c) a b is kept = cc

  -- the greater of two numbers
  pub choice_most : (x : machine.Operand) (a b : NumText) {made : Operand} → is_the_word x (codes "min") ≡ false → is_the_word x (codes "max") ≡ true → IsKept names (machine.Num (nums.Chosen nums.Most a b)) made → BothOrNone (IsKept names) (machine.applied x (machine.Couple a b)) (Some made)
  choice_most (machine.Word word) a b is also kept = by_false (Some (machine.Num (nums.Chosen nums.Least a b))) (if bytes_eq word (codes "max") then Some (machine.Num (nums.Chosen nums.Most a b)) else None) is (by_true (Some (machine.Num (nums.Chosen nums.Most a b))) None also (both_there kept))
  choice_most (machine.Signed digits) a b is also kept = cc
  choice_most (machine.Num e) a b is also kept = cc
  choice_most (machine.Set e) a b is also kept = cc
  choice_most (machine.Cond c) a b is also kept = cc
