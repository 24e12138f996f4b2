-- How the tokens of an expression are taken one by one, with a frame for each open parenthesis. No public contract cites this page: an expression is what its tokens are, and this is one way to find it.
pub use Rattle.hk_terms.specs.Operands.{mark_text, Operand, Word, Signed, Num, Set, Cond, AtomThen, atom_word, atom_item, atom_low, atom_high, atom_number, atom_one, atom_values}
use Rattle.std.specs.Prelude.{◌≡◌, ℕ, Bool, true, false, if◌then◌else◌, List, ◌∷◌, ◌++◌, Option, None, Some, option_map, bytes_eq, codes}
use Rattle.hk_text.specs.Numbers.{IsNumber}
use Rattle.hk_terms.specs.declared.marks.Mark.{Mark}
use Rattle.hk_terms.specs.declared.marks.Mark.TheVariants.{Union, Common, Without, Plus, Minus, Times, AtMost, Below, AtLeast, Above, Equal, In, NotIn, Sub, And, Or, Comma}
use Rattle.hk_terms.specs.SetTexts as sets
use Rattle.hk_terms.specs.SetTexts.{SetText}
use Rattle.hk_terms.specs.NumTexts as nums
use Rattle.hk_terms.specs.NumTexts.{NumText}
use Rattle.hk_terms.specs.CondTexts as conds
use Rattle.hk_terms.specs.CondTexts.{CondText}

-- the operand as a number, as a set, as a condition
abbrev pub as_num : Operand → Option NumText
as_num (Word word) = Some (nums.Named word)
as_num (Signed digits) = if bytes_eq digits (codes "0") then None else Some (nums.Number true digits)
as_num (Num e) = Some e
as_num (Set e) = None
as_num (Cond c) = None

abbrev pub as_set : Operand → Option SetText
as_set (Word word) = Some (sets.Named word)
as_set (Signed digits) = None
as_set (Num e) = None
as_set (Set e) = Some e
as_set (Cond c) = None

abbrev pub as_cond : Operand → Option CondText
as_cond (Word word) = if bytes_eq word (codes "true") then Some (conds.Truth true) else (if bytes_eq word (codes "false") then Some (conds.Truth false) else None)
as_cond (Signed digits) = None
as_cond (Num e) = None
as_cond (Set e) = None
as_cond (Cond c) = Some c

-- two sets, two numbers, two conditions, where both operands are that
abbrev pub both : {X : Type 0} → (X → X → Operand) → Option X → Option X → Option Operand
both make None b = None
both make (Some a) None = None
both make (Some a) (Some b) = Some (make a b)

-- one set, where the first operand is the word `v`
abbrev pub member : Bool → Operand → Option SetText → Option Operand
member inside (Word word) None = None
member inside (Word word) (Some set) = if bytes_eq word (codes "v") then Some (Cond (conds.Member inside set)) else None
member inside (Signed digits) b = None
member inside (Num e) b = None
member inside (Set e) b = None
member inside (Cond c) b = None

-- two operands with a mark between them
abbrev pub joined : Operand → Mark → Operand → Option Operand
joined a Union b = both (λ x y. Set (sets.Joined sets.Union x y)) (as_set a) (as_set b)
joined a Common b = both (λ x y. Set (sets.Joined sets.Common x y)) (as_set a) (as_set b)
joined a Without b = both (λ x y. Set (sets.Joined sets.Without x y)) (as_set a) (as_set b)
joined a Plus b = both (λ x y. Num (nums.Joined nums.Plus x y)) (as_num a) (as_num b)
joined a Minus b = both (λ x y. Num (nums.Joined nums.Minus x y)) (as_num a) (as_num b)
joined a Times b = both (λ x y. Num (nums.Joined nums.Times x y)) (as_num a) (as_num b)
joined a AtMost b = both (λ x y. Cond (conds.Compared conds.AtMost x y)) (as_num a) (as_num b)
joined a Below b = both (λ x y. Cond (conds.Compared conds.Below x y)) (as_num a) (as_num b)
joined a AtLeast b = both (λ x y. Cond (conds.Compared conds.AtLeast x y)) (as_num a) (as_num b)
joined a Above b = both (λ x y. Cond (conds.Compared conds.Above x y)) (as_num a) (as_num b)
joined a Equal b = both (λ x y. Cond (conds.Compared conds.Equal x y)) (as_num a) (as_num b)
joined a In b = member true a (as_set b)
joined a NotIn b = member false a (as_set b)
joined a Sub b = both (λ x y. Cond (conds.Subset x y)) (as_set a) (as_set b)
joined a And b = both (λ x y. Cond (conds.Joined true x y)) (as_cond a) (as_cond b)
joined a Or b = both (λ x y. Cond (conds.Joined false x y)) (as_cond a) (as_cond b)
joined a Comma b = None

-- what was taken since a parenthesis was opened: nothing; `-`; an operand, after `-` or not; an operand and a mark, and one more; `not` and a condition. The last three begin two numbers side by side, which stand in no parentheses
pub data Frame : Type 0 where
  Empty : Frame
  Turned : Frame
  One : (a : Operand) → Frame
  Neg : (a : Operand) → Frame
  After : (a : Operand) (mark : Mark) → Frame
  Two : (a : Operand) (mark : Mark) (b : Operand) → Frame
  NotOf : (c : CondText) → Frame
  First : Frame
  Second : (a : Operand) → Frame
  Both : (a b : Operand) → Frame

-- the frame with one operand more
abbrev pub place : Frame → Operand → Option Frame
place Empty x = Some (One x)
place Turned x = Some (Neg x)
place (One (Word word)) x = if bytes_eq word (codes "not") then option_map NotOf (as_cond x) else None
place (One _) x = None
place (Neg a) x = None
place (After a mark) x = Some (Two a mark x)
place (Two a mark b) x = None
place (NotOf c) x = None
place First x = Some (Second x)
place (Second a) x = Some (Both a x)
place (Both a b) x = None

-- what stood in parentheses: an expression; one operand alone; two numbers with a comma between
pub data Content : Type 0 where
  Value : (x : Operand) → Content
  Single : (x : Operand) → Content
  Couple : (a b : NumText) → Content

-- two numbers with a comma between, where both operands are numbers
abbrev pub couple : Option NumText → Option NumText → Option Content
couple None b = None
couple (Some a) None = None
couple (Some a) (Some b) = Some (Couple a b)

-- what a frame holds when its parenthesis is closed
abbrev pub closed : Frame → Option Content
closed Empty = None
closed Turned = None
closed (One (Signed digits)) = Some (Value (Num (nums.Negative (nums.Number false digits))))
closed (One x) = Some (Single x)
closed (Neg x) = option_map (λ e. Value (Num (nums.Negative e))) (as_num x)
closed (After a mark) = None
closed (Two a Comma b) = couple (as_num a) (as_num b)
closed (Two a mark b) = option_map Value (joined a mark b)
closed (NotOf c) = Some (Value (Cond (conds.Not c)))
closed First = None
closed (Second a) = None
closed (Both a b) = None

-- what a word and the content of parentheses after it are: `card` of a set, the less or the greater of two numbers
abbrev pub applied : Operand → Content → Option Operand
applied (Word word) (Single x) = if bytes_eq word (codes "card") then option_map (λ e. Num (nums.Card e)) (as_set x) else None
applied (Word word) (Couple a b) = if bytes_eq word (codes "min") then Some (Num (nums.Chosen nums.Least a b)) else (if bytes_eq word (codes "max") then Some (Num (nums.Chosen nums.Most a b)) else None)
applied _ _ = None

-- the frame with its last operand applied to the content of parentheses
abbrev pub with_last : Frame → Content → Option Frame
with_last (One x) content = option_map One (applied x content)
with_last (Neg x) content = option_map Neg (applied x content)
with_last (Two a mark x) content = option_map (Two a mark) (applied x content)
with_last (Second x) content = option_map Second (applied x content)
with_last (Both a x) content = option_map (Both a) (applied x content)
with_last _ content = None

-- the frame after parentheses with this content
abbrev pub received : Frame → Content → Option Frame
received frame (Value x) = place frame x
received frame (Single x) = with_last frame (Single x)
received frame (Couple a b) = with_last frame (Couple a b)

-- the frame awaits a mark
abbrev pub awaits_mark : Frame → Bool
awaits_mark (One x) = true
awaits_mark _ = false

-- the texts begin with a mark
abbrev pub BeginsMark : List (List ℕ) → Type 0
BeginsMark texts = (mark : Mark) × (rest : List (List ℕ)) × (texts ≡ mark_text mark ∷ rest)

-- the texts begin with a number
abbrev pub BeginsNumber : List (List ℕ) → Type 0
BeginsNumber texts = (digits : List ℕ) × (n : ℕ) × (rest : List (List ℕ)) × (texts ≡ digits ∷ rest) × IsNumber digits n

-- one step: from frames, the innermost first, and the texts that are left, to frames and the texts that are left then
pub data Step : List Frame → List (List ℕ) → List Frame → List (List ℕ) → Type 0 where
  step_open : {frame : Frame} {frames : List Frame} {texts rest : List (List ℕ)}
      → texts ≡ codes "(" ∷ rest → Step (frame ∷ frames) texts (Empty ∷ frame ∷ frames) rest
  step_close : {frame outer next : Frame} {frames : List Frame} {content : Content} {texts rest : List (List ℕ)}
      → texts ≡ codes ")" ∷ rest → closed frame ≡ Some content → received outer content ≡ Some next
      → Step (frame ∷ outer ∷ frames) texts (next ∷ frames) rest
  step_mark : {a : Operand} {mark : Mark} {frames : List Frame} {texts rest : List (List ℕ)}
      → texts ≡ mark_text mark ∷ rest → Step (One a ∷ frames) texts (After a mark ∷ frames) rest
  step_signed : {frame next : Frame} {frames : List Frame} {digits : List ℕ} {n : ℕ} {texts rest : List (List ℕ)}
      → texts ≡ codes "-" ∷ digits ∷ rest → IsNumber digits n → awaits_mark frame ≡ false → place frame (Signed digits) ≡ Some next
      → Step (frame ∷ frames) texts (next ∷ frames) rest
  step_turned : {frames : List Frame} {texts rest : List (List ℕ)}
      → texts ≡ codes "-" ∷ rest → (BeginsNumber rest → ⊥) → Step (Empty ∷ frames) texts (Turned ∷ frames) rest
  step_atom : {frame next : Frame} {frames : List Frame} {x : Operand} {texts rest : List (List ℕ)}
      → AtomThen texts x rest → ((awaits_mark frame ≡ true) → BeginsMark texts → ⊥) → place frame x ≡ Some next
      → Step (frame ∷ frames) texts (next ∷ frames) rest

-- steps, one after the other
pub data Steps : List Frame → List (List ℕ) → List Frame → List (List ℕ) → Type 0 where
  no_step : {frames : List Frame} {texts : List (List ℕ)} → Steps frames texts frames texts
  then_step : {frames between after : List Frame} {texts more rest : List (List ℕ)}
      → Step frames texts between more → Steps between more after rest → Steps frames texts after rest
