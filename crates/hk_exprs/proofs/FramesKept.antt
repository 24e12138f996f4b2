-- What is kept of frames with an operand or a content more, and of what they hold at their end.
use Rattle.std.proofs.Common.{◌≡◌, ℕ, List, Option, None, Some, option_map, Result, Ok, Err, IfOk, refl, sym, subst}
use Rattle.std.specs.Borrow.{Bor}
use Rattle.hk_exprs.specs.inside.Machines as machine
use Rattle.hk_terms.specs.Names.{Names}
use Rattle.hk_exprs.specs.inside.Standing.{BothOrNone, neither, both_there, IsKept, IsKeptContent, IsKeptFrame, kept_word, kept_signed, kept_num, kept_set, kept_cond, kept_value, kept_single, kept_couple}
use Rattle.hk_exprs.specs.declared.frames.Content.{Content}
use Rattle.hk_exprs.specs.declared.frames.Content.TheVariants as content
use Rattle.hk_exprs.specs.declared.frames.Frame.{Frame}
use Rattle.hk_terms.specs.declared.marks.Mark.{Mark}
use Rattle.hk_terms.specs.declared.marks.Mark.TheVariants.{Union, Common, Without, Plus, Minus, Times, AtMost, Below, AtLeast, Above, Equal, In, NotIn, Sub, And, Or, Comma}
use Rattle.hk_exprs.specs.declared.operands.Operand.{Operand}
use Rattle.hk_exprs.specs.declared.operands.Operand.TheVariants as operand

-- what holds of what is there, by what is known of it
pub ok_then : {A E : Type 0} {P Q : A → Type 0} (r : Result A E) → ((v : A) → P v → Q v) → IfOk r P → IfOk r Q
ok_then (Ok v) more is = more v is
ok_then (Err e) more is = tt

module _ {A B : Type 0} {stand : A → B → Type 0} where
  -- neither is there, by another name
  pub instead : {p : Option A} {r : Option B} → r ≡ None → BothOrNone stand p None → BothOrNone stand p r
  instead {p = p} same none = subst (BothOrNone stand p) (sym same) none

  -- what is made of what is there
  pub mapped : {C D : Type 0} {stands : C → D → Type 0} (make : A → C) {p : Option A} {r : B} {d : D} → BothOrNone stand p (Some r)
      → ((a : A) → stand a r → stands (make a) d) → BothOrNone stands (option_map make p) (Some d)
  mapped make (both_there {a = x} h) is = both_there (is x h)

  -- nothing is made of nothing
  pub mapped_none : {C D : Type 0} {stands : C → D → Type 0} (make : A → C) {p : Option A} → BothOrNone stand p None → BothOrNone stands (option_map make p) None
  mapped_none make neither = neither

module _ {names : Names} where
  -- one operand alone, which is not `-` and digits
  pub one_alone : {a : Operand} → ((digits : Bor (List ℕ)) → a ≡ operand.Signed digits → ⊥) → (x : machine.Operand) → IsKept names x a → BothOrNone (IsKeptContent names) (machine.closed (machine.One x)) (Some (content.Single a))
  one_alone not x kept_word = both_there (kept_single kept_word)
  one_alone not x (kept_signed {digits = digits} number) = absurd (not digits refl)
  one_alone not x (kept_num made) = both_there (kept_single (kept_num made))
  one_alone not x (kept_set made) = both_there (kept_single (kept_set made))
  one_alone not x (kept_cond made) = both_there (kept_single (kept_cond made))

  -- two operands in parentheses with another mark than a comma between
  pub two_joined : (mark : Mark) → (mark ≡ Comma → ⊥) → (x y : machine.Operand) {r : Option Content} → BothOrNone (IsKeptContent names) (option_map machine.Value (machine.joined x mark y)) r → BothOrNone (IsKeptContent names) (machine.closed (machine.Two x mark y)) r
  two_joined Union not x y is = is
  two_joined Common not x y is = is
  two_joined Without not x y is = is
  two_joined Plus not x y is = is
  two_joined Minus not x y is = is
  two_joined Times not x y is = is
  two_joined AtMost not x y is = is
  two_joined Below not x y is = is
  two_joined AtLeast not x y is = is
  two_joined Above not x y is = is
  two_joined Equal not x y is = is
  two_joined In not x y is = is
  two_joined NotIn not x y is = is
  two_joined Sub not x y is = is
  two_joined And not x y is = is
  two_joined Or not x y is = is
  two_joined Comma not x y is = absurd (not refl)

  -- nothing is made of a word and an expression in parentheses
  pub value_applied : (x y : machine.Operand) → BothOrNone (IsKept names) (machine.applied x (machine.Value y)) None
  value_applied (machine.Word word) y = neither
  value_applied (machine.Signed digits) y = neither
  value_applied (machine.Num e) y = neither
  value_applied (machine.Set e) y = neither
  value_applied (machine.Cond c) y = neither

  -- parentheses that hold no expression
  pub last_received : {held : Content} → ((x : Operand) → held ≡ content.Value x → ⊥) → (f : machine.Frame) (k : machine.Content) {r : Option Frame} → IsKeptContent names k held
      → BothOrNone (IsKeptFrame names) (machine.with_last f k) r → BothOrNone (IsKeptFrame names) (machine.received f k) r
  last_received not f k (kept_value {a = a} kept) is = absurd (not a refl)
  last_received not f k (kept_single kept) is = is
  last_received not f k (kept_couple made more) is = is
