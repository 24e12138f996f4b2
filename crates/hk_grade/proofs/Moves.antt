-- How a value moves in a sense.
use Rattle.std.proofs.Common.{◌≡◌, None, sym, subst}
use Rattle.hk_spec.specs.Grades.{turned, combined, fixed_or_mixed, unless_rises, unless_falls}
use Rattle.hk_spec.specs.declared.senses.Sense.{Sense}
use Rattle.hk_spec.specs.declared.senses.Sense.TheVariants.{Fixed, Rises, Falls, Mixed}

-- the first value gives way to the second in a sense, where a relation says which value is less than which
pub data Moves {A : Type 0} (R : A → A → Type 0) : Sense → A → A → Type 0 where
  stays : {x : A} → Moves R Fixed x x
  rises : {x y : A} → R x y → Moves R Rises x y
  falls : {x y : A} → R y x → Moves R Falls x y
  mixed : {x y : A} → Moves R Mixed x y

-- by the relation the other way round a value moves in the turned sense
pub turned_moves : {A : Type 0} {R : A → A → Type 0} {sense : Sense} {x y : A} → Moves R sense x y → Moves (λ a b. R b a) (turned sense) x y
turned_moves stays = stays
turned_moves (rises h) = falls h
turned_moves (falls h) = rises h
turned_moves mixed = mixed

-- a value that stays moves in each sense
pub itself_moves : {A : Type 0} (R : A → A → Type 0) → ((x : A) → R x x) → (sense : Sense) (x : A) → Moves R sense x x
itself_moves R itself Fixed x = stays
itself_moves R itself Rises x = rises (itself x)
itself_moves R itself Falls x = falls (itself x)
itself_moves R itself Mixed x = mixed

-- where only Fixed and Rises are allowed a value gets no less, and where only Fixed and Falls are it gets no greater
pub may_rise : {A : Type 0} {R : A → A → Type 0} {sense : Sense} {x y : A} → ((x : A) → R x x) → unless_rises sense ≡ None → Moves R sense x y → R x y
may_rise itself allowed (stays {x = x}) = itself x
may_rise itself allowed (rises h) = h
may_rise itself allowed (falls h) = absurd (cc)
may_rise itself allowed mixed = absurd (cc)

pub may_fall : {A : Type 0} {R : A → A → Type 0} {sense : Sense} {x y : A} → ((x : A) → R x x) → unless_falls sense ≡ None → Moves R sense x y → R y x
may_fall itself allowed (stays {x = x}) = itself x
may_fall itself allowed (rises h) = absurd (cc)
may_fall itself allowed (falls h) = h
may_fall itself allowed mixed = absurd (cc)

-- an operation of one value that keeps the relation moves in the value's sense
pub one_moves : {A B : Type 0} {R : A → A → Type 0} (S : B → B → Type 0) (f : A → B) → ((x y : A) → R x y → S (f x) (f y)) → {sense : Sense} {x y : A} → Moves R sense x y → Moves S sense (f x) (f y)
one_moves S f keeps stays = stays
one_moves S f keeps (rises {x = x} {y = y} h) = rises (keeps x y h)
one_moves S f keeps (falls {x = x} {y = y} h) = falls (keeps y x h)
one_moves S f keeps mixed = mixed

-- an operation of one value that turns the relation moves in the turned sense
pub turning_moves : {A B : Type 0} {R : A → A → Type 0} (S : B → B → Type 0) (f : A → B) → ((x y : A) → R x y → S (f y) (f x)) → {sense : Sense} {x y : A} → Moves R sense x y → Moves S (turned sense) (f x) (f y)
turning_moves S f keeps h = turned_moves (one_moves (λ a b. S b a) f keeps h)

-- an operation of two values that keeps both relations moves in the combined sense
module _ {A B C : Type 0} {R : A → A → Type 0} {S : B → B → Type 0} (Q : C → C → Type 0) (itself : (x : A) → R x x) (other_itself : (x : B) → S x x) (f : A → B → C) (keeps : (a c : A) (b d : B) → R a c → S b d → Q (f a b) (f c d)) where
  pub two_move : {first second : Sense} {a c : A} {b d : B} → Moves R first a c → Moves S second b d → Moves Q (combined first second) (f a b) (f c d)
  two_move stays stays = stays
  two_move (stays {x = a}) (rises {x = b} {y = d} k) = rises (keeps a a b d (itself a) k)
  two_move (stays {x = a}) (falls {x = b} {y = d} k) = falls (keeps a a d b (itself a) k)
  two_move stays mixed = mixed
  two_move (rises {x = a} {y = c} h) (stays {x = b}) = rises (keeps a c b b h (other_itself b))
  two_move (rises {x = a} {y = c} h) (rises {x = b} {y = d} k) = rises (keeps a c b d h k)
  two_move (rises h) (falls k) = mixed
  two_move (rises h) mixed = mixed
  two_move (falls {x = a} {y = c} h) (stays {x = b}) = falls (keeps c a b b h (other_itself b))
  two_move (falls h) (rises k) = mixed
  two_move (falls {x = a} {y = c} h) (falls {x = b} {y = d} k) = falls (keeps c a d b h k)
  two_move (falls h) mixed = mixed
  two_move mixed k = mixed

-- any operation of two values stays where both stay
pub two_stay : {A B C : Type 0} {R : A → A → Type 0} {S : B → B → Type 0} (Q : C → C → Type 0) (f : A → B → C) → {first second : Sense} {a c : A} {b d : B} → Moves R first a c → Moves S second b d → Moves Q (fixed_or_mixed first second) (f a b) (f c d)
two_stay Q f stays stays = stays
two_stay Q f stays (rises k) = mixed
two_stay Q f stays (falls k) = mixed
two_stay Q f stays mixed = mixed
two_stay Q f (rises h) k = mixed
two_stay Q f (falls h) k = mixed
two_stay Q f mixed k = mixed

-- a fact of three values holds of values that they equal
pub along : {A B C : Type 0} (P : A → B → C → Type 0) {a a' : A} {b b' : B} {c c' : C} → a ≡ a' → b ≡ b' → c ≡ c' → P a' b' c' → P a b c
along P {a = a} {b = b} {b' = b'} {c' = c'} h k l fact = subst (P a b) (sym l) (subst (λ y. P a y c') (sym k) (subst (λ x. P x b' c') (sym h) fact))
