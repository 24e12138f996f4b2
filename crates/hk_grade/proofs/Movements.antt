-- What operations on numbers, sets and truths do to the order of each.
use Rattle.std.proofs.Common.{◌≡◌, ℕ, ℤ, pos, negsuc, zero, suc, Bool, true, false, ◌&&◌, ◌||◌, not, ◌==◌, if◌then◌else◌, Option, None, Some, ◌≤◌, ◌<◌, ◌/◌, ◌≤ℤ◌, ◌+ℤ◌, ◌-ℤ◌, ◌*ℤ◌, neg_ℤ, int_le, int_lt, bit_and, bit_or, count_ones, arith, refl, sym, ◌∙◌, eq-eqb}
use Rattle.std.proofs.lemmas.Int.{ints, clamps}
use Rattle.std.proofs.lemmas.Nat.{ones_le_self}
use Rattle.std.proofs.lemmas.Nat.Bits.{bit_at_and, bit_at_or, bit_at_xor, bit_at_lowest, bit_at-lt, bit_at-suc}
use Rattle.std.proofs.Math.IntN.{*ℤ_comm, zero-*ℤ, suc_ℤ-*ℤ, pred_ℤ-*ℤ}
use Rattle.std.specs.Int.Count.{ones_step}
use Rattle.std.specs.Int.{bit_at, int_max, int_min}
use Rattle.hk_kinds.specs.Covers.{PropertyCovers, covers_all}
use Rattle.hk_kinds.specs.Limits.{clamped}
use Rattle.hk_kinds.specs.SetLattices.{eqb-eq}
use Rattle.hk_kinds.specs.Sets.{IsSubset}
use Rattle.hk_kinds.specs.declared.kinds.Kind.TheVariants.{AllBits}
use Rattle.hk_kinds.specs.declared.properties.Prop.TheVariants.{Bits}
use Rattle.hk_kinds.proofs.Covering.{subset_along}
use Rattle.hk_kinds.proofs.PropertyLaws.{to_property_covers, from_property_covers}
use Rattle.hk_spec.specs.Grades.{turned, scaled, product_sense}
use Rattle.hk_spec.specs.Values.{set_without}
use Rattle.hk_spec.specs.declared.senses.Sense.{Sense}
use Rattle.hk_grade.proofs.Moves.{turning_moves, Moves, one_moves, two_stay}

-- a number gets less or greater
abbrev pub NumMoves : Sense → ℤ → ℤ → Type 0
NumMoves = Moves ◌≤ℤ◌

-- a set loses or gets values
abbrev pub SetMoves : Sense → ℕ → ℕ → Type 0
SetMoves = Moves IsSubset

-- where the first holds, so does the second
abbrev pub Implies : Bool → Bool → Type 0
Implies p q = p ≡ true → q ≡ true

-- a condition that holds goes on holding, or doesn't begin to
abbrev pub TruthMoves : Sense → Bool → Bool → Type 0
TruthMoves = Moves Implies

pub same_number : (n : ℤ) → n ≤ℤ n
same_number n = omega (arith, ints)

pub same_set : (set : ℕ) → IsSubset set set
same_set set = record { within = λ v has. has }

pub same_truth : (p : Bool) → Implies p p
same_truth p = λ h. h

-- each operation on numbers gets no less where its parts get no less, but for what is taken off, which turns it
pub sum_keeps : (a c b d : ℤ) → a ≤ℤ c → b ≤ℤ d → clamped (a +ℤ b) ≤ℤ clamped (c +ℤ d)
sum_keeps a c b d h k = omega (arith, ints, clamps)

pub difference_keeps : (a c b d : ℤ) → a ≤ℤ c → d ≤ℤ b → clamped (a -ℤ b) ≤ℤ clamped (c -ℤ d)
difference_keeps a c b d h k = omega (arith, ints, clamps)

pub least_keeps : (a c b d : ℤ) → a ≤ℤ c → b ≤ℤ d → clamped (int_min a b) ≤ℤ clamped (int_min c d)
least_keeps a c b d h k = omega (arith, ints, clamps)

pub most_keeps : (a c b d : ℤ) → a ≤ℤ c → b ≤ℤ d → clamped (int_max a b) ≤ℤ clamped (int_max c d)
most_keeps a c b d h k = omega (arith, ints, clamps)

pub negative_keeps : (a c : ℤ) → a ≤ℤ c → clamped (neg_ℤ c) ≤ℤ clamped (neg_ℤ a)
negative_keeps a c h = omega (arith, ints, clamps)

clamped_keeps : (a c : ℤ) → a ≤ℤ c → clamped a ≤ℤ clamped c
clamped_keeps a c h = omega (arith, ints, clamps)

-- a product with a factor one greater, and with one less
one_more : (a c b d x y : ℤ) → b ≡ a +ℤ x → d ≡ c +ℤ y → a ≤ℤ c → x ≤ℤ y → b ≤ℤ d
one_more a c b d x y h k l m = omega (arith, ints)

one_less : (a c b d x y : ℤ) → b ≡ a -ℤ x → d ≡ c -ℤ y → c ≤ℤ a → x ≤ℤ y → d ≤ℤ b
one_less a c b d x y h k l m = omega (arith, ints)

no_times : (x y : ℤ) → (pos 0 *ℤ x) ≤ℤ (pos 0 *ℤ y)
no_times x y = omega (arith, ints, zero-*ℤ x, zero-*ℤ y)

-- a product with a factor from 0 on keeps the order, and one with a factor below 0 turns it
product_rises : (n : ℕ) (x y : ℤ) → x ≤ℤ y → (pos n *ℤ x) ≤ℤ (pos n *ℤ y)
product_rises zero x y h = no_times x y
product_rises (suc n) x y h = one_more _ _ _ _ x y (suc_ℤ-*ℤ (pos n) x) (suc_ℤ-*ℤ (pos n) y) (product_rises n x y h) h

product_falls : (n : ℕ) (x y : ℤ) → x ≤ℤ y → (negsuc n *ℤ y) ≤ℤ (negsuc n *ℤ x)
product_falls zero x y h = one_less _ _ _ _ x y (pred_ℤ-*ℤ (pos 0) x) (pred_ℤ-*ℤ (pos 0) y) (no_times y x) h
product_falls (suc n) x y h = one_less _ _ _ _ x y (pred_ℤ-*ℤ (negsuc n) x) (pred_ℤ-*ℤ (negsuc n) y) (product_falls n x y h) h

product_keeps : (factor : ℤ) → int_lt factor (pos 0) ≡ false → (x y : ℤ) → x ≤ℤ y → clamped (factor *ℤ x) ≤ℤ clamped (factor *ℤ y)
product_keeps (pos n) above x y h = clamped_keeps _ _ (product_rises n x y h)
product_keeps (negsuc n) above x y h = cc

product_turns : (factor : ℤ) → int_lt factor (pos 0) ≡ true → (x y : ℤ) → x ≤ℤ y → clamped (factor *ℤ y) ≤ℤ clamped (factor *ℤ x)
product_turns (pos n) below x y h = absurd (omega (arith, ints))
product_turns (negsuc n) below x y h = clamped_keeps _ _ (product_falls n x y h)

-- the same by the test that the sense is chosen by
times_moves : (factor : ℤ) (below : Bool) → int_lt factor (pos 0) ≡ below → {s : Sense} {x y : ℤ} → NumMoves s x y → NumMoves (if below then turned s else s) (clamped (factor *ℤ x)) (clamped (factor *ℤ y))
times_moves factor true below h = turning_moves ◌≤ℤ◌ (λ x. clamped (factor *ℤ x)) (product_turns factor below) h
times_moves factor false above h = one_moves ◌≤ℤ◌ (λ x. clamped (factor *ℤ x)) (product_keeps factor above) h

-- a product with a number moves in the scaled sense
pub scaled_moves : (factor : ℤ) {s : Sense} {x y : ℤ} → NumMoves s x y → NumMoves (scaled factor s) (clamped (factor *ℤ x)) (clamped (factor *ℤ y))
scaled_moves factor h = times_moves factor (int_lt factor (pos 0)) refl h

-- where a literal was read, both numbers are that literal
pub data IsLiteral : Option ℤ → ℤ → ℤ → Type 0 where
  no_literal : {x y : ℤ} → IsLiteral None x y
  is_literal : {n : ℤ} → IsLiteral (Some n) n n

from_left : {s : Sense} (n x y : ℤ) → NumMoves s (clamped (n *ℤ x)) (clamped (n *ℤ y)) → NumMoves s (clamped (x *ℤ n)) (clamped (y *ℤ n))
from_left n x y h = rw (*ℤ_comm x n, *ℤ_comm y n) h

-- a product moves in the sense of products
pub products_move : {p q : Option ℤ} {s t : Sense} {a c b d : ℤ} → IsLiteral p a c → IsLiteral q b d → NumMoves s a c → NumMoves t b d → NumMoves (product_sense (record { literal = p; sense = s }) (record { literal = q; sense = t })) (clamped (a *ℤ b)) (clamped (c *ℤ d))
products_move (is_literal {n = n}) _ h k = scaled_moves n k
products_move (no_literal {x = a} {y = c}) (is_literal {n = n}) h k = from_left n a c (scaled_moves n h)
products_move no_literal no_literal h k = two_stay ◌≤ℤ◌ (λ a b. clamped (a *ℤ b)) h k

-- sets are compared bit by bit
bit_least : (m n : ℕ) → m < 2 → (m ≡ 1 → n ≡ 1) → m ≤ n
bit_least m n h k = grind arith

bits_within : {a b : ℕ} → IsSubset a b → (v : ℕ) → bit_at a v ≤ bit_at b v
bits_within {a = a} {b = b} h v = bit_least (bit_at a v) (bit_at b v) (bit_at-lt a v) (h.within v)

-- each operation on sets loses no value where its parts lose none, but for what is taken away, which turns it
pub union_keeps : (a c b d : ℕ) → IsSubset a c → IsSubset b d → IsSubset (bit_or a b) (bit_or c d)
union_keeps a c b d h k = record { within = λ v has. omega (arith, bits_within h v, bits_within k v, bit_at_or a b v, bit_at_or c d v, bit_at-lt a v, bit_at-lt b v, bit_at-lt c v, bit_at-lt d v) }

pub common_keeps : (a c b d : ℕ) → IsSubset a c → IsSubset b d → IsSubset (bit_and a b) (bit_and c d)
common_keeps a c b d h k = record { within = λ v has. omega (arith, bits_within h v, bits_within k v, bit_at_and a b v, bit_at_and c d v, bit_at-lt a v, bit_at-lt b v, bit_at-lt c v, bit_at-lt d v) }

pub without_keeps : (a c b d : ℕ) → IsSubset a c → IsSubset d b → IsSubset (set_without a b) (set_without c d)
without_keeps a c b d h k = record { within = λ v has. omega (arith, bits_within h v, bits_within k v, bit_at_xor a (bit_and a b) v, bit_at_and a b v, bit_at_xor c (bit_and c d) v, bit_at_and c d v, bit_at-lt a v, bit_at-lt b v, bit_at-lt c v, bit_at-lt d v) }

-- without their least value, and all others one less, sets stay within one another
halves_within : (a b : ℕ) → IsSubset a b → IsSubset (a / 2) (b / 2)
halves_within a b h = record { within = λ v has. sym (bit_at-suc b v) ∙ h.within (suc v) (bit_at-suc a v ∙ has) }

-- a set has no more values than one that it is within
ones_keep : (most a b : ℕ) → a ≤ most → IsSubset a b → count_ones a ≤ count_ones b
ones_keep zero a b small h =
    let few = ones_le_self a in
    omega (arith, few)
ones_keep (suc most) a b small h =
    let rest = ones_keep most (a / 2) (b / 2) (omega arith) (halves_within a b h) in
    let first = ones_step a in
    let second = ones_step b in
    omega (arith, rest, first, second, bits_within h 0, bit_at_lowest a, bit_at_lowest b)

pub card_keeps : (a b : ℕ) → IsSubset a b → pos (count_ones a) ≤ℤ pos (count_ones b)
card_keeps a b h =
    let few = ones_keep a a b (omega arith) h in
    omega (arith, ints, few)

-- each comparison goes on holding where what is to be less gets no greater and what is to be greater no less
pub at_most_keeps : (a c b d : ℤ) → c ≤ℤ a → b ≤ℤ d → Implies (int_le a b) (int_le c d)
at_most_keeps a c b d h k = λ holds. grind (arith, ints)

pub below_keeps : (a c b d : ℤ) → c ≤ℤ a → b ≤ℤ d → Implies (int_lt a b) (int_lt c d)
below_keeps a c b d h k = λ holds. grind (arith, ints)

pub at_least_keeps : (a c b d : ℤ) → a ≤ℤ c → d ≤ℤ b → Implies (int_le b a) (int_le d c)
at_least_keeps a c b d h k = λ holds. grind (arith, ints)

pub above_keeps : (a c b d : ℤ) → a ≤ℤ c → d ≤ℤ b → Implies (int_lt b a) (int_lt d c)
above_keeps a c b d h k = λ holds. grind (arith, ints)

-- a wider set has what a set has
pub has_keeps : (value a b : ℕ) → IsSubset a b → Implies (bit_at a value == 1) (bit_at b value == 1)
has_keeps value a b h = λ has. eq-eqb _ _ (h.within value (eqb-eq _ _ has))

pub not_keeps : (p q : Bool) → Implies p q → Implies (not q) (not p)
not_keeps p q h = grind arith

-- the test of being a subset is the one of AllBits properties
from_covers_all : {a b : ℕ} → PropertyCovers AllBits (Bits a) (Bits b) → IsSubset a b
from_covers_all (covers_all h) = h

pub subset_keeps : (a c b d : ℕ) → IsSubset c a → IsSubset b d → Implies (bit_and a b == a) (bit_and c d == c)
subset_keeps a c b d h k = λ holds. from_property_covers AllBits (Bits c) (Bits d) (covers_all (subset_along h (subset_along (from_covers_all (to_property_covers AllBits (Bits a) (Bits b) holds)) k)))

pub both_keep : (p q r s : Bool) → Implies p q → Implies r s → Implies (p && r) (q && s)
both_keep p q r s h k = grind arith

pub either_keeps : (p q r s : Bool) → Implies p q → Implies r s → Implies (p || r) (q || s)
either_keeps p q r s h k = grind arith
