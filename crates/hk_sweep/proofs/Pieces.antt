-- The library's specifications as plain functions of a place, a value and a state, and groups of them: a revision over
-- these computes, where one over expression trees does not.
use Rattle.std.specs.Prelude.{ℕ, zero, suc, ℤ, pos, ◌+◌, ◌/◌, ◌%◌, ◌^◌, nat_lt, if◌then◌else◌, ◌==◌, ◌+ℤ◌, ◌-ℤ◌, ◌*ℤ◌, int_le, int_lt, bit_and, bit_or, count_ones, Bool, true, ◌&&◌, ◌||◌, not, List, [], ◌∷◌, ◌++◌, length, map, replicate, take, drop, slice_get, slice_index, Option, None, Some, unwrap_or}
use Rattle.std.specs.Int.{bit_at}
use Rattle.std.specs.List.{range_with_len}
use Rattle.hk_group.specs.Groups.{place_in}
use Rattle.hk_kinds.specs.Limits.{clamped}
use Rattle.hk_kinds.specs.Views.{number_of_property, low_of_property, high_of_property, set_of_property}
use Rattle.hk_kinds.specs.declared.kinds.Kind.{Kind}
use Rattle.hk_kinds.specs.declared.kinds.Kind.TheVariants.{Min, Interval, SomeBits, AllBits}
use Rattle.hk_kinds.specs.declared.properties.Prop.{Prop}
use Rattle.hk_kinds.specs.declared.properties.Prop.TheVariants.{Num, Pair, Bits}
use Rattle.hk_layers.specs.Transitions.{Transitions}

-- what a specification with its arguments does at a place of its scope
pub record Piece : Type 0 where
  pub down_shape : List Kind
  pub up_shape : List Kind
  pub initial_down : List Prop
  pub initial_up : List Prop
  pub down : ℕ → ℕ → List Prop → List Prop
  pub up : ℕ → ℕ → List Prop → List Prop
  pub passes : ℕ → ℕ → ℤ → List Prop → List Prop → Bool

-- what is read of a state: `p`, `p.lo`, `p.hi`, or a set
abbrev pub number_at : ℕ → List Prop → ℤ
number_at place state = number_of_property (slice_get state place)

abbrev pub low_at : ℕ → List Prop → ℤ
low_at place state = low_of_property (slice_get state place)

abbrev pub high_at : ℕ → List Prop → ℤ
high_at place state = high_of_property (slice_get state place)

abbrev pub set_at : ℕ → List Prop → ℕ
set_at place state = set_of_property (slice_get state place)

-- `(a + b)` and `(a - b)`
abbrev pub plus : ℤ → ℤ → ℤ
plus a b = clamped (a +ℤ b)

abbrev pub minus : ℤ → ℤ → ℤ
minus a b = clamped (a -ℤ b)

-- `(p.lo + w) (p.hi + w)` of the first property
abbrev pub span_plus : ℤ → List Prop → Prop
span_plus w state = Pair (plus (low_at 0 state) w) (plus (high_at 0 state) w)

-- `((((p.lo + w) + q.lo) <= most) and (least <= ((p.hi + w) + q.hi)))`
abbrev pub total_lies : ℤ → ℤ → ℤ → List Prop → List Prop → Bool
total_lies least most w down up =
    int_le (plus (plus (low_at 0 down) w) (low_at 0 up)) most && int_le least (plus (plus (high_at 0 down) w) (high_at 0 up))

-- `card(S)`: the digits of a set of 128 values, counted one by one, since `count_ones` takes as many turns as its number
-- says and so does not compute for a great one
abbrev pub digits_in : ℕ → ℕ → ℕ
digits_in zero n = 0
digits_in (suc d) n = n % 2 + digits_in d (n / 2)

abbrev pub card : ℕ → ℕ
card n = if nat_lt n (2 ^ 128) then digits_in 128 n else count_ones n

-- `(k[i] * v)`
abbrev pub weighted : List ℤ → ℕ → ℕ → ℤ
weighted k i v = clamped (unwrap_or (slice_get k i) (pos 0) *ℤ pos v)

-- `sum` and `among`, in Intervals, by the number that a place adds
abbrev pub total_piece : (ℕ → ℕ → ℤ) → ℤ → ℤ → Piece
total_piece w least most = record {
  down_shape = Interval ∷ [];
  up_shape = Interval ∷ [];
  initial_down = Pair (pos 0) (pos 0) ∷ [];
  initial_up = Pair (pos 0) (pos 0) ∷ [];
  down = λ i v state. span_plus (w i v) state ∷ [];
  up = λ i v state. span_plus (w i v) state ∷ [];
  passes = λ i v best down up. total_lies least most (w i v) down up;
}

abbrev pub sum_piece : List ℤ → ℤ → ℤ → Piece
sum_piece k least most = total_piece (weighted k) least most

-- `card(({v} & vals))`
abbrev pub counted : ℕ → ℕ → ℤ
counted vals v = pos (card (bit_and (2 ^ v) vals))

abbrev pub among_piece : ℕ → ℤ → ℤ → Piece
among_piece vals least most = total_piece (λ i v. counted vals v) least most

-- the objective, in Min properties
abbrev pub objective_piece : List ℤ → Piece
objective_piece k = record {
  down_shape = Min ∷ [];
  up_shape = Min ∷ [];
  initial_down = Num (pos 0) ∷ [];
  initial_up = Num (pos 0) ∷ [];
  down = λ i v state. Num (plus (number_at 0 state) (weighted k i v)) ∷ [];
  up = λ i v state. Num (plus (number_at 0 state) (weighted k i v)) ∷ [];
  passes = λ i v best down up. int_lt (plus (plus (number_at 0 down) (weighted k i v)) (number_at 0 up)) best;
}

-- `sequence` with window last + 1: the lags a0 to a(last), shifted by one at each step, with no up property
abbrev pub lag : List Prop → ℕ → Prop
lag state place = Pair (low_at place state) (high_at place state)

abbrev pub window_lies : ℕ → ℤ → ℤ → ℕ → ℤ → List Prop → Bool
window_lies last least most i c down = int_lt (pos i) (pos last)
    || (int_le (minus (plus (low_at 0 down) c) (high_at last down)) most && int_le least (minus (plus (high_at 0 down) c) (low_at last down)))

abbrev pub sequence_piece : ℕ → ℕ → ℤ → ℤ → Piece
sequence_piece last vals least most = record {
  down_shape = replicate (last + 1) Interval;
  up_shape = [];
  initial_down = replicate (last + 1) (Pair (pos 0) (pos 0));
  initial_up = [];
  down = λ i v state. span_plus (counted vals v) state ∷ map (lag state) (range_with_len 0 last);
  up = λ i v state. [];
  passes = λ i v best down up. window_lies last least most i (counted vals v) down;
}

-- `alldifferent` of n values: `(some | {v})` and so on, and its test
abbrev pub with_value : ℕ → ℕ → List Prop → ℕ
with_value v place state = bit_or (set_at place state) (2 ^ v)

abbrev pub lacks : ℕ → ℕ → List Prop → Bool
lacks v place state = not (bit_at (set_at place state) v == 1)

abbrev pub has_many : ℕ → List Prop → ℤ → Bool
has_many v state least = int_le least (pos (card (with_value v 0 state)))

abbrev pub two_sets : ℕ → List Prop → List Prop
two_sets v state = Bits (with_value v 0 state) ∷ Bits (with_value v 1 state) ∷ []

abbrev pub differs : ℕ → ℕ → ℕ → List Prop → List Prop → Bool
differs n i v down up = (lacks v 1 down && lacks v 1 up) && (has_many v down (plus (pos i) (pos 1)) && has_many v up (minus (pos n) (pos i)))

abbrev pub alldifferent_piece : ℕ → Piece
alldifferent_piece n = record {
  down_shape = SomeBits ∷ AllBits ∷ [];
  up_shape = SomeBits ∷ AllBits ∷ [];
  initial_down = Bits 0 ∷ Bits 0 ∷ [];
  initial_up = Bits 0 ∷ Bits 0 ∷ [];
  down = λ i v state. two_sets v state;
  up = λ i v state. two_sets v state;
  passes = λ i v best down up. differs n i v down up;
}

-- a piece with its scope
pub record Placed : Type 0 where
  pub piece : Piece
  pub scope : List ℕ

-- a step or a test at a place of the scope; outside of it the state stays, and there is no test
abbrev pub step_at : (ℕ → ℕ → List Prop → List Prop) → Option ℕ → ℕ → List Prop → List Prop
step_at step None v state = state
step_at step (Some i) v state = step i v state

abbrev pub passes_at : (ℕ → ℕ → ℤ → List Prop → List Prop → Bool) → Option ℕ → ℕ → ℤ → List Prop → List Prop → Bool
passes_at test None v best down up = true
passes_at test (Some i) v best down up = test i v best down up

-- pieces side by side: each has its own properties of the state
abbrev pub all_kinds : (Piece → List Kind) → List Placed → List Kind
all_kinds of [] = []
all_kinds of (p ∷ ps) = of p.piece ++ all_kinds of ps

abbrev pub all_values : (Piece → List Prop) → List Placed → List Prop
all_values of [] = []
all_values of (p ∷ ps) = of p.piece ++ all_values of ps

abbrev pub down_all : List Placed → ℕ → ℕ → List Prop → List Prop
down_all [] x v state = []
down_all (p ∷ ps) x v state = let n = length p.piece.down_shape in
    step_at p.piece.down (place_in p.scope x) v (take n state) ++ down_all ps x v (drop n state)

abbrev pub up_all : List Placed → ℕ → ℕ → List Prop → List Prop
up_all [] x v state = []
up_all (p ∷ ps) x v state = let n = length p.piece.up_shape in
    step_at p.piece.up (place_in p.scope x) v (take n state) ++ up_all ps x v (drop n state)

abbrev pub all_pass : List Placed → ℕ → ℕ → ℤ → List Prop → List Prop → Bool
all_pass [] x v best down up = true
all_pass (p ∷ ps) x v best down up = let m = length p.piece.down_shape in let n = length p.piece.up_shape in
    passes_at p.piece.passes (place_in p.scope x) v best (take m down) (take n up) && all_pass ps x v best (drop m down) (drop n up)

-- the transitions of pieces side by side, with a layer for each of these variables
abbrev pub beside : List ℕ → List Placed → Transitions
beside vars ps = record {
  down_shape = all_kinds (λ (p : Piece). p.down_shape) ps;
  up_shape = all_kinds (λ (p : Piece). p.up_shape) ps;
  initial_down = all_values (λ (p : Piece). p.initial_down) ps;
  initial_up = all_values (λ (p : Piece). p.initial_up) ps;
  down = λ layer v state. down_all ps (slice_index vars layer) v state;
  up = λ layer v state. up_all ps (slice_index vars layer) v state;
  passes = λ layer v best down up. all_pass ps (slice_index vars layer) v best down up;
}

abbrev pub on : List ℕ → Piece → Placed
on scope piece = record { piece = piece; scope = scope }
