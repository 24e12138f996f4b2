-- The plain functions are those of the library's specifications, and of groups of them.
use Rattle.std.proofs.Common.{◌≡◌, ℕ, zero, suc, ℤ, pos, ◌+◌, ◌/◌, ◌%◌, ◌^◌, ◌<◌, nat_lt, Bool, true, ◌&&◌, ◌||◌, not, ◌==◌, ◌*ℤ◌, int_le, int_lt, bit_and, bit_or, count_ones, List, [], ◌∷◌, ◌++◌, length, map, take, drop, slice_get, slice_index, Option, None, Some, arith, refl, sym, ap, ap₂, ◌∙◌, pow-suc}
use Rattle.std.proofs.lemmas.Bool.{cond_both}
use Rattle.std.proofs.lemmas.Nat.{ones_le_self}
use Rattle.std.specs.Int.{bit_at}
use Rattle.std.specs.Int.Count.{ones_step}
use Rattle.hk_group.specs.Groups.{PlainGroup, Part, place_in, down_at, up_at, passes_at as part_passes_at, down_of, up_of, passes_of, down_shape_of, up_shape_of, initial_down_of, initial_up_of}
use Rattle.hk_kinds.specs.Limits.{clamped}
use Rattle.hk_kinds.specs.declared.kinds.Kind.TheVariants.{Min, Interval, SomeBits, AllBits}
use Rattle.hk_kinds.specs.declared.properties.Prop.{Prop}
use Rattle.hk_kinds.specs.declared.properties.Prop.TheVariants.{Num, Pair, Bits}
use Rattle.hk_spec.proofs.NodeValues as node
use Rattle.hk_spec.specs.Library as library
use Rattle.hk_spec.specs.Settings.{Setting, state_of, item_of_argument, set_of_argument}
use Rattle.hk_spec.specs.Specifications.{BoundSpecification, down_shape, up_shape, initial_values}
use Rattle.hk_spec.specs.Steps.{down_step, up_step, test_passes, down_setting, up_setting, test_setting, step_value}
use Rattle.hk_spec.specs.Trees as tree
use Rattle.hk_spec.specs.Values.{num_value, set_value, cond_holds}
use Rattle.hk_spec.specs.declared.expressions.NumExpr.{NumExpr}
use Rattle.hk_spec.specs.declared.expressions.Side.{Side}
use Rattle.hk_spec.specs.declared.expressions.Side.TheVariants.{Down, Up}
use Rattle.hk_spec.specs.declared.parts.PropDecl.{PropDecl}
use Rattle.hk_spec.specs.declared.parts.StepExpr.TheVariants as step
use Rattle.hk_sweep.proofs.Pieces as plain
use Rattle.hk_sweep.proofs.Pieces.{Piece, Placed, beside, digits_in, card}
use Rattle.hk_layers.specs.Transitions.{transitions_of}

-- what a specification with its arguments does, as a piece
abbrev pub piece_of : BoundSpecification → Piece
piece_of b = record {
  down_shape = down_shape b.spec;
  up_shape = up_shape b.spec;
  initial_down = initial_values b.spec.down;
  initial_up = initial_values b.spec.up;
  down = λ i v state. down_step b i v state;
  up = λ i v state. up_step b i v state;
  passes = λ i v best down up. test_passes b i v down up best;
}

abbrev pub placed_of : Part → Placed
placed_of part = record { piece = piece_of part.bound; scope = part.scope }

-- counting digit by digit is `count_ones`
digits_are : (d n : ℕ) → n < 2 ^ d → digits_in d n ≡ count_ones n
digits_are zero n small = let none : n ≡ 0 = omega arith in let least = ones_le_self n in omega arith
digits_are (suc d) n small =
    let half : n / 2 < 2 ^ d = omega (arith, pow-suc 2 d) in
    ap (λ m. n % 2 + m) (digits_are d (n / 2) half) ∙ sym (ones_step n)

less_from_test : (a b : ℕ) → nat_lt a b ≡ true → a < b
less_from_test a b h = grind arith

card_is : (n : ℕ) → card n ≡ count_ones n
card_is n = cond_both (nat_lt n (2 ^ 128)) (digits_in 128 n) (count_ones n) (λ m. m ≡ count_ones n) (λ e. digits_are 128 n (less_from_test n (2 ^ 128) e)) (λ e. refl)

-- sums and differences of expressions
plus_is : (at : Setting) (a b : NumExpr) (m n : ℤ) → num_value at a ≡ m → num_value at b ≡ n → num_value at (tree.plus a b) ≡ plain.plus m n
plus_is at a b m n h k = node.num_value-plus at a b ∙ ap₂ plain.plus h k

minus_is : (at : Setting) (a b : NumExpr) (m n : ℤ) → num_value at a ≡ m → num_value at b ≡ n → num_value at (tree.minus a b) ≡ plain.minus m n
minus_is at a b m n h k = node.num_value-minus at a b ∙ ap₂ plain.minus h k

-- the first property and a number
low_plus : (at : Setting) (side : Side) (e : NumExpr) (w : ℤ) → num_value at e ≡ w → num_value at (tree.plus (tree.low side 0) e) ≡ plain.plus (plain.low_at 0 (state_of at side)) w
low_plus at side e w h = plus_is at (tree.low side 0) e (plain.low_at 0 (state_of at side)) w (node.num_value-low at side 0) h

high_plus : (at : Setting) (side : Side) (e : NumExpr) (w : ℤ) → num_value at e ≡ w → num_value at (tree.plus (tree.high side 0) e) ≡ plain.plus (plain.high_at 0 (state_of at side)) w
high_plus at side e w h = plus_is at (tree.high side 0) e (plain.high_at 0 (state_of at side)) w (node.num_value-high at side 0) h

span_is : (at : Setting) (side : Side) (e : NumExpr) (w : ℤ) → num_value at e ≡ w → step_value at (library.step_by side e) ≡ plain.span_plus w (state_of at side)
span_is at side e w h = ap₂ Pair (low_plus at side e w h) (high_plus at side e w h)

-- the test of `sum` and `among`
total_is : (at : Setting) (e least most : NumExpr) (w l m : ℤ) → num_value at e ≡ w → num_value at least ≡ l → num_value at most ≡ m → cond_holds at (library.total_test e least most) ≡ plain.total_lies l m w at.down at.up
total_is at e least most w l m h k n =
    let lows : num_value at (tree.plus (tree.plus (tree.low Down 0) e) (tree.low Up 0)) ≡ plain.plus (plain.plus (plain.low_at 0 at.down) w) (plain.low_at 0 at.up)
    = plus_is at (tree.plus (tree.low Down 0) e) (tree.low Up 0) (plain.plus (plain.low_at 0 at.down) w) (plain.low_at 0 at.up) (low_plus at Down e w h) (node.num_value-low at Up 0) in
    let highs : num_value at (tree.plus (tree.plus (tree.high Down 0) e) (tree.high Up 0)) ≡ plain.plus (plain.plus (plain.high_at 0 at.down) w) (plain.high_at 0 at.up)
    = plus_is at (tree.plus (tree.high Down 0) e) (tree.high Up 0) (plain.plus (plain.high_at 0 at.down) w) (plain.high_at 0 at.up) (high_plus at Down e w h) (node.num_value-high at Up 0) in
    node.cond_holds-both at (tree.at_most (tree.plus (tree.plus (tree.low Down 0) e) (tree.low Up 0)) most) (tree.at_most least (tree.plus (tree.plus (tree.high Down 0) e) (tree.high Up 0)))
    ∙ ap₂ (λ x y. x && y) (node.cond_holds-at_most at (tree.plus (tree.plus (tree.low Down 0) e) (tree.low Up 0)) most ∙ ap₂ int_le lows n)
    (node.cond_holds-at_most at least (tree.plus (tree.plus (tree.high Down 0) e) (tree.high Up 0)) ∙ ap₂ int_le k highs)

weighted_is : (at : Setting) → num_value at library.weighted ≡ clamped (item_of_argument (slice_get at.args 0) at.position *ℤ pos at.value)
weighted_is at = node.num_value-times at (tree.item 0) tree.value ∙ ap₂ (λ a b. clamped (a *ℤ b)) (node.num_value-item at 0) (node.num_value-value at)

counted_is : (at : Setting) → num_value at library.counted ≡ plain.counted (set_of_argument (slice_get at.args 2)) at.value
counted_is at = node.num_value-card at (tree.common tree.one (tree.set_param 2))
    ∙ ap (λ n. pos n) (ap count_ones (node.set_value-common at tree.one (tree.set_param 2) ∙ ap₂ bit_and (node.set_value-one at) (node.set_value-set_param at 2)) ∙ sym (card_is (bit_and (2 ^ at.value) (set_of_argument (slice_get at.args 2)))))

pub sum_is : (k : List ℤ) (least most : ℤ) → piece_of (library.sum_bound k least most) ≡ plain.sum_piece k least most
sum_is k least most =
    let b = library.sum_bound k least most in
    λ j. record {
      down_shape = Interval ∷ [];
      up_shape = Interval ∷ [];
      initial_down = Pair (pos 0) (pos 0) ∷ [];
      initial_up = Pair (pos 0) (pos 0) ∷ [];
      down = λ i v state. span_is (down_setting b i v state) Down library.weighted (plain.weighted k i v) (weighted_is (down_setting b i v state)) j ∷ [];
      up = λ i v state. span_is (up_setting b i v state) Up library.weighted (plain.weighted k i v) (weighted_is (up_setting b i v state)) j ∷ [];
      passes = λ i v best down up. let at = test_setting b i v down up best in total_is at library.weighted (tree.number_param 1) (tree.number_param 2) (plain.weighted k i v) least most (weighted_is at) (node.num_value-number_param at 1) (node.num_value-number_param at 2) j;
    }

pub among_is : (n vals : ℕ) (least most : ℤ) → piece_of (library.among_bound n vals least most) ≡ plain.among_piece vals least most
among_is n vals least most =
    let b = library.among_bound n vals least most in
    λ j. record {
      down_shape = Interval ∷ [];
      up_shape = Interval ∷ [];
      initial_down = Pair (pos 0) (pos 0) ∷ [];
      initial_up = Pair (pos 0) (pos 0) ∷ [];
      down = λ i v state. span_is (down_setting b i v state) Down library.counted (plain.counted vals v) (counted_is (down_setting b i v state)) j ∷ [];
      up = λ i v state. span_is (up_setting b i v state) Up library.counted (plain.counted vals v) (counted_is (up_setting b i v state)) j ∷ [];
      passes = λ i v best down up. let at = test_setting b i v down up best in total_is at library.counted (tree.number_param 0) (tree.number_param 1) (plain.counted vals v) least most (counted_is at) (node.num_value-number_param at 0) (node.num_value-number_param at 1) j;
    }

-- the objective
number_plus : (at : Setting) (side : Side) → num_value at (tree.plus (tree.number side 0) library.weighted) ≡ plain.plus (plain.number_at 0 (state_of at side)) (clamped (item_of_argument (slice_get at.args 0) at.position *ℤ pos at.value))
number_plus at side = plus_is at (tree.number side 0) library.weighted (plain.number_at 0 (state_of at side)) (clamped (item_of_argument (slice_get at.args 0) at.position *ℤ pos at.value)) (node.num_value-number at side 0) (weighted_is at)

below_is : (at : Setting) → cond_holds at library.objective_spec.test ≡ int_lt (plain.plus (plain.plus (plain.number_at 0 at.down) (clamped (item_of_argument (slice_get at.args 0) at.position *ℤ pos at.value))) (plain.number_at 0 at.up)) at.best
below_is at = node.cond_holds-below at (tree.plus (tree.plus (tree.number Down 0) library.weighted) (tree.number Up 0)) tree.best
    ∙ ap₂ int_lt (plus_is at (tree.plus (tree.number Down 0) library.weighted) (tree.number Up 0) (plain.plus (plain.number_at 0 at.down) (clamped (item_of_argument (slice_get at.args 0) at.position *ℤ pos at.value))) (plain.number_at 0 at.up) (number_plus at Down) (node.num_value-number at Up 0)) (node.num_value-best at)

pub objective_is : (k : List ℤ) → piece_of (library.objective_bound k) ≡ plain.objective_piece k
objective_is k =
    let b = library.objective_bound k in
    λ j. record {
      down_shape = Min ∷ [];
      up_shape = Min ∷ [];
      initial_down = Num (pos 0) ∷ [];
      initial_up = Num (pos 0) ∷ [];
      down = λ i v state. Num (number_plus (down_setting b i v state) Down j) ∷ [];
      up = λ i v state. Num (number_plus (up_setting b i v state) Up j) ∷ [];
      passes = λ i v best down up. below_is (test_setting b i v down up best) j;
    }

-- `sequence`: its lags, and its test
lag_is : (at : Setting) (place : ℕ) → step_value at (step.Pair (tree.low Down place) (tree.high Down place)) ≡ plain.lag at.down place
lag_is at place = ap₂ Pair (node.num_value-low at Down place) (node.num_value-high at Down place)

window_is : (at : Setting) (last : ℕ) (c l m : ℤ) → num_value at library.counted ≡ c → num_value at (tree.number_param 0) ≡ l → num_value at (tree.number_param 1) ≡ m → cond_holds at (library.window_test last) ≡ plain.window_lies last l m at.position c at.down
window_is at last c l m h k n =
    let first = tree.minus (tree.plus (tree.low Down 0) library.counted) (tree.high Down last) in
    let second = tree.minus (tree.plus (tree.high Down 0) library.counted) (tree.low Down last) in
    let lows : num_value at first ≡ plain.minus (plain.plus (plain.low_at 0 at.down) c) (plain.high_at last at.down)
    = minus_is at (tree.plus (tree.low Down 0) library.counted) (tree.high Down last) (plain.plus (plain.low_at 0 at.down) c) (plain.high_at last at.down) (low_plus at Down library.counted c h) (node.num_value-high at Down last) in
    let highs : num_value at second ≡ plain.minus (plain.plus (plain.high_at 0 at.down) c) (plain.low_at last at.down)
    = minus_is at (tree.plus (tree.high Down 0) library.counted) (tree.low Down last) (plain.plus (plain.high_at 0 at.down) c) (plain.low_at last at.down) (high_plus at Down library.counted c h) (node.num_value-low at Down last) in
    let early : cond_holds at (tree.below tree.index (tree.literal (pos last))) ≡ int_lt (pos at.position) (pos last)
    = node.cond_holds-below at tree.index (tree.literal (pos last)) ∙ ap₂ int_lt (node.num_value-index at) (node.num_value-literal at (pos last)) in
    let lies : cond_holds at (tree.both (tree.at_most first (tree.number_param 1)) (tree.at_most (tree.number_param 0) second)) ≡ (int_le (plain.minus (plain.plus (plain.low_at 0 at.down) c) (plain.high_at last at.down)) m && int_le l (plain.minus (plain.plus (plain.high_at 0 at.down) c) (plain.low_at last at.down)))
    = node.cond_holds-both at (tree.at_most first (tree.number_param 1)) (tree.at_most (tree.number_param 0) second)
    ∙ ap₂ (λ x y. x && y) (node.cond_holds-at_most at first (tree.number_param 1) ∙ ap₂ int_le lows n) (node.cond_holds-at_most at (tree.number_param 0) second ∙ ap₂ int_le k highs) in
    node.cond_holds-either at (tree.below tree.index (tree.literal (pos last))) (tree.both (tree.at_most first (tree.number_param 1)) (tree.at_most (tree.number_param 0) second)) ∙ ap₂ (λ x y. x || y) early lies

pub sequence_two_is : (n vals : ℕ) (least most : ℤ) → piece_of (library.sequence_bound n 2 vals least most) ≡ plain.sequence_piece 1 vals least most
sequence_two_is n vals least most =
    let b = library.sequence_bound n 2 vals least most in
    λ j. record {
      down_shape = Interval ∷ (Interval ∷ []);
      up_shape = [];
      initial_down = Pair (pos 0) (pos 0) ∷ (Pair (pos 0) (pos 0) ∷ []);
      initial_up = [];
      down = λ i v state. let at = down_setting b i v state in span_is at Down library.counted (plain.counted vals v) (counted_is at) j ∷ (lag_is at 0 j ∷ []);
      up = λ i v state. [];
      passes = λ i v best down up. let at = test_setting b i v down up best in window_is at 1 (plain.counted vals v) least most (counted_is at) (node.num_value-number_param at 0) (node.num_value-number_param at 1) j;
    }

pub sequence_three_is : (n vals : ℕ) (least most : ℤ) → piece_of (library.sequence_bound n 3 vals least most) ≡ plain.sequence_piece 2 vals least most
sequence_three_is n vals least most =
    let b = library.sequence_bound n 3 vals least most in
    λ j. record {
      down_shape = Interval ∷ (Interval ∷ (Interval ∷ []));
      up_shape = [];
      initial_down = Pair (pos 0) (pos 0) ∷ (Pair (pos 0) (pos 0) ∷ (Pair (pos 0) (pos 0) ∷ []));
      initial_up = [];
      down = λ i v state. let at = down_setting b i v state in span_is at Down library.counted (plain.counted vals v) (counted_is at) j ∷ (lag_is at 0 j ∷ (lag_is at 1 j ∷ []));
      up = λ i v state. [];
      passes = λ i v best down up. let at = test_setting b i v down up best in window_is at 2 (plain.counted vals v) least most (counted_is at) (node.num_value-number_param at 0) (node.num_value-number_param at 1) j;
    }

-- `alldifferent`
with_is : (at : Setting) (side : Side) (place : ℕ) → set_value at (library.with_value (tree.bits side place)) ≡ plain.with_value at.value place (state_of at side)
with_is at side place = node.set_value-union at (tree.bits side place) tree.one ∙ ap₂ bit_or (node.set_value-bits at side place) (node.set_value-one at)

lacks_is : (at : Setting) (side : Side) (place : ℕ) → cond_holds at (tree.lacks (tree.bits side place)) ≡ plain.lacks at.value place (state_of at side)
lacks_is at side place = node.cond_holds-lacks at (tree.bits side place) ∙ ap (λ set. not (bit_at set at.value == 1)) (node.set_value-bits at side place)

many_is : (at : Setting) (side : Side) (e : NumExpr) (n : ℤ) → num_value at e ≡ n → cond_holds at (tree.at_least (tree.card (library.with_value (tree.bits side 0))) e) ≡ plain.has_many at.value (state_of at side) n
many_is at side e n h = node.cond_holds-at_least at (tree.card (library.with_value (tree.bits side 0))) e
    ∙ ap₂ int_le h (node.num_value-card at (library.with_value (tree.bits side 0)) ∙ ap (λ m. pos m) (ap count_ones (with_is at side 0) ∙ sym (card_is (plain.with_value at.value 0 (state_of at side)))))

differs_is : (at : Setting) → cond_holds at library.differing_test ≡ plain.differs at.positions at.position at.value at.down at.up
differs_is at =
    let earlier = tree.plus tree.index (tree.literal (pos 1)) in
    let later = tree.minus tree.positions tree.index in
    let lack = tree.both (tree.lacks (tree.bits Down 1)) (tree.lacks (tree.bits Up 1)) in
    let enough = tree.both (tree.at_least (tree.card (library.with_value (tree.bits Down 0))) earlier) (tree.at_least (tree.card (library.with_value (tree.bits Up 0))) later) in
    let lack_is : cond_holds at lack ≡ (plain.lacks at.value 1 at.down && plain.lacks at.value 1 at.up)
    = node.cond_holds-both at (tree.lacks (tree.bits Down 1)) (tree.lacks (tree.bits Up 1)) ∙ ap₂ (λ x y. x && y) (lacks_is at Down 1) (lacks_is at Up 1) in
    let enough_is : cond_holds at enough ≡ (plain.has_many at.value at.down (plain.plus (pos at.position) (pos 1)) && plain.has_many at.value at.up (plain.minus (pos at.positions) (pos at.position)))
    = node.cond_holds-both at (tree.at_least (tree.card (library.with_value (tree.bits Down 0))) earlier) (tree.at_least (tree.card (library.with_value (tree.bits Up 0))) later)
    ∙ ap₂ (λ x y. x && y) (many_is at Down earlier (plain.plus (pos at.position) (pos 1)) (plus_is at tree.index (tree.literal (pos 1)) (pos at.position) (pos 1) (node.num_value-index at) (node.num_value-literal at (pos 1))))
    (many_is at Up later (plain.minus (pos at.positions) (pos at.position)) (minus_is at tree.positions tree.index (pos at.positions) (pos at.position) (node.num_value-positions at) (node.num_value-index at))) in
    node.cond_holds-both at lack enough ∙ ap₂ (λ x y. x && y) lack_is enough_is

pub alldifferent_is : (n : ℕ) → piece_of (library.alldifferent_bound n) ≡ plain.alldifferent_piece n
alldifferent_is n =
    let b = library.alldifferent_bound n in
    λ j. record {
      down_shape = SomeBits ∷ (AllBits ∷ []);
      up_shape = SomeBits ∷ (AllBits ∷ []);
      initial_down = Bits 0 ∷ (Bits 0 ∷ []);
      initial_up = Bits 0 ∷ (Bits 0 ∷ []);
      down = λ i v state. let at = down_setting b i v state in Bits (with_is at Down 0 j) ∷ (Bits (with_is at Down 1 j) ∷ []);
      up = λ i v state. let at = up_setting b i v state in Bits (with_is at Up 0 j) ∷ (Bits (with_is at Up 1 j) ∷ []);
      passes = λ i v best down up. differs_is (test_setting b i v down up best) j;
    }

-- parts of a group: as many properties as kinds
as_many : (properties : List PropDecl) → length properties ≡ length (map (λ (p : PropDecl). p.kind) properties)
as_many [] = refl
as_many (p ∷ properties) = ap (λ n. suc n) (as_many properties)

down_at_is : (part : Part) (place : Option ℕ) (v : ℕ) (state : List Prop) → down_at part place v state ≡ plain.step_at (piece_of part.bound).down place v state
down_at_is part None v state = refl
down_at_is part (Some i) v state = refl

up_at_is : (part : Part) (place : Option ℕ) (v : ℕ) (state : List Prop) → up_at part place v state ≡ plain.step_at (piece_of part.bound).up place v state
up_at_is part None v state = refl
up_at_is part (Some i) v state = refl

passes_at_is : (part : Part) (place : Option ℕ) (v : ℕ) (best : ℤ) (down up : List Prop) → part_passes_at part place v best down up ≡ plain.passes_at (piece_of part.bound).passes place v best down up
passes_at_is part None v best down up = refl
passes_at_is part (Some i) v best down up = refl

down_is : (parts : List Part) (x v : ℕ) (state : List Prop) → down_of parts x v state ≡ plain.down_all (map placed_of parts) x v state
down_is [] x v state = refl
down_is (part ∷ parts) x v state =
    let whole : ℕ → List Prop = λ n. plain.step_at (piece_of part.bound).down (place_in part.scope x) v (take n state) ++ plain.down_all (map placed_of parts) x v (drop n state) in
    let width = length part.bound.spec.down in
    ap₂ (λ s t. s ++ t) (down_at_is part (place_in part.scope x) v (take width state)) (down_is parts x v (drop width state)) ∙ ap whole (as_many part.bound.spec.down)

up_is : (parts : List Part) (x v : ℕ) (state : List Prop) → up_of parts x v state ≡ plain.up_all (map placed_of parts) x v state
up_is [] x v state = refl
up_is (part ∷ parts) x v state =
    let whole : ℕ → List Prop = λ n. plain.step_at (piece_of part.bound).up (place_in part.scope x) v (take n state) ++ plain.up_all (map placed_of parts) x v (drop n state) in
    let width = length part.bound.spec.up in
    ap₂ (λ s t. s ++ t) (up_at_is part (place_in part.scope x) v (take width state)) (up_is parts x v (drop width state)) ∙ ap whole (as_many part.bound.spec.up)

passes_is : (parts : List Part) (x v : ℕ) (best : ℤ) (down up : List Prop) → passes_of parts x v best down up ≡ plain.all_pass (map placed_of parts) x v best down up
passes_is [] x v best down up = refl
passes_is (part ∷ parts) x v best down up =
    let whole : ℕ → ℕ → Bool = λ m n. plain.passes_at (piece_of part.bound).passes (place_in part.scope x) v best (take m down) (take n up) && plain.all_pass (map placed_of parts) x v best (drop m down) (drop n up) in
    let m = length part.bound.spec.down in
    let n = length part.bound.spec.up in
    ap₂ (λ a b. a && b) (passes_at_is part (place_in part.scope x) v best (take m down) (take n up)) (passes_is parts x v best (drop m down) (drop n up))
    ∙ ap₂ whole (as_many part.bound.spec.down) (as_many part.bound.spec.up)

down_kinds_are : (parts : List Part) → down_shape_of parts ≡ plain.all_kinds (λ (p : Piece). p.down_shape) (map placed_of parts)
down_kinds_are [] = refl
down_kinds_are (part ∷ parts) = ap (λ s. down_shape part.bound.spec ++ s) (down_kinds_are parts)

up_kinds_are : (parts : List Part) → up_shape_of parts ≡ plain.all_kinds (λ (p : Piece). p.up_shape) (map placed_of parts)
up_kinds_are [] = refl
up_kinds_are (part ∷ parts) = ap (λ s. up_shape part.bound.spec ++ s) (up_kinds_are parts)

down_values_are : (parts : List Part) → initial_down_of parts ≡ plain.all_values (λ (p : Piece). p.initial_down) (map placed_of parts)
down_values_are [] = refl
down_values_are (part ∷ parts) = ap (λ s. initial_values part.bound.spec.down ++ s) (down_values_are parts)

up_values_are : (parts : List Part) → initial_up_of parts ≡ plain.all_values (λ (p : Piece). p.initial_up) (map placed_of parts)
up_values_are [] = refl
up_values_are (part ∷ parts) = ap (λ s. initial_values part.bound.spec.up ++ s) (up_values_are parts)

-- the transitions of a group are those of its parts' pieces side by side
pub transitions_are : (g : PlainGroup) → transitions_of g ≡ beside g.vars (map placed_of g.parts)
transitions_are g = λ j. record {
  down_shape = down_kinds_are g.parts j;
  up_shape = up_kinds_are g.parts j;
  initial_down = down_values_are g.parts j;
  initial_up = up_values_are g.parts j;
  down = λ layer v state. down_is g.parts (slice_index g.vars layer) v state j;
  up = λ layer v state. up_is g.parts (slice_index g.vars layer) v state j;
  passes = λ layer v best down up. passes_is g.parts (slice_index g.vars layer) v best down up j;
}
