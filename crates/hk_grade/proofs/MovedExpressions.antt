-- An expression moves in its sense.
use Rattle.std.proofs.Common.{ℕ, ℤ, pos, Bool, None, List, ◌&&◌, ◌||◌, not, ◌==◌, ◌≤ℤ◌, ◌+ℤ◌, ◌-ℤ◌, neg_ℤ, int_le, int_lt, int_eq, bit_and, bit_or, count_ones, slice_get, subst}
use Rattle.std.specs.Int.{bit_at, int_max, int_min}
use Rattle.hk_kinds.specs.Limits.{clamped}
use Rattle.hk_kinds.specs.Sets.{IsSubset}
use Rattle.hk_kinds.specs.declared.properties.Prop.{Prop}
use Rattle.hk_spec.specs.Grades.{Kinds, kind_at, NumReading, set_sense, set_sense_step, num_reading, num_reading_step, cond_sense, cond_sense_step}
use Rattle.hk_spec.specs.Settings.{Setting, state_of}
use Rattle.hk_spec.specs.Values.{set_without, num_value, num_step, set_value, set_step, cond_holds, cond_step}
use Rattle.hk_spec.specs.declared.expressions.Side.{Side}
use Rattle.hk_spec.specs.declared.expressions.Side.TheVariants.{Down, Up}
use Rattle.hk_spec.specs.declared.expressions.NumExpr.{NumExpr}
use Rattle.hk_spec.specs.declared.expressions.NumExpr.TheOpen.{NumExpr-F}
use Rattle.hk_spec.specs.declared.expressions.NumExpr.TheViews.{roll-NumExpr}
use Rattle.hk_spec.specs.declared.expressions.NumExpr.TheFolds.{ind-NumExpr, fold-roll-NumExpr, map-NumExpr}
use Rattle.hk_spec.specs.declared.expressions.SetExpr.{SetExpr}
use Rattle.hk_spec.specs.declared.expressions.SetExpr.TheOpen.{SetExpr-F}
use Rattle.hk_spec.specs.declared.expressions.SetExpr.TheViews.{roll-SetExpr}
use Rattle.hk_spec.specs.declared.expressions.SetExpr.TheFolds.{ind-SetExpr, fold-roll-SetExpr, map-SetExpr}
use Rattle.hk_spec.specs.declared.expressions.Cond.{Cond}
use Rattle.hk_spec.specs.declared.expressions.Cond.TheOpen.{Cond-F}
use Rattle.hk_spec.specs.declared.expressions.Cond.TheViews.{roll-Cond}
use Rattle.hk_spec.specs.declared.expressions.Cond.TheFolds.{ind-Cond, fold-roll-Cond, map-Cond}
use Rattle.hk_spec.specs.declared.senses.Sense.{Sense}
use Rattle.hk_grade.proofs.Moves.{stays, turned_moves, one_moves, turning_moves, two_move, two_stay, along}
use Rattle.hk_grade.proofs.MovedProperties.{PropertyMoves, StateMoves}
use Rattle.hk_grade.proofs.Movements.{NumMoves, SetMoves, TruthMoves, Implies, IsLiteral, no_literal, is_literal, same_number, same_set, same_truth, sum_keeps, difference_keeps, least_keeps, most_keeps, negative_keeps, products_move, union_keeps, common_keeps, without_keeps, card_keeps, at_most_keeps, below_keeps, at_least_keeps, above_keeps, has_keeps, not_keeps, subset_keeps, both_keep, either_keeps}

-- a number moves in the sense that was read of its expression, and stays the literal that was read
pub record NumFollows (reading : NumReading) (n m : ℤ) : Type 0 where
  pub moves : NumMoves reading.sense n m
  pub literal : IsLiteral reading.literal n m

-- an expression that is no literal
moving : {sense : Sense} {n m : ℤ} → NumMoves sense n m → NumFollows (record { literal = None; sense = sense }) n m
moving h = record { moves = h; literal = no_literal }

-- the setting with other states
abbrev pub widened : Setting → List Prop → List Prop → Setting
widened at down up = record at { down = down; up = up }

module _ (of : Kinds) (at : Setting) (down up : List Prop) (down_moves : StateMoves of.down at.down down) (up_moves : StateMoves of.up at.up up) where
  property : (side : Side) (place : ℕ) → PropertyMoves (kind_at of side place) (slice_get (state_of at side) place) (slice_get (state_of (widened at down up) side) place)
  property Down place = down_moves place
  property Up place = up_moves place

  -- a set expression moves in its sense, where the states give way to wider ones
  abbrev MovesSet : SetExpr → Type 0
  MovesSet e = SetMoves (set_sense of e) (set_value at e) (set_value (widened at down up) e)

  -- the same of an expression that is rolled of this layer
  abbrev MovesSetLayer : SetExpr-F SetExpr → Type 0
  MovesSetLayer e = SetMoves (set_sense_step of (map-SetExpr SetExpr Sense (set_sense of) e)) (set_step at (map-SetExpr SetExpr ℕ (set_value at) e)) (set_step (widened at down up) (map-SetExpr SetExpr ℕ (set_value (widened at down up)) e))

  set_layer : {X : Type 0} (tree : X → SetExpr) → ((x : X) → MovesSet (tree x)) → (y : SetExpr-F X) → MovesSetLayer (map-SetExpr X SetExpr tree y)
  set_layer tree moves (SetExpr-F.Lit set) = stays
  set_layer tree moves SetExpr-F.One = stays
  set_layer tree moves (SetExpr-F.Param place) = stays
  set_layer tree moves (SetExpr-F.Bits side place) = (property side place).set
  set_layer tree moves (SetExpr-F.Union a b) = two_move IsSubset same_set same_set bit_or union_keeps (moves a) (moves b)
  set_layer tree moves (SetExpr-F.Common a b) = two_move IsSubset same_set same_set bit_and common_keeps (moves a) (moves b)
  set_layer tree moves (SetExpr-F.Without a b) = two_move IsSubset same_set same_set set_without without_keeps (moves a) (turned_moves (moves b))

  set_rolled : (x : SetExpr-F SetExpr) → MovesSetLayer x → MovesSet (roll-SetExpr x)
  set_rolled x layer = along SetMoves (fold-roll-SetExpr Sense (set_sense_step of) x) (fold-roll-SetExpr ℕ (set_step at) x) (fold-roll-SetExpr ℕ (set_step (widened at down up)) x) layer

  pub set_moves : (e : SetExpr) → MovesSet e
  set_moves = ind-SetExpr MovesSet (λ x y same. set_rolled x (subst MovesSetLayer same (set_layer (λ s. s.0) (λ s. s.1) y)))

  -- a number expression moves in its sense, and a literal stays
  abbrev MovesNum : NumExpr → Type 0
  MovesNum e = NumFollows (num_reading of e) (num_value at e) (num_value (widened at down up) e)

  -- the same of an expression that is rolled of this layer
  abbrev MovesNumLayer : NumExpr-F NumExpr → Type 0
  MovesNumLayer e = NumFollows (num_reading_step of (map-NumExpr NumExpr NumReading (num_reading of) e)) (num_step at (map-NumExpr NumExpr ℤ (num_value at) e)) (num_step (widened at down up) (map-NumExpr NumExpr ℤ (num_value (widened at down up)) e))

  num_layer : {X : Type 0} (tree : X → NumExpr) → ((x : X) → MovesNum (tree x)) → (y : NumExpr-F X) → MovesNumLayer (map-NumExpr X NumExpr tree y)
  num_layer tree known (NumExpr-F.Lit n) = record { moves = stays; literal = is_literal }
  num_layer tree known NumExpr-F.Value = moving stays
  num_layer tree known NumExpr-F.Index = moving stays
  num_layer tree known NumExpr-F.Length = moving stays
  num_layer tree known NumExpr-F.Best = moving stays
  num_layer tree known (NumExpr-F.Param place) = moving stays
  num_layer tree known (NumExpr-F.Item place) = moving stays
  num_layer tree known (NumExpr-F.Number side place) = moving (property side place).number
  num_layer tree known (NumExpr-F.Low side place) = moving (property side place).low
  num_layer tree known (NumExpr-F.High side place) = moving (property side place).high
  num_layer tree known (NumExpr-F.Card set) = moving (one_moves ◌≤ℤ◌ (λ s. pos (count_ones s)) card_keeps (set_moves set))
  num_layer tree known (NumExpr-F.Add a b) = moving (two_move ◌≤ℤ◌ same_number same_number (λ m n. clamped (m +ℤ n)) sum_keeps (known a).moves (known b).moves)
  num_layer tree known (NumExpr-F.Least a b) = moving (two_move ◌≤ℤ◌ same_number same_number (λ m n. clamped (int_min m n)) least_keeps (known a).moves (known b).moves)
  num_layer tree known (NumExpr-F.Most a b) = moving (two_move ◌≤ℤ◌ same_number same_number (λ m n. clamped (int_max m n)) most_keeps (known a).moves (known b).moves)
  num_layer tree known (NumExpr-F.Minus a b) = moving (two_move ◌≤ℤ◌ same_number same_number (λ m n. clamped (m -ℤ n)) difference_keeps (known a).moves (turned_moves (known b).moves))
  num_layer tree known (NumExpr-F.Negative a) = moving (turning_moves ◌≤ℤ◌ (λ n. clamped (neg_ℤ n)) negative_keeps (known a).moves)
  num_layer tree known (NumExpr-F.Times a b) = moving (products_move (known a).literal (known b).literal (known a).moves (known b).moves)

  num_rolled : (x : NumExpr-F NumExpr) → MovesNumLayer x → MovesNum (roll-NumExpr x)
  num_rolled x layer = along NumFollows (fold-roll-NumExpr NumReading (num_reading_step of) x) (fold-roll-NumExpr ℤ (num_step at) x) (fold-roll-NumExpr ℤ (num_step (widened at down up)) x) layer

  num_follows : (e : NumExpr) → MovesNum e
  num_follows = ind-NumExpr MovesNum (λ x y same. num_rolled x (subst MovesNumLayer same (num_layer (λ s. s.0) (λ s. s.1) y)))

  pub num_moves : (e : NumExpr) → NumMoves (num_reading of e).sense (num_value at e) (num_value (widened at down up) e)
  num_moves e = (num_follows e).moves

  has_moves : (set : SetExpr) → TruthMoves (set_sense of set) (bit_at (set_value at set) at.value == 1) (bit_at (set_value (widened at down up) set) at.value == 1)
  has_moves set = one_moves Implies (λ s. bit_at s at.value == 1) (has_keeps at.value) (set_moves set)

  -- a condition moves in its sense
  abbrev MovesCond : Cond → Type 0
  MovesCond p = TruthMoves (cond_sense of p) (cond_holds at p) (cond_holds (widened at down up) p)

  -- the same of a condition that is rolled of this layer
  abbrev MovesCondLayer : Cond-F Cond → Type 0
  MovesCondLayer p = TruthMoves (cond_sense_step of (map-Cond Cond Sense (cond_sense of) p)) (cond_step at (map-Cond Cond Bool (cond_holds at) p)) (cond_step (widened at down up) (map-Cond Cond Bool (cond_holds (widened at down up)) p))

  cond_layer : {X : Type 0} (tree : X → Cond) → ((x : X) → MovesCond (tree x)) → (y : Cond-F X) → MovesCondLayer (map-Cond X Cond tree y)
  cond_layer tree moves Cond-F.Always = stays
  cond_layer tree moves Cond-F.Never = stays
  cond_layer tree moves (Cond-F.AtMost a b) = two_move Implies same_number same_number int_le at_most_keeps (turned_moves (num_moves a)) (num_moves b)
  cond_layer tree moves (Cond-F.Below a b) = two_move Implies same_number same_number int_lt below_keeps (turned_moves (num_moves a)) (num_moves b)
  cond_layer tree moves (Cond-F.AtLeast a b) = two_move Implies same_number same_number (λ m n. int_le n m) at_least_keeps (num_moves a) (turned_moves (num_moves b))
  cond_layer tree moves (Cond-F.Above a b) = two_move Implies same_number same_number (λ m n. int_lt n m) above_keeps (num_moves a) (turned_moves (num_moves b))
  cond_layer tree moves (Cond-F.Equal a b) = two_stay Implies int_eq (num_moves a) (num_moves b)
  cond_layer tree moves (Cond-F.Has set) = has_moves set
  cond_layer tree moves (Cond-F.Lacks set) = turning_moves Implies not not_keeps (has_moves set)
  cond_layer tree moves (Cond-F.Subset a b) = two_move Implies same_set same_set (λ s t. bit_and s t == s) subset_keeps (turned_moves (set_moves a)) (set_moves b)
  cond_layer tree moves (Cond-F.Both p q) = two_move Implies same_truth same_truth ◌&&◌ both_keep (moves p) (moves q)
  cond_layer tree moves (Cond-F.Either p q) = two_move Implies same_truth same_truth ◌||◌ either_keeps (moves p) (moves q)
  cond_layer tree moves (Cond-F.Not p) = turning_moves Implies not not_keeps (moves p)

  cond_rolled : (x : Cond-F Cond) → MovesCondLayer x → MovesCond (roll-Cond x)
  cond_rolled x layer = along TruthMoves (fold-roll-Cond Sense (cond_sense_step of) x) (fold-roll-Cond Bool (cond_step at) x) (fold-roll-Cond Bool (cond_step (widened at down up)) x) layer

  pub cond_moves : (p : Cond) → MovesCond p
  cond_moves = ind-Cond MovesCond (λ x y same. cond_rolled x (subst MovesCondLayer same (cond_layer (λ s. s.0) (λ s. s.1) y)))
