-- How the properties of a state move where the state gives way to one that covers it.
use Rattle.std.proofs.Common.{ℕ, pos, zero, suc, Option, None, Some, List, ◌≤ℤ◌, slice_get}
use Rattle.hk_kinds.specs.Covers.{PropertyCovers, covers_min, covers_max, covers_interval, covers_some, covers_all, StateCovers, covers_none, covers_more}
use Rattle.hk_kinds.specs.Sets.{IsSubset}
use Rattle.hk_kinds.specs.Views.{number_of_property, low_of_property, high_of_property, set_of_property}
use Rattle.hk_kinds.specs.declared.kinds.Kind.{Kind}
use Rattle.hk_kinds.specs.declared.properties.Prop.{Prop}
use Rattle.hk_spec.specs.Grades.{number_sense, bits_sense}
use Rattle.hk_spec.specs.declared.senses.Sense.TheVariants.{Rises, Falls}
use Rattle.hk_grade.proofs.Moves.{itself_moves, stays, rises, falls}
use Rattle.hk_grade.proofs.Movements.{NumMoves, SetMoves, same_number, same_set}

-- what is read of a property of this kind moves in the kind's senses where the property gives way to the wider one
pub record PropertyMoves (kind : Option Kind) (property wider : Option Prop) : Type 0 where
  pub number : NumMoves (number_sense kind) (number_of_property property) (number_of_property wider)
  pub low : NumMoves Falls (low_of_property property) (low_of_property wider)
  pub high : NumMoves Rises (high_of_property property) (high_of_property wider)
  pub set : SetMoves (bits_sense kind) (set_of_property property) (set_of_property wider)

-- so does each property of a state
abbrev pub StateMoves : List Kind → List Prop → List Prop → Type 0
StateMoves kinds state wider = (place : ℕ) → PropertyMoves (slice_get kinds place) (slice_get state place) (slice_get wider place)

-- a property that stays, or that isn't there
pub same_moves : (kind : Option Kind) (property : Option Prop) → PropertyMoves kind property property
same_moves kind property = record {
  number = itself_moves ◌≤ℤ◌ same_number (number_sense kind) (number_of_property property);
  low = falls (same_number (low_of_property property));
  high = rises (same_number (high_of_property property));
  set = itself_moves IsSubset same_set (bits_sense kind) (set_of_property property);
}

low_zero : NumMoves Falls (pos 0) (pos 0)
low_zero = falls (same_number (pos 0))

high_zero : NumMoves Rises (pos 0) (pos 0)
high_zero = rises (same_number (pos 0))

-- a property moves in the senses of its kind where one that covers it takes its place
property_moves : {kind : Kind} {wider property : Prop} → PropertyCovers kind wider property → PropertyMoves (Some kind) (Some property) (Some wider)
property_moves (covers_min h) = record { number = falls h; low = low_zero; high = high_zero; set = stays }
property_moves (covers_max h) = record { number = rises h; low = low_zero; high = high_zero; set = stays }
property_moves (covers_interval h k) = record { number = stays; low = falls h; high = rises k; set = stays }
property_moves (covers_some h) = record { number = stays; low = low_zero; high = high_zero; set = rises h }
property_moves (covers_all h) = record { number = stays; low = low_zero; high = high_zero; set = falls h }

-- so does a state, property by property
pub state_moves : {kinds : List Kind} {wider state : List Prop} → StateCovers kinds wider state → StateMoves kinds state wider
state_moves covers_none place = same_moves None None
state_moves (covers_more h more) zero = property_moves h
state_moves (covers_more h more) (suc place) = state_moves more place
