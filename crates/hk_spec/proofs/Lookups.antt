-- What stands at a place of a state or of arguments, where its kind is known.
use Rattle.std.proofs.Common.{ℕ, ℤ, pos, List, [], ◌∷◌, zero, suc, arith, slice_get, unwrap_or, ◌<◌, All}
use Rattle.std.proofs.lemmas.Int.{ints, clamps}
use Rattle.hk_kinds.specs.Limits.{IsWithinLimit, clamped}
use Rattle.hk_kinds.specs.Sets.{IsSet}
use Rattle.hk_kinds.specs.Shapes.{HasShape, is_min, is_max, is_interval, is_some, is_all, no_kinds, one_more}
use Rattle.hk_kinds.specs.Views.{number_of_property, low_of_property, high_of_property, set_of_property}
use Rattle.hk_kinds.specs.declared.kinds.Kind.{Kind}
use Rattle.hk_kinds.specs.declared.properties.Prop.{Prop}
use Rattle.hk_spec.specs.Arguments.{AreArguments, IsCoefficient, is_number, is_set, is_list, no_arguments, more_arguments}
use Rattle.hk_spec.specs.Settings.{number_of_argument, item_of_argument, set_of_argument}
use Rattle.hk_spec.specs.declared.arguments.Arg.{Arg}
use Rattle.hk_spec.specs.declared.parts.ParamKind.{ParamKind}

pub small_within : (n : ℕ) → n < 65536 → IsWithinLimit (pos n)
small_within n h = record { least = omega (arith, ints); most = omega (arith, ints) }

pub clamped_within : (n : ℤ) → IsWithinLimit (clamped n)
clamped_within n = record { least = omega (arith, ints, clamps); most = omega (arith, ints, clamps) }

zero_within : IsWithinLimit (pos 0)
zero_within = small_within 0 (omega arith)

coefficient_within : (n : ℤ) → IsCoefficient n → IsWithinLimit n
coefficient_within n h = record { least = omega (arith, ints); most = omega (arith, ints) }

pub number_within : {kinds : List Kind} {state : List Prop} → HasShape kinds state → (place : ℕ) → IsWithinLimit (number_of_property (slice_get state place))
number_within no_kinds place = zero_within
number_within (one_more (is_min n) _) zero = n
number_within (one_more (is_max n) _) zero = n
number_within (one_more (is_interval _ _) _) zero = zero_within
number_within (one_more (is_some _) _) zero = zero_within
number_within (one_more (is_all _) _) zero = zero_within
number_within (one_more _ more) (suc place) = number_within more place

pub low_within : {kinds : List Kind} {state : List Prop} → HasShape kinds state → (place : ℕ) → IsWithinLimit (low_of_property (slice_get state place))
low_within no_kinds place = zero_within
low_within (one_more (is_min _) _) zero = zero_within
low_within (one_more (is_max _) _) zero = zero_within
low_within (one_more (is_interval low _) _) zero = low
low_within (one_more (is_some _) _) zero = zero_within
low_within (one_more (is_all _) _) zero = zero_within
low_within (one_more _ more) (suc place) = low_within more place

pub high_within : {kinds : List Kind} {state : List Prop} → HasShape kinds state → (place : ℕ) → IsWithinLimit (high_of_property (slice_get state place))
high_within no_kinds place = zero_within
high_within (one_more (is_min _) _) zero = zero_within
high_within (one_more (is_max _) _) zero = zero_within
high_within (one_more (is_interval _ high) _) zero = high
high_within (one_more (is_some _) _) zero = zero_within
high_within (one_more (is_all _) _) zero = zero_within
high_within (one_more _ more) (suc place) = high_within more place

empty_set : IsSet 0
empty_set = omega arith

pub set_within : {kinds : List Kind} {state : List Prop} → HasShape kinds state → (place : ℕ) → IsSet (set_of_property (slice_get state place))
set_within no_kinds place = empty_set
set_within (one_more (is_min _) _) zero = empty_set
set_within (one_more (is_max _) _) zero = empty_set
set_within (one_more (is_interval _ _) _) zero = empty_set
set_within (one_more (is_some set) _) zero = set
set_within (one_more (is_all set) _) zero = set
set_within (one_more _ more) (suc place) = set_within more place

pub argument_within : {positions : ℕ} {params : List ParamKind} {args : List Arg} → AreArguments positions params args → (place : ℕ) → IsWithinLimit (number_of_argument (slice_get args place))
argument_within no_arguments place = zero_within
argument_within (more_arguments (is_number n) _) zero = n
argument_within (more_arguments (is_set _) _) zero = zero_within
argument_within (more_arguments (is_list _ _) _) zero = zero_within
argument_within (more_arguments _ more) (suc place) = argument_within more place

listed_within : (numbers : List ℤ) (position : ℕ) → All IsCoefficient numbers → IsWithinLimit (unwrap_or (slice_get numbers position) (pos 0))
listed_within [] position h = zero_within
listed_within (n ∷ numbers) zero h = coefficient_within n (h 0 n (omega arith))
listed_within (n ∷ numbers) (suc position) h = listed_within numbers position (λ k d below. h (suc k) d (omega arith))

pub item_within : {positions : ℕ} {params : List ParamKind} {args : List Arg} → AreArguments positions params args → (place position : ℕ) → IsWithinLimit (item_of_argument (slice_get args place) position)
item_within no_arguments place position = zero_within
item_within (more_arguments (is_number _) _) zero position = zero_within
item_within (more_arguments (is_set _) _) zero position = zero_within
item_within (more_arguments (is_list {numbers = numbers} _ coefficients) _) zero position = listed_within numbers position coefficients
item_within (more_arguments _ more) (suc place) position = item_within more place position

pub set_argument_within : {positions : ℕ} {params : List ParamKind} {args : List Arg} → AreArguments positions params args → (place : ℕ) → IsSet (set_of_argument (slice_get args place))
set_argument_within no_arguments place = empty_set
set_argument_within (more_arguments (is_number _) _) zero = empty_set
set_argument_within (more_arguments (is_set set) _) zero = set
set_argument_within (more_arguments (is_list _ _) _) zero = empty_set
set_argument_within (more_arguments _ more) (suc place) = set_argument_within more place
