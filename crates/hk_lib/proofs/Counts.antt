-- What `among` and the rows of `gcc` accept.
use Rattle.std.proofs.Common.{◌≡◌, ◌↔◌, ℕ, ℤ, pos, zero, suc, ◌+◌, ◌*◌, ◌/◌, ◌%◌, ◌^◌, ◌<◌, ◌≤◌, ◌==◌, if◌then◌else◌, bit_and, count_ones, slice_get, get_or, List, [], ◌∷◌, length, map, All, codes, inl, inr, arith, ap, ap₂, sym, refl, ◌∙◌, subst}
use Rattle.std.proofs.lemmas.Bool.Decides.{nat_tests, eqb_tells}
use Rattle.std.proofs.lemmas.Int.{ints}
use Rattle.std.proofs.lemmas.List.Elements.{All-map, All-cons}
use Rattle.std.proofs.lemmas.Nat.Bits.{bit_at-lt, bit_at-pow_same, bit_at-pow_other}
use Rattle.std.specs.Int.{bit_at}
use Rattle.hk_spec.proofs.CommonBits.{ones_of_common}
use Rattle.hk_spec.proofs.NodeValues.{num_value-card, num_value-number_param, set_value-common, set_value-one, set_value-set_param}
use Rattle.hk_spec.specs.Library.{counted, counting_params, among_bound, gcc_bound, gcc_bounds}
use Rattle.hk_spec.specs.Meanings.{AreAmong, EachOccurs, LiesFrom, count_in, occurrences}
use Rattle.hk_spec.specs.Runs.{Accepts, exact_down, exact_up}
use Rattle.hk_spec.specs.Settings.{number_of_argument, set_of_argument}
use Rattle.hk_spec.specs.Specifications.{BoundSpecification}
use Rattle.hk_spec.specs.Trees.{common, number_param, one, set_param}
use Rattle.hk_spec.specs.Values.{set_value}
use Rattle.hk_spec.specs.declared.arguments.Arg.{Arg}
use Rattle.hk_spec.specs.declared.arguments.Arg.TheVariants as argument
use Rattle.hk_lib.proofs.Totals.{IsOfWeights, IsSumming, total, accepts_total, down_is, up_is}
use Rattle.hk_lib.proofs.TotalSteps.{HasNumber, HasWeight, interval_state, interval_sums}

-- the weight of a value: 1 where the set has it, else 0
abbrev pub counts : ℕ → ℕ → ℕ → ℤ
counts set position value = pos (bit_at set value)

-- such a weight is at most 1
counts_are_weights : (set position value : ℕ) → value < 128 → IsOfWeights 1 (counts set position value)
counts_are_weights set position value small = record { least = omega (arith, ints, bit_at-lt set value); most = omega (arith, ints, bit_at-lt set value) }

-- the total of these weights is how many values the set has
pub total_is_count : (set position : ℕ) (values : List ℕ) → total (counts set) position values ≡ pos (count_in set values)
total_is_count set position [] = refl
total_is_count set position (value ∷ values) =
    let more = total_is_count set (position + 1) values in
    omega (arith, ints, more)

-- the arguments of `among`
abbrev counting_args : ℕ → ℤ → ℤ → List Arg
counting_args set least most = argument.Num least ∷ argument.Num most ∷ argument.Set set ∷ []

-- the expression that `among` adds is this weight
counted_is : (set : ℕ) (least most : ℤ) → HasWeight (counting_args set least most) counted (counts set)
counted_is set least most = λ at same small.
    let param : set_value at (set_param 2) ≡ set = set_value-set_param at 2 ∙ ap (λ args. set_of_argument (slice_get args 2)) same in
    let shared : set_value at (common one (set_param 2)) ≡ bit_and (2 ^ at.value) set = set_value-common at one (set_param 2) ∙ ap₂ bit_and (set_value-one at) param in
    num_value-card at (common one (set_param 2)) ∙ ap (λ n. pos n) (ap count_ones shared ∙ ones_of_common set at.value)

-- the two bounds are its first two arguments
least_is : (set : ℕ) (least most : ℤ) → HasNumber (counting_args set least most) (number_param 0) least
least_is set least most = λ at same. num_value-number_param at 0 ∙ ap (λ args. number_of_argument (slice_get args 0)) same

most_is : (set : ℕ) (least most : ℤ) → HasNumber (counting_args set least most) (number_param 1) most
most_is set least most = λ at same. num_value-number_param at 1 ∙ ap (λ args. number_of_argument (slice_get args 1)) same

-- `among` sums these weights
pub among_sums : (n set : ℕ) (least most best : ℤ) → IsSumming (among_bound n set least most) best (counts set) interval_state (LiesFrom least most)
among_sums n set least most best = interval_sums (codes "among") counting_params (codes "c") (codes "u") counted (number_param 0) (number_param 1) (counting_args set least most) n least most best (counts set) (counts_are_weights set) (counted_is set least most) (least_is set least most) (most_is set least most)

-- its states are the counts of the earlier and of the later values
pub among_down : (n set : ℕ) (least most : ℤ) (values : List ℕ) → length values ≤ 256 → All (λ value. value < 128) values → exact_down (among_bound n set least most) values ≡ interval_state (pos (count_in set values))
among_down n set least most values few small = down_is (among_sums n set least most (pos 0)) values few small ∙ ap interval_state (total_is_count set 0 values)

pub among_up : (n set : ℕ) (least most : ℤ) (position : ℕ) (values : List ℕ) → length values ≤ 256 → All (λ value. value < 128) values → exact_up (among_bound n set least most) position values ≡ interval_state (pos (count_in set values))
among_up n set least most position values few small = up_is (among_sums n set least most (pos 0)) position values few small ∙ ap interval_state (total_is_count set position values)

-- `among` accepts the lists of which so many values are in the set
pub among_by_count : (n set : ℕ) (least most best : ℤ) (values : List ℕ) → 0 < length values → length values ≤ 256 → All (λ value. value < 128) values → Accepts (among_bound n set least most) best values ↔ AreAmong set least most values
among_by_count n set least most best values some few small =
    let whole = accepts_total (among_sums n set least most best) values some few small in
    let same = total_is_count set 0 values in
    (λ run. subst (LiesFrom least most) same (whole.0 run), λ among. whole.1 (subst (LiesFrom least most) (sym same) among))

-- the set of one value has that value alone
bit_of_one : (v w : ℕ) → bit_at (2 ^ v) w ≡ (if v == w then 1 else 0)
bit_of_one v w = elim (eqb_tells v w) [
  | inl h ↦ grind (arith, nat_tests, bit_at-pow_same v)
  | inr h ↦ grind (arith, nat_tests, bit_at-pow_other v w (λ same. h.1 (sym same)))
]

-- how many values are in the set of one value is how often that value occurs
pub count_is_occurrences : (v : ℕ) (values : List ℕ) → count_in (2 ^ v) values ≡ occurrences v values
count_is_occurrences v [] = refl
count_is_occurrences v (value ∷ values) = ap₂ (λ m n. m + n) (bit_of_one v value) (count_is_occurrences v values)

-- a row of `gcc` accepts the lists in which its value occurs so often
row_by_occurrences : (n : ℕ) (row : ℕ × ℤ × ℤ) (best : ℤ) (values : List ℕ) → 0 < length values → length values ≤ 256 → All (λ value. value < 128) values → Accepts (gcc_bound n row) best values ↔ LiesFrom row.1 row.2 (pos (occurrences row.0 values))
row_by_occurrences n row best values some few small =
    let among = among_by_count n (2 ^ row.0) row.1 row.2 best values some few small in
    let same = count_is_occurrences row.0 values in (
      λ run. subst (λ count. LiesFrom row.1 row.2 (pos count)) same (among.0 run),
      λ lies. among.1 (subst (λ count. LiesFrom row.1 row.2 (pos count)) (sym same) lies),
    )

-- what holds of each image holds of each element by its image
from_images : {X Y : Type 0} (P : Y → Type 0) (f : X → Y) (xs : List X) → All P (map f xs) → All (λ x. P (f x)) xs
from_images P f [] h = λ k d below. absurd (omega arith)
from_images P f (x ∷ xs) h = All-cons (λ y. P (f y)) x xs (h 0 (f x) (omega arith)) (from_images P f xs (λ k d below. h (suc k) d (omega arith)))

-- the rows of `gcc` all accept the lists in which each row's value occurs so often
pub gcc_by_occurrences : (n : ℕ) (rows : List (ℕ × ℤ × ℤ)) (best : ℤ) (values : List ℕ) → 0 < length values → length values ≤ 256 → All (λ value. value < 128) values → All (λ bound. Accepts bound best values) (gcc_bounds n rows) ↔ EachOccurs rows values
gcc_by_occurrences n rows best values some few small =
    let each = λ (row : ℕ × ℤ × ℤ). row_by_occurrences n row best values some few small in (
      λ accepted k d below. (each (get_or rows k d)).0 (from_images (λ (bound : BoundSpecification). Accepts bound best values) (gcc_bound n) rows accepted k d below),
      λ occurs. All-map (λ (bound : BoundSpecification). Accepts bound best values) (gcc_bound n) rows (λ k d below. (each (get_or rows k d)).1 (occurs k d below)),
    )
