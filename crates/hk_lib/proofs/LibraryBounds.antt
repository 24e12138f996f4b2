-- The library's specifications with arguments within the limits keep the rules of specifications with arguments.
use Rattle.std.proofs.Common.{◌≡◌, ℕ, ℤ, ◌<◌, ◌≤◌, ◌^◌, List, length, All, arith, refl, sym, subst, ap, ap₂, ◌∙◌, w64, to_z, of_z}
use Rattle.std.proofs.Math.Pow.{pow-lt}
use Rattle.std.proofs.lemmas.Int.{ints, to_z-of_z}
use Rattle.hk_kinds.specs.Limits.{IsWithinLimit}
use Rattle.hk_kinds.specs.Sets.{IsSet}
use Rattle.hk_spec.specs.Arguments.{IsCoefficient, is_number, is_set, is_list, no_arguments, more_arguments}
use Rattle.hk_spec.specs.Library.{alldifferent_bound, among_bound, gcc_bound, sequence_bound, sum_bound, objective_bound}
use Rattle.hk_spec.specs.Specifications.{IsBound}
use Rattle.hk_lib.proofs.LibraryRules.{alldifferent_rules, among_rules, sum_rules, objective_rules}
use Rattle.hk_lib.proofs.WindowRules.{sequence_rules}

-- a number within the limit is within it as a word of 64 bits
in_word : (n : ℤ) → IsWithinLimit n → to_z w64 (of_z w64 n) ≡ n
in_word n small = to_z-of_z w64 n (omega (arith, ints))

pub word_within : (n : ℤ) → IsWithinLimit n → IsWithinLimit (to_z w64 (of_z w64 n))
word_within n small = subst IsWithinLimit (sym (in_word n small)) small

-- the bound specification of a row of `gcc`, with its numbers as words
pub row_bound : (n set : ℕ) (row : ℕ × ℤ × ℤ) → set ≡ 2 ^ row.0 → IsWithinLimit row.1 → IsWithinLimit row.2 → among_bound n set (to_z w64 (of_z w64 row.1)) (to_z w64 (of_z w64 row.2)) ≡ gcc_bound n row
row_bound n set row is least most = ap (λ s. among_bound n s (to_z w64 (of_z w64 row.1)) (to_z w64 (of_z w64 row.2))) is ∙ ap₂ (λ l m. among_bound n (2 ^ row.0) l m) (in_word row.1 least) (in_word row.2 most)

pub alldifferent_fits : (n : ℕ) → n < 65536 → IsBound (alldifferent_bound n)
alldifferent_fits n few = record { few = few; rules = alldifferent_rules; arguments = no_arguments }

pub among_fits : (n set : ℕ) (least most : ℤ) → n < 65536 → IsSet set → IsWithinLimit least → IsWithinLimit most → IsBound (among_bound n set least most)
among_fits n set least most few small l m = record { few = few; rules = among_rules; arguments = more_arguments (is_number l) (more_arguments (is_number m) (more_arguments (is_set small) no_arguments)) }

pub gcc_fits : (n : ℕ) (row : ℕ × ℤ × ℤ) → n < 65536 → row.0 < 128 → IsWithinLimit row.1 → IsWithinLimit row.2 → IsBound (gcc_bound n row)
gcc_fits n row few small l m = among_fits n (2 ^ row.0) row.1 row.2 few (pow-lt small) l m

pub sequence_fits : (n window set : ℕ) (least most : ℤ) → n < 65536 → 1 ≤ window → window ≤ 32 → IsSet set → IsWithinLimit least → IsWithinLimit most → IsBound (sequence_bound n window set least most)
sequence_fits n window set least most few some short small l m = record { few = few; rules = sequence_rules window some short; arguments = more_arguments (is_number l) (more_arguments (is_number m) (more_arguments (is_set small) no_arguments)) }

pub sum_fits : (coefs : List ℤ) (least most : ℤ) → length coefs < 65536 → All IsCoefficient coefs → IsWithinLimit least → IsWithinLimit most → IsBound (sum_bound coefs least most)
sum_fits coefs least most few small l m = record { few = few; rules = sum_rules; arguments = more_arguments (is_list refl small) (more_arguments (is_number l) (more_arguments (is_number m) no_arguments)) }

pub objective_fits : (coefs : List ℤ) → length coefs < 65536 → All IsCoefficient coefs → IsBound (objective_bound coefs)
objective_fits coefs few small = record { few = few; rules = objective_rules; arguments = more_arguments (is_list refl small) no_arguments }
