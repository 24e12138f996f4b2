-- How much the number of the highest level rises.
use Rattle.std.proofs.Common.{◌≡◌, ℕ, ◌+◌, ◌≤◌, List, [], ◌∷◌, refl, ◌∙◌, ap, arith}
use Rattle.hk_trail.specs.Places.{on_highest}
use Rattle.hk_arena.specs.Numbers.{IsRaised}

-- one change of the highest number after another is their sum
highest_more : (more most : ℕ) (numbers : List ℕ) → on_highest (λ number. number + most) (on_highest (λ number. number + more) numbers) ≡ on_highest (λ number. number + (more + most)) numbers
highest_more more most [] = refl
highest_more more most (number ∷ below) = ap (λ n. n ∷ below) (omega arith)

highest_none : (numbers : List ℕ) → numbers ≡ on_highest (λ number. number + 0) numbers
highest_none [] = refl
highest_none (number ∷ below) = ap (λ n. n ∷ below) (omega arith)

pub IsRaised-none : (numbers : List ℕ) → IsRaised 0 numbers numbers
IsRaised-none numbers = record { more = 0; few = omega arith; numbers = highest_none numbers }

pub IsRaised-more : (one other : ℕ) (old middle new : List ℕ) → IsRaised one old middle → IsRaised other middle new → IsRaised (one + other) old new
IsRaised-more one other old middle new first second = record {
  more = first.more + second.more;
  few = omega (arith, first.few, second.few);
  numbers = second.numbers ∙ ap (on_highest (λ number. number + second.more)) first.numbers ∙ highest_more first.more second.more old;
}

pub IsRaised-within : (few most : ℕ) (old new : List ℕ) → few ≤ most → IsRaised few old new → IsRaised most old new
IsRaised-within few most old new within raised = record { more = raised.more; few = omega (arith, raised.few); numbers = raised.numbers }
