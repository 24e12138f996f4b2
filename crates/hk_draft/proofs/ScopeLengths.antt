-- How many variables a scope has.
use Rattle.std.proofs.Common.{ℕ, ◌<◌, ◌≤◌, List, [], ◌∷◌, length, arith}
use Rattle.std.specs.Prelude.{All}
use Rattle.std.specs.List.Sorted.{IsStrictlyIncreasing}
use Rattle.hk_group.proofs.SumSizes.{scope_short}

-- places that rise are no more than there are variables
pub rising_short : (variables : ℕ) (scope : List ℕ) → IsStrictlyIncreasing scope → All (λ place. place < variables) scope → length scope ≤ variables
rising_short variables [] rising declared = omega arith
rising_short variables (first ∷ more) rising declared = scope_short variables (first ∷ more) (record { some = omega arith; rising = rising; declared = declared })
