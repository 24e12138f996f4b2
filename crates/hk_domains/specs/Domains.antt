-- What contracts see of the domains of all variables.
use Rattle.std.specs.Prelude.{◌≡◌, ℕ, ◌<◌, ◌^◌, List, length, All}
use Rattle.hk_trail.specs.Levels.{Levels}

-- the domains: the set of each variable, and the sets at each open push, the latest first
pub record DomainLevels : Type 0 where
  pub sets : List ℕ
  pub stack : List (List ℕ)

-- each number of a list stands for a set of values from 0 to 127
abbrev pub AreSets : List ℕ → Type 0
AreSets sets = All (λ set. set < 2 ^ 128) sets

-- the cells of a store are the sets of this many variables, and what each open push saved are sets
pub record HoldsSets (count : ℕ) (levels : Levels) : Type 0 where
  pub size : length levels.content.bits ≡ count
  pub sets : AreSets levels.content.bits
  pub saved : All (λ content. AreSets content.bits) levels.stack
