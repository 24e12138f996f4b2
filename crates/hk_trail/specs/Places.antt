-- The cells that a level wrote, by their places.
use Rattle.std.specs.Prelude.{ℕ, ◌+◌, Bool, List, [], ◌∷◌, length, nat_eq, if◌then◌else◌}
use Rattle.std.specs.List.{list_any, IsDistinct}
use Rattle.hk_trail.specs.Pools.{Pools}

-- whether a place is in a list
abbrev pub has_place : List ℕ → ℕ → Bool
has_place places place = list_any (nat_eq place) places

-- a list of places with one more, in front, unless the list has it
abbrev pub with_place : ℕ → List ℕ → List ℕ
with_place place places = if has_place places place then places else place ∷ places

-- the cells of the three pools that were written, by their places
abbrev pub Places : Type 0
Places = Pools (List ℕ) (List ℕ) (List ℕ)

-- how many cells those are
abbrev pub cell_count : Places → ℕ
cell_count places = length places.nums + length places.bits + length places.words

-- no cells
abbrev pub no_places : Places
no_places = record { nums = []; bits = []; words = [] }

-- such cells, with one of `i64` more
abbrev pub with_num : ℕ → Places → Places
with_num place places = record places { nums = with_place place places.nums }

-- such cells, with one of `u128` more
abbrev pub with_bits : ℕ → Places → Places
with_bits place places = record places { bits = with_place place places.bits }

-- such cells, with one of `u32` more
abbrev pub with_word : ℕ → Places → Places
with_word place places = record places { words = with_place place places.words }

-- no cell is listed twice
pub record AreDistinct (places : Places) : Type 0 where
  pub nums : IsDistinct nat_eq places.nums
  pub bits : IsDistinct nat_eq places.bits
  pub words : IsDistinct nat_eq places.words

-- a list with its first element changed, where there is one
abbrev pub on_highest : {A : Type 0} → (A → A) → List A → List A
on_highest change [] = []
on_highest change (highest ∷ below) = change highest ∷ below
