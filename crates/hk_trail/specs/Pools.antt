-- Things for each of the three pools of a store, and what the pools hold.
use Rattle.std.specs.Prelude.{◌≡◌, ℕ, ℤ, List, [], ◌∷◌, length}

-- something for each of the three pools of a store
pub record Pools (N B W : Type 0) : Type 0 where
  pub nums : N
  pub bits : B
  pub words : W

-- what the cells of the three pools hold
abbrev pub Content : Type 0
Content = Pools (List ℤ) (List ℕ) (List ℕ)

-- three lists as one, as far as the shortest
abbrev pub zipped : {N B W : Type 0} → List N → List B → List W → List (Pools N B W)
zipped (n ∷ nums) (b ∷ bits) (w ∷ words) = record { nums = n; bits = b; words = w } ∷ zipped nums bits words
zipped _ _ _ = []

-- each pool of a content has as many cells as in another
pub record HasSizes (other content : Content) : Type 0 where
  pub nums : length content.nums ≡ length other.nums
  pub bits : length content.bits ≡ length other.bits
  pub words : length content.words ≡ length other.words
