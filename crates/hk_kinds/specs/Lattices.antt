-- What a lattice is.
use Rattle.std.specs.Prelude.{◌≡◌, Bool, true}

-- the join of two valid values covers both and is covered by all that cover both;
-- to cover is an order of the valid values
pub record IsLattice {T : Type 0} (valid : T → Type 0) (join : T → T → T) (covers : T → T → Bool) : Type 0 where
  pub covers_first : (a b : T) → valid a → valid b → covers (join a b) a ≡ true
  pub covers_second : (a b : T) → valid a → valid b → covers (join a b) b ≡ true
  pub least : (a b c : T) → valid a → valid b → valid c → covers c a ≡ true → covers c b ≡ true → covers c (join a b) ≡ true
  pub reflexive : (a : T) → valid a → covers a a ≡ true
  pub transitive : (a b c : T) → valid a → valid b → valid c → covers a b ≡ true → covers b c ≡ true → covers a c ≡ true
  pub antisymmetric : (a b : T) → valid a → valid b → covers a b ≡ true → covers b a ≡ true → a ≡ b
