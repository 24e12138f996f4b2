-- The proofs that sets with union or intersection as their join are lattices.
use Rattle.std.specs.Prelude.{◌≡◌, ℕ, true, ◌==◌, bit_and, bit_or}
use Rattle.std.proofs.Common.{arith, ap, sym, ◌∙◌, eq-eqb}
use Rattle.std.proofs.lemmas.Nat.Bits.{bit_at_and, bit_at_or, same_from_bits}
use Rattle.hk_kinds.specs.Lattices.{IsLattice}
use Rattle.hk_kinds.specs.Sets.{IsSet}
use Rattle.hk_kinds.specs.declared.sets.SomeSet.{SomeSet}
use Rattle.hk_kinds.specs.declared.sets.AllSet.{AllSet}

pub or_itself : (a : ℕ) → bit_or a a ≡ a
or_itself a = same_from_bits _ _ (λ i. omega (arith, bit_at_or a a i))

pub or_comm : (a b : ℕ) → bit_or a b ≡ bit_or b a
or_comm a b = same_from_bits _ _ (λ i. omega (arith, bit_at_or a b i, bit_at_or b a i))

pub or_assoc : (a b c : ℕ) → bit_or (bit_or a b) c ≡ bit_or a (bit_or b c)
or_assoc a b c = same_from_bits _ _ (λ i. omega (arith, bit_at_or (bit_or a b) c i, bit_at_or a b i, bit_at_or a (bit_or b c) i, bit_at_or b c i))

pub and_itself : (a : ℕ) → bit_and a a ≡ a
and_itself a = same_from_bits _ _ (λ i. omega (arith, bit_at_and a a i))

pub and_comm : (a b : ℕ) → bit_and a b ≡ bit_and b a
and_comm a b = same_from_bits _ _ (λ i. omega (arith, bit_at_and a b i, bit_at_and b a i))

pub and_assoc : (a b c : ℕ) → bit_and (bit_and a b) c ≡ bit_and a (bit_and b c)
and_assoc a b c = same_from_bits _ _ (λ i. omega (arith, bit_at_and (bit_and a b) c i, bit_at_and a b i, bit_at_and a (bit_and b c) i, bit_at_and b c i))

-- where a join of numbers is idempotent, commutative and associative, that the join with another leaves a number
-- as it is says that it covers the other
module _ (join : ℕ → ℕ → ℕ) (itself : (a : ℕ) → join a a ≡ a) (comm : (a b : ℕ) → join a b ≡ join b a) (assoc : (a b c : ℕ) → join (join a b) c ≡ join a (join b c)) where
  pub join_covers_first : (a b : ℕ) → join (join a b) a ≡ join a b
  join_covers_first a b = comm (join a b) a ∙ (sym (assoc a a b) ∙ ap (λ x. join x b) (itself a))

  pub join_covers_second : (a b : ℕ) → join (join a b) b ≡ join a b
  join_covers_second a b = assoc a b b ∙ ap (join a) (itself b)

  pub join_least : (a b c : ℕ) → join c a ≡ c → join c b ≡ c → join c (join a b) ≡ c
  join_least a b c h k = sym (assoc c a b) ∙ (ap (λ x. join x b) h ∙ k)

  pub join_along : (a b c : ℕ) → join a b ≡ a → join b c ≡ b → join a c ≡ a
  join_along a b c h k = ap (λ x. join x c) (sym h) ∙ (assoc a b c ∙ (ap (join a) k ∙ h))

  pub join_both_ways : (a b : ℕ) → join a b ≡ a → join b a ≡ b → a ≡ b
  join_both_ways a b h k = sym h ∙ (comm a b ∙ k)

pub eqb-eq : (a b : ℕ) → (a == b) ≡ true → a ≡ b
eqb-eq a b h = grind arith

abbrev some_set : ℕ → SomeSet
some_set set = record { 0 = set }

abbrev all_set : ℕ → AllSet
all_set set = record { 0 = set }

pub some_sets : IsLattice {T = SomeSet} (λ a. IsSet a.0) (λ a b. some_set (bit_or a.0 b.0)) (λ a b. bit_or a.0 b.0 == a.0)
some_sets = record {
  covers_first = λ a b _ _. eq-eqb _ _ (join_covers_first bit_or or_itself or_comm or_assoc a.0 b.0);
  covers_second = λ a b _ _. eq-eqb _ _ (join_covers_second bit_or or_itself or_comm or_assoc a.0 b.0);
  least = λ a b c _ _ _ h k. eq-eqb _ _ (join_least bit_or or_itself or_comm or_assoc a.0 b.0 c.0 (eqb-eq _ _ h) (eqb-eq _ _ k));
  reflexive = λ a _. eq-eqb _ _ (or_itself a.0);
  transitive = λ a b c _ _ _ h k. eq-eqb _ _ (join_along bit_or or_itself or_comm or_assoc a.0 b.0 c.0 (eqb-eq _ _ h) (eqb-eq _ _ k));
  antisymmetric = λ a b _ _ h k. ap some_set (join_both_ways bit_or or_itself or_comm or_assoc a.0 b.0 (eqb-eq _ _ h) (eqb-eq _ _ k));
}

pub all_sets : IsLattice {T = AllSet} (λ a. IsSet a.0) (λ a b. all_set (bit_and a.0 b.0)) (λ a b. bit_and a.0 b.0 == a.0)
all_sets = record {
  covers_first = λ a b _ _. eq-eqb _ _ (join_covers_first bit_and and_itself and_comm and_assoc a.0 b.0);
  covers_second = λ a b _ _. eq-eqb _ _ (join_covers_second bit_and and_itself and_comm and_assoc a.0 b.0);
  least = λ a b c _ _ _ h k. eq-eqb _ _ (join_least bit_and and_itself and_comm and_assoc a.0 b.0 c.0 (eqb-eq _ _ h) (eqb-eq _ _ k));
  reflexive = λ a _. eq-eqb _ _ (and_itself a.0);
  transitive = λ a b c _ _ _ h k. eq-eqb _ _ (join_along bit_and and_itself and_comm and_assoc a.0 b.0 c.0 (eqb-eq _ _ h) (eqb-eq _ _ k));
  antisymmetric = λ a b _ _ h k. ap all_set (join_both_ways bit_and and_itself and_comm and_assoc a.0 b.0 (eqb-eq _ _ h) (eqb-eq _ _ k));
}
