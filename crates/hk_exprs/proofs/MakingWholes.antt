-- A whole of one part or of two: what is made of the parts makes the whole, and what is wrong with a part is wrong with it.
use Rattle.std.proofs.Common.{◌≡◌, ℕ, ◌+◌, ◌<◌, ◌≤◌, max, Bool, true, false, nat_lt, nat_le, ◌&&◌, if◌then◌else◌, Result, Ok, Err, arith, refl, IsTrue}
use Rattle.std.proofs.Math.Nat.{le-max_left, le-max_right}
use Rattle.std.proofs.lemmas.Bool.Decides.{nat_tests}
use Rattle.hk_exprs.specs.inside.Making.{one_part, two_parts, whole_of_one, whole_of_two}
use Rattle.hk_exprs.specs.inside.Standing.{IsMade, made_well, made_misnamed, made_large}
use Rattle.hk_terms.specs.declared.flaws.Flaw.{Flaw}
use Rattle.hk_terms.specs.declared.flaws.Flaw.TheVariants.{Limit}
use Rattle.hk_exprs.specs.declared.operands.Tree.{Tree}

below_from : (m n : ℕ) → nat_lt m n ≡ true → m < n
below_from m n h = grind (arith, nat_tests)

above_from : (m n : ℕ) → nat_lt m n ≡ false → n ≤ m
above_from m n h = grind (arith, nat_tests)

-- a fact and a depth within the limit, as one test
pub good_from : (fits : Bool) (depth : ℕ) → fits ≡ true → depth ≤ 32 → IsTrue (fits && nat_le depth 32)
good_from fits depth h k = grind (arith, nat_tests)

module _ {T X : Type 0} (is : T → Type 0) (is_whole : X → Type 0) (named small : Type 0) (depth : ℕ) (make : T → X) where
  well_of_one : (root : T) (at : ℕ) (well : (x : T) → is x → depth + 1 ≤ 32 → is_whole (make x)) → is root → named → small → at ≡ depth
      → (test : Bool) → nat_lt at 32 ≡ test
      → IsMade is_whole named small (depth + 1) (whole_of_one make (if test then Ok (root, at + 1) else Err Limit))
  well_of_one root at well fact names few same true below =
      let less = below_from at 32 below in
      made_well (well root fact (omega arith)) names few (omega arith) (omega arith)
  well_of_one root at well fact names few same false above =
      let more = above_from at 32 above in
      made_large names (λ s. absurd (omega (arith, s.1)))

  -- what is made of one part makes the whole
  pub made_of_one : (a : Result (Tree T) Flaw) → ((x : T) → is x → depth + 1 ≤ 32 → is_whole (make x))
      → IsMade is named small depth a → IsMade is_whole named small (depth + 1) (whole_of_one make (one_part a))
  made_of_one a well (made_well {tree = tree} fact names few same most) = well_of_one tree.root tree.depth well fact names few same (nat_lt tree.depth 32) refl
  made_of_one a well (made_misnamed not_named) = made_misnamed not_named
  made_of_one a well (made_large names large) = made_large names (λ s. large (s.0, omega (arith, s.1)))

module _ {T X : Type 0} (is_first is_second : T → Type 0) (is_whole : X → Type 0) (named also_named small also_small : Type 0) (depth deep : ℕ) (make : T → T → X) where
  abbrev Whole : Result (Tree X) Flaw → Type 0
  Whole made = IsMade is_whole (named × also_named) (small × also_small) (max depth deep + 1) made

  first_large : named → also_named → (small × (depth ≤ 32) → ⊥) → Whole (Err Limit)
  first_large names also large = made_large (names, also) (λ s. large (s.0.0, omega (arith, s.1, le-max_left depth deep)))

  second_large : named → also_named → (also_small × (deep ≤ 32) → ⊥) → Whole (Err Limit)
  second_large names also large = made_large (names, also) (λ s. large (s.0.1, omega (arith, s.1, le-max_right depth deep)))

  well_of_two : (a b : T) (at below : ℕ) (well : (x y : T) → is_first x → is_second y → max depth deep + 1 ≤ 32 → is_whole (make x y))
      → is_first a → is_second b → named → also_named → small → also_small → at ≡ depth → below ≡ deep
      → (test : Bool) → nat_lt (max at below) 32 ≡ test
      → Whole (whole_of_two make (if test then Ok (a, b, max at below + 1) else Err Limit))
  well_of_two a b at below well fact more names also few fewer same alike true less =
      let low = below_from (max at below) 32 less in
      made_well (well a b fact more (omega arith)) (names, also) (few, fewer) (omega arith) (omega arith)
  well_of_two a b at below well fact more names also few fewer same alike false above =
      let high = above_from (max at below) 32 above in
      made_large (names, also) (λ s. absurd (omega (arith, s.1)))

  -- what is made of two parts makes the whole
  pub made_of_two : (a b : Result (Tree T) Flaw) → ((x y : T) → is_first x → is_second y → max depth deep + 1 ≤ 32 → is_whole (make x y))
      → IsMade is_first named small depth a → IsMade is_second also_named also_small deep b → Whole (whole_of_two make (two_parts a b))
  made_of_two a b well (made_misnamed not_named) more = made_misnamed (λ n. not_named n.0)
  made_of_two a b well (made_large names large) (made_misnamed not_named) = made_misnamed (λ n. not_named n.1)
  made_of_two a b well (made_large names large) (made_large also larger) = first_large names also large
  made_of_two a b well (made_large names large) (made_well fact also few same most) = first_large names also large
  made_of_two a b well (made_well fact names few same most) (made_misnamed not_named) = made_misnamed (λ n. not_named n.1)
  made_of_two a b well (made_well fact names few same most) (made_large also larger) = second_large names also larger
  made_of_two a b well (made_well {tree = tree} fact names few same most) (made_well {tree = other} more also fewer alike least) =
      well_of_two tree.root other.root tree.depth other.depth well fact more names also few fewer same alike (nat_lt (max tree.depth other.depth) 32) refl
