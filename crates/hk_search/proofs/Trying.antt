-- The best solution, as more and more solutions are tried.
use Rattle.std.proofs.Common.{◌≡◌, ℕ, ℤ, pos, ◌<ℤ◌, ◌≤ℤ◌, ◌≤◌, List, [], ◌++◌, length, arith, refl, sym, ap, ◌∙◌, subst, ◌⊎◌, inl, inr, ◌↔◌, All, Option, Some, None, IfSome, IsSome, IsNone, length-append}
use Rattle.std.specs.Int.Signed.{≤ℤ_refl, clash_ℤ}
use Rattle.std.proofs.lemmas.Int.{ints, by_lt_z}
use Rattle.std.proofs.lemmas.List.{append-nil, nil_from_length}
use Rattle.hk_base.specs.Lists.{IsFrontOf}
use Rattle.hk_group.specs.declared.linear.Linear.{Linear}
use Rattle.hk_group.specs.Problems.{PlainProblem}
use Rattle.hk_group.specs.Solutions.{IsSolution, IsNotAfter, Holds, cost_by, cost_of}
use Rattle.hk_search.specs.declared.found.Found.{Found}
use Rattle.hk_search.specs.Findings.{IsFinding}
use Rattle.hk_search.specs.inside.Walks.{IsBegun, IsBetter, IsBestAfter, kept, improved}
use Rattle.hk_search.proofs.Orders.{IsNotAfter-refl}

-- what is better than the best costs no more than what isn't
better_first : (a b : ℤ) (best : Option Found) → IsBetter a best → (IsBetter b best → ⊥) → a ≤ℤ b
better_first a b None better no_better = absurd (no_better tt)
better_first a b (Some best) better no_better = by_lt_z b best.cost (λ less. absurd (no_better less)) (λ more. omega (arith, ints))

-- what costs less than something better is better
pub better_less : (a b : ℤ) (best : Option Found) → a <ℤ b → IsBetter b best → IsBetter a best
better_less a b None less better = tt
better_less a b (Some best) less better = omega (arith, ints)

-- candidates with the same solutions
pub IsBestAfter-same : (p : PlainProblem) (A B : List ℕ → Type 0) {before after : Option Found}
    → ((values : List ℕ) → IsSolution p values → B values → A values) → ((values : List ℕ) → A values → B values)
    → IsBestAfter p A before after → IsBestAfter p B before after
IsBestAfter-same p A B fewer more (kept none) = kept (λ values is solution better. none values (fewer values solution is) solution better)
IsBestAfter-same p A B fewer more (improved {found = found} better first) = improved better (record {
  solution = first.solution;
  candidate = more found.values first.candidate;
  priced = first.priced;
  least = λ other is solution. first.least other (fewer other solution is) solution;
  first = λ other is solution same. first.first other (fewer other solution is) solution same;
})

-- candidates, and then others that come after them
pub IsBestAfter-joined : (p : PlainProblem) (A B C : List ℕ → Type 0) {before middle after : Option Found}
    → ((x y : List ℕ) → A x → B y → IsNotAfter x y) → ((values : List ℕ) → IsSolution p values → C values → A values ⊎ B values)
    → ((values : List ℕ) → A values → C values) → ((values : List ℕ) → B values → C values)
    → IsBestAfter p A before middle → IsBestAfter p B middle after → IsBestAfter p C before after
IsBestAfter-joined p A B C order parted from_a from_b (kept none) (kept {best = best} no_more) = kept {best = best} (λ values is solution better.
    elim (parted values solution is) [ inl a ↦ none values a solution better | inr b ↦ no_more values b solution better ])
IsBestAfter-joined p A B C order parted from_a from_b (kept none) (improved {before = before} {found = found} better first) = improved better (record {
  solution = first.solution;
  candidate = from_b found.values first.candidate;
  priced = first.priced;
  least = λ other is solution. elim (parted other solution is) [
    | inl a ↦ better_first found.cost (cost_of p other) before better (none other a solution)
    | inr b ↦ first.least other b solution
  ];
  first = λ other is solution same. elim (parted other solution is) [
    | inl a ↦ absurd (none other a solution (subst (λ cost. IsBetter cost before) (sym same) better))
    | inr b ↦ first.first other b solution same
  ];
})
IsBestAfter-joined p A B C order parted from_a from_b (improved {found = found} better first) (kept no_more) = improved better (record {
  solution = first.solution;
  candidate = from_a found.values first.candidate;
  priced = first.priced;
  least = λ other is solution. elim (parted other solution is) [
    | inl a ↦ first.least other a solution
    | inr b ↦ by_lt_z (cost_of p other) found.cost (λ less. absurd (no_more other b solution less)) (λ more. more)
  ];
  first = λ other is solution same. elim (parted other solution is) [
    | inl a ↦ first.first other a solution same
    | inr b ↦ order found.values other first.candidate b
  ];
})
IsBestAfter-joined p A B C order parted from_a from_b (improved {before = before} {found = found} better first) (improved {found = next} less last) = improved (better_less next.cost found.cost before less better) (record {
  solution = last.solution;
  candidate = from_b next.values last.candidate;
  priced = last.priced;
  least = λ other is solution. elim (parted other solution is) [
    | inl a ↦ let least = first.least other a solution in omega (arith, ints)
    | inr b ↦ last.least other b solution
  ];
  first = λ other is solution same. elim (parted other solution is) [
    | inl a ↦ clash_ℤ less (subst (λ cost. found.cost ≤ℤ cost) same (first.least other a solution))
    | inr b ↦ last.first other b solution same
  ];
})

-- the best has its own cost, if it had before
pub priced_after : (p : PlainProblem) (A : List ℕ → Type 0) {before after : Option Found}
    → IfSome before (λ found. found.cost ≡ cost_of p found.values) → IsBestAfter p A before after → IfSome after (λ found. found.cost ≡ cost_of p found.values)
priced_after p A priced (kept none) = priced
priced_after p A priced (improved better first) = first.priced

-- where all values cost the same nothing is better than what was found
pub IsBestAfter-settled : (p : PlainProblem) (A : List ℕ → Type 0) (best : Option Found)
    → IsSome best → IsNone p.objective → IfSome best (λ found. found.cost ≡ cost_of p found.values) → IsBestAfter p A best best
IsBestAfter-settled p A None some none priced = absurd (cc)
IsBestAfter-settled p A (Some found) some none priced = kept (λ values is solution better.
    clash_ℤ better (subst (λ cost. found.cost ≤ℤ cost) (priced ∙ free found.values ∙ sym (free values)) (≤ℤ_refl found.cost)))
  where
    by : (objective : Option Linear) → IsNone objective → (values : List ℕ) → cost_by objective values ≡ pos 0
    by None none values = refl
    by (Some linear) none values = absurd (cc)

    free : (values : List ℕ) → cost_of p values ≡ pos 0
    free values = by p.objective none values

-- nothing goes on from as many values as there are variables
whole_alone : (p : PlainProblem) (front values : List ℕ) → length p.domains ≤ length front → IsFrontOf front values → IsSolution p values → values ≡ front
whole_alone p front values whole begins solution =
    let size = ap length begins.parts ∙ length-append front begins.rest in
    let none : begins.rest ≡ [] = nil_from_length begins.rest (let each = solution.one_each in omega arith) in
    begins.parts ∙ ap (λ more. front ++ more) none ∙ append-nil front

-- values of all variables that break a constraint are no solution
pub IsBestAfter-broken : (p : PlainProblem) (front : List ℕ) (best : Option Found) → length p.domains ≤ length front → (All (Holds front) p.constraints → ⊥) → IsBestAfter p (IsFrontOf front) best best
IsBestAfter-broken p front best whole broken = kept (λ values begins solution better.
    broken (subst (λ all. All (Holds all) p.constraints) (whole_alone p front values whole begins solution) solution.hold))

-- values of all variables without a cost are no solution
pub IsBestAfter-costless : (p : PlainProblem) (front : List ℕ) (best : Option Found) (cost : Option ℤ) → length p.domains ≤ length front → IsSome cost ↔ All (Holds front) p.constraints → cost ≡ None → IsBestAfter p (IsFrontOf front) best best
IsBestAfter-costless p front best None whole holds none = IsBestAfter-broken p front best whole (λ hold. let some = holds.1 hold in cc)
IsBestAfter-costless p front best (Some cost) whole holds none = cc

-- values of all variables that cost too much aren't better
pub IsBestAfter-worse : (p : PlainProblem) (front : List ℕ) (cost : ℤ) (best : Option Found) → length p.domains ≤ length front → cost ≡ cost_of p front → (IsBetter cost best → ⊥) → IsBestAfter p (IsFrontOf front) best best
IsBestAfter-worse p front cost best whole priced worse = kept (λ values begins solution better.
    worse (subst (λ price. IsBetter price best) (ap (cost_of p) (whole_alone p front values whole begins solution) ∙ sym priced) better))

-- values of all variables that make every constraint hold and are better
pub IsBestAfter-better : (p : PlainProblem) (front : List ℕ) (best : Option Found) (found : Found) → IsBegun p front → length p.domains ≤ length front → All (Holds front) p.constraints
    → found.values ≡ front → found.cost ≡ cost_of p front → IsBetter found.cost best → IsBestAfter p (IsFrontOf front) best (Some found)
IsBestAfter-better p front best found begun whole hold same priced better = improved better (record {
  solution = subst (IsSolution p) (sym same) (record {
    one_each = let short = begun.short in omega arith;
    inside = λ variable within. begun.inside variable (omega arith);
    hold = hold;
  });
  candidate = record { rest = []; parts = same ∙ sym (append-nil front) };
  priced = priced ∙ ap (cost_of p) (sym same);
  least = λ other begins solution. subst (λ cost. found.cost ≤ℤ cost) (priced ∙ ap (cost_of p) (sym (whole_alone p front other whole begins solution))) (≤ℤ_refl found.cost);
  first = λ other begins solution equal. subst (IsNotAfter found.values) (same ∙ sym (whole_alone p front other whole begins solution)) (IsNotAfter-refl found.values);
})

-- where all is tried the best is the answer
pub IsFinding-all : (p : PlainProblem) {best : Option Found} → IsBestAfter p (IsFrontOf []) None best → IsFinding p best
IsFinding-all p (kept none) = λ values solution. none values (record { rest = values; parts = refl }) solution tt
IsFinding-all p (improved {found = found} better first) = (
  record {
    solution = first.solution;
    least = λ other solution. subst (λ cost. cost ≤ℤ cost_of p other) first.priced (first.least other (record { rest = other; parts = refl }) solution);
    first = λ other solution same. first.first other (record { rest = other; parts = refl }) solution (same ∙ sym first.priced);
  },
  first.priced,
)
