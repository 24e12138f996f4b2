-- The last solution of the tight tree is the first of those of least cost.
use Rattle.std.proofs.Common.{◌≡◌, ◌⊎◌, ℕ, ℤ, zero, suc, ◌+◌, ◌<◌, ◌≤◌, ◌<ℤ◌, ◌≤ℤ◌, eqb, ltb, not, Bool, true, false, cond, List, [], ◌∷◌, length, get_or, set, map, slice_index, Option, None, Some, IfSome, IsSome, IsNone, refl, sym, ap, ap₂, ◌∙◌, subst, inl, inr, arith, is_some, ◌&&◌}
use Rattle.std.specs.Int.{bit_at}
use Rattle.std.specs.List.{filter, position, position_or_len, range_with_len}
use Rattle.std.proofs.lemmas.Bool.{cases_Bool, cases_eq, eqb-true, eq-eqb, ltb-false}
use Rattle.std.proofs.lemmas.List.Sums.{fails_before_first}
use Rattle.std.specs.Int.Signed.{≤ℤ_refl}
use Rattle.std.proofs.lemmas.Int.{ints, by_lt_z}
use Rattle.std.proofs.lemmas.List.Quantifiers.{position-Some}
use Rattle.hk_base.specs.Limits.{number_limit}
use Rattle.hk_base.specs.Sets.{Has}
use Rattle.hk_group.specs.Problems.{PlainProblem}
use Rattle.hk_group.specs.Solutions.{IsSolution, IsNotAfter, cost_of}
use Rattle.hk_spec.specs.Meanings.{set_of}
use Rattle.hk_table.specs.Keeps.{LieIn, lie_none, lie_more}
use Rattle.hk_table.specs.Members.{Member, first}
use Rattle.hk_table.proofs.Members.{Member-cases, Member-members, Member-ranged, Member-filtered}
use Rattle.hk_text.specs.Sets.{members}
use Rattle.hk_prop.specs.Contents.{Content, has_empty}
use Rattle.hk_prop.specs.Passes.{values_that}
use Rattle.hk_prop.proofs.Lying.{lie_widen, lie_narrow, lie_at}
use Rattle.hk_prop.proofs.ValueSets.{Has-set_of, Member-set_of, Has-values_that, values_that-has}
use Rattle.hk_search.specs.Nodes.{fails, solves, end_by, end_of, first_child, second_child, first_unfixed, least_value, bound_of, is_over}
use Rattle.hk_search.specs.Rules.{Rules}
use Rattle.hk_search.specs.Trees.{Node, open_leaf, fail_node, sol_node, branch_node, best_after, IsTight}
use Rattle.hk_search.specs.declared.found.Found.{Found}
use Rattle.hk_search.specs.inside.Walks.{IsBetter, IsBestAfter, kept, improved}
use Rattle.hk_search.proofs.Children.{Branches, branch_says, branch_has}
use Rattle.hk_search.proofs.Orders.{IsNotAfter-refl}
use Rattle.hk_search.proofs.Trying.{better_less, IsBestAfter-joined, IsBestAfter-settled, priced_after}

not_eqb : (x y : ℕ) → (x ≡ y → ⊥) → eqb x y ≡ false
not_eqb x y apart = elim (cases_Bool (eqb x y)) [ inl is ↦ absurd (apart (eqb-true x y is)) | inr is ↦ is ]

-- the one value of a list that has no two
pub only_one : (xs : List ℕ) (a b : ℕ) → length xs ≤ 1 → Member a xs → Member b xs → a ≡ b
only_one [] a b few ma mb = elim ma [ ]
only_one (x ∷ []) a b few ma mb = elim (Member-cases ma) [
  | inl same ↦ elim (Member-cases mb) [ inl also ↦ same ∙ sym also | inr none ↦ elim none [ ] ]
  | inr none ↦ elim none [ ]
]
only_one (x ∷ (y ∷ ys)) a b few ma mb = absurd (omega arith)

-- the least value of a set
least_of_range : (passes : ℕ → Bool) (from count : ℕ) {x : ℕ} → Member x (filter passes (range_with_len from count)) → get_or (filter passes (range_with_len from count)) 0 0 ≤ x
least_of_range passes from zero m = elim m [ ]
least_of_range passes from (suc count) {x = x} m = by (passes from) refl m (λ n. least_of_range passes (from + 1) count n)
  where
    rest : List ℕ
    rest = filter passes (range_with_len (from + 1) count)

    by : (b : Bool) → passes from ≡ b → Member x (cond b (from ∷ rest) rest) → (Member x rest → get_or rest 0 0 ≤ x) → get_or (cond b (from ∷ rest) rest) 0 0 ≤ x
    by true here m later_ones = elim (Member-cases m) [
      | inl same ↦ omega (arith, same)
      | inr n ↦ let bounds = Member-ranged (from + 1) count (Member-filtered passes (range_with_len (from + 1) count) n).0 in omega (arith, bounds.0)
    ]
    by false here m later_ones = later_ones m

least_is : (from value : ℕ) → value < 128 → Has from value → least_value from ≤ value
unfolding members
least_is from value small has = least_of_range (λ v. eqb (bit_at from v) 1) 0 128 (Member-members from value small has)

pub least_member : (from : ℕ) {x : ℕ} → Member x (members from) → Member (least_value from) (members from)
least_member from m = by (members from) m
  where
    by : (xs : List ℕ) {x : ℕ} → Member x xs → Member (get_or xs 0 0) xs
    by [] m = elim m [ ]
    by (y ∷ ys) m = first

-- what lies in the first child of a branch comes before what lies in the second
order : (sets : List ℕ) (k d : ℕ) {xs ys : List ℕ} → k < length sets → ((j : ℕ) → j < k → length (members (slice_index sets j)) ≤ 1) → d ≡ least_value (slice_index sets k)
    → LieIn (set sets k (set_of (d ∷ []))) xs → LieIn (set sets k (values_that (λ other. not (eqb other d)) (slice_index sets k))) ys → IsNotAfter xs ys
order [] k d within fixed least left right = absurd (omega arith)
order (s ∷ sets) zero d within fixed least (lie_more {value = x} has small rest) (lie_more {value = y} has' small' rest') =
    let kept = values_that-has (λ other. not (eqb other d)) s y has' in
    let is : x ≡ d = elim (Member-cases (Member-set_of (d ∷ []) x has)) [ inl same ↦ same | inr none ↦ elim none [ ] ] in
    let apart : y ≡ d → ⊥ = λ e. (let a : not (eqb y d) ≡ false = ap not (eq-eqb y d e) in let b : not (eqb y d) ≡ true = kept.2 in cc) in
    inl (omega (arith, is, apart, least, least_is s y kept.0 kept.1))
order (s ∷ sets) (suc k) d within fixed least (lie_more {value = x} has small rest) (lie_more {value = y} has' small' rest') =
    inr (
      only_one (members s) x y (fixed 0 (omega arith)) (Member-members s x small has) (Member-members s y small' has'),
      order sets k d (omega arith) (λ j below. fixed (suc j) (omega arith)) least rest rest',
    )

-- where each set has one value at most, the values are those
fixed_values : {sets values : List ℕ} → ((k : ℕ) → k < length sets → length (members (slice_index sets k)) ≤ 1) → LieIn sets values → values ≡ map least_value sets
fixed_values fixed lie_none = refl
fixed_values fixed (lie_more {set = s} {value = v} has small rest) =
    let among = Member-members s v small has in
    ap₂ (λ x xs. x ∷ xs) (only_one (members s) v (least_value s) (fixed 0 (omega arith)) among (least_member s among)) (fixed_values (λ k within. fixed (suc k) (omega arith)) rest)

-- where no place passes a test, each fails it
none_passes : (test : ℕ → Bool) (xs : List ℕ) → position test xs ≡ None → (k : ℕ) → k < length xs → test (get_or xs k 0) ≡ false
none_passes test xs none k within = by (ltb (position_or_len test xs) (length xs)) refl none
  where
    by : (b : Bool) → ltb (position_or_len test xs) (length xs) ≡ b → cond b (Some (position_or_len test xs)) None ≡ None → test (get_or xs k 0) ≡ false
    by true less some = cc
    by false more e = let far = ltb-false (position_or_len test xs) (length xs) more in fails_before_first test xs k 0 (omega (arith, far, within))

-- what the end of a node says
pub record Solves (domains values : List ℕ) : Type 0 where
  pub values_are : values ≡ map least_value domains
  pub fixed : (k : ℕ) → k < length domains → length (members (slice_index domains k)) ≤ 1
  pub filled : has_empty domains ≡ false

pub solves_says : (domains values : List ℕ) → end_of domains ≡ solves values → Solves domains values
solves_says domains values ends = by (has_empty domains) refl (first_unfixed domains) refl ends
  where
    by : (b : Bool) → has_empty domains ≡ b → (o : Option ℕ) → first_unfixed domains ≡ o → end_by domains b o ≡ solves values → Solves domains values
    by true e None f ends = cc
    by true e (Some x) f ends = cc
    by false e (Some x) f ends = cc
    by false e None f ends = record {
      values_are = cc;
      fixed = λ k within.
          let none = none_passes (λ s. ltb 1 (length (members s))) domains f k within in
          ltb-false 1 (length (members (slice_index domains k))) none;
      filled = e;
    }

pub fails_says : (domains : List ℕ) → end_of domains ≡ fails → has_empty domains ≡ true
fails_says domains ends = by (has_empty domains) refl (first_unfixed domains) refl ends
  where
    by : (b : Bool) → has_empty domains ≡ b → (o : Option ℕ) → first_unfixed domains ≡ o → end_by domains b o ≡ fails → has_empty domains ≡ true
    by true e o f ends = e
    by false e None f ends = cc
    by false e (Some x) f ends = cc

-- what a search's rules promise of contents that are good under a bound
pub record Searches (p : PlainProblem) (r : Rules) (Good : ℤ → Content → Type 0) : Type 0 where
  pub priced : (values : List ℕ) → r.cost values ≡ cost_of p values
  pub free : r.has_objective ≡ false → IsNone p.objective
  pub cheap : (values : List ℕ) → IsSolution p values → cost_of p values <ℤ number_limit
  pub passes_good : (best : ℤ) (at : Content) → Good best at → Good best (r.passes best at).last
  pub passes_inside : (best : ℤ) (at : Content) (values : List ℕ) → Good best at → LieIn (r.passes best at).last.domains values → LieIn at.domains values
  pub passes_lose_none : (best : ℤ) (at : Content) (values : List ℕ) → Good best at → IsSolution p values → LieIn at.domains values → cost_of p values <ℤ best → LieIn (r.passes best at).last.domains values
  pub solution_is : (best : Option Found) (at : Content) (values : List ℕ) → is_over r best ≡ false → Good (bound_of best) at → end_of (r.passes (bound_of best) at).last.domains ≡ solves values
      → LieIn (r.passes (bound_of best) at).last.domains values × IsSolution p values × (cost_of p values <ℤ bound_of best)
  pub first_good : (best : ℤ) (at : Content) (variable value : ℕ) → Good best at → Branches at.domains variable value → Good best (first_child at variable value)
  pub second_good : (best : ℤ) (at : Content) (variable value : ℕ) → Good best at → Branches at.domains variable value → Good best (second_child at variable value)
  pub lower_good : (best lower : ℤ) (at : Content) → lower ≤ℤ best → Good best at → Good lower at
  pub none_when_empty : (domains values : List ℕ) → has_empty domains ≡ true → LieIn domains values → ⊥

-- what costs less than the best so far is better, and costs less than the bound
better_below : (cost : ℤ) (best : Option Found) → cost <ℤ bound_of best → IsBetter cost best
better_below cost None less = tt
better_below cost (Some found) less = less

below_better : (cost : ℤ) (best : Option Found) → cost <ℤ number_limit → IsBetter cost best → cost <ℤ bound_of best
below_better cost None small better = small
below_better cost (Some found) small better = better

over_has : (r : Rules) (best : Option Found) → is_over r best ≡ true → IsSome best × (r.has_objective ≡ false)
over_has r best over = by r.has_objective refl best over
  where
    by : (b : Bool) → r.has_objective ≡ b → (o : Option Found) → (not b && is_some o) ≡ true → IsSome o × (r.has_objective ≡ false)
    by true e o over = cc
    by false e None over = cc
    by false e (Some found) over = (refl, e)

module _ (p : PlainProblem) (r : Rules) (Good : ℤ → Content → Type 0) (s : Searches p r Good) where
  -- what is best among those that the passes leave is best among all
  widened : (best after : Option Found) (at : Content) → Good (bound_of best) at → IsBestAfter p (LieIn (r.passes (bound_of best) at).last.domains) best after → IsBestAfter p (LieIn at.domains) best after
  widened best after at good tried = by tried (λ values solution lie better. s.passes_lose_none (bound_of best) at values good solution lie (below_better (cost_of p values) best (s.cheap values solution) better))
    where
      last : List ℕ
      last = (r.passes (bound_of best) at).last.domains

      by : {before after : Option Found} → IsBestAfter p (LieIn last) before after → ((values : List ℕ) → IsSolution p values → LieIn at.domains values → IsBetter (cost_of p values) before → LieIn last values) → IsBestAfter p (LieIn at.domains) before after
      by (kept none) to_last = kept (λ values lie solution better. none values (to_last values solution lie better) solution better)
      by (improved {before = before} {found = found} better is) to_last = improved better (record {
        solution = is.solution;
        candidate = s.passes_inside (bound_of best) at found.values good is.candidate;
        priced = is.priced;
        least = λ other lie solution. by_lt_z (cost_of p other) found.cost
            (λ less. is.least other (to_last other solution lie (better_less (cost_of p other) found.cost before less better)) solution)
            (λ more. more);
        first = λ other lie solution same. is.first other (to_last other solution lie (subst (λ c. IsBetter c before) (sym same) better)) solution same;
      })

  -- a solution alone is the best of what it leaves
  one_solution : (best : Option Found) (at : Content) (values : List ℕ) → is_over r best ≡ false → Good (bound_of best) at → end_of (r.passes (bound_of best) at).last.domains ≡ solves values
      → IsBestAfter p (LieIn (r.passes (bound_of best) at).last.domains) best (Some (record { cost = r.cost values; values = values }))
  one_solution best at values goes good ends =
      let last = (r.passes (bound_of best) at).last.domains in
      let is = s.solution_is best at values goes good ends in
      let says = solves_says last values ends in
      let only : (other : List ℕ) → LieIn last other → other ≡ values = λ other lie. fixed_values says.fixed lie ∙ sym says.values_are in
      improved (better_below (r.cost values) best (subst (λ c. c <ℤ bound_of best) (sym (s.priced values)) is.2)) (record {
        solution = is.1;
        candidate = is.0;
        priced = s.priced values;
        least = λ other lie solution. subst (λ v. r.cost values ≤ℤ cost_of p v) (sym (only other lie)) (subst (λ c. r.cost values ≤ℤ c) (s.priced values) (≤ℤ_refl (r.cost values)));
        first = λ other lie solution same. subst (IsNotAfter values) (sym (only other lie)) (IsNotAfter-refl values);
      })

  -- where a domain is empty the best stays
  no_solution : (best : Option Found) (domains : List ℕ) → has_empty domains ≡ true → IsBestAfter p (LieIn domains) best best
  no_solution best domains empty = kept (λ values lie solution better. s.none_when_empty domains values empty lie)

  -- the best after the two children of a branch
  two_children : (last : Content) (variable value : ℕ) {before middle after : Option Found} → Branches last.domains variable value
      → IsBestAfter p (LieIn (first_child last variable value).domains) before middle → IsBestAfter p (LieIn (second_child last variable value).domains) middle after → IsBestAfter p (LieIn last.domains) before after
  two_children last variable value {before = before} {middle = middle} {after = after} says one two =
      let own : ℕ = slice_index last.domains variable in
      IsBestAfter-joined p (LieIn (first_child last variable value).domains) (LieIn (second_child last variable value).domains) (LieIn last.domains)
      (λ x y left right. order last.domains variable value says.within (λ j below. ltb-false 1 (length (members (slice_index last.domains j))) ((position-Some (λ t. ltb 1 (length (members t))) last.domains variable 0 says.first).2 j below)) says.least left right)
      (λ values solution lie. parted values lie)
      (λ values lie. lie_widen variable (set_of (value ∷ [])) (λ v has. subst (Has own) (sym (alone v has)) (branch_has says).0) lie)
      (λ values lie. lie_widen variable (values_that (λ other. not (eqb other value)) own) (λ v has. (values_that-has (λ other. not (eqb other value)) own v has).1) lie)
      one two
    where
      alone : (v : ℕ) → Has (set_of (value ∷ [])) v → v ≡ value
      alone v has = elim (Member-cases (Member-set_of (value ∷ []) v has)) [ inl same ↦ same | inr none ↦ elim none [ ] ]

      parted : (values : List ℕ) → LieIn last.domains values → LieIn (first_child last variable value).domains values ⊎ LieIn (second_child last variable value).domains values
      parted values lie =
          let here = lie_at variable says.within lie in
          elim (cases_eq (slice_index values variable) value) [
            | inl same ↦ inl (lie_narrow variable (set_of (value ∷ [])) says.within (Has-set_of (subst (λ v. Member v (value ∷ [])) (sym same) first)) lie)
            | inr apart ↦ inr (lie_narrow variable (values_that (λ other. not (eqb other value)) (slice_index last.domains variable)) says.within
                (Has-values_that (λ other. not (eqb other value)) (slice_index last.domains variable) (slice_index values variable) here.1 here.0 (ap not (not_eqb (slice_index values variable) value apart))) lie)
          ]

  -- the bound never rises
  bound_falls : {A : List ℕ → Type 0} {before after : Option Found} → IsBestAfter p A before after → bound_of after ≤ℤ bound_of before
  bound_falls (kept {best = best} none) = ≤ℤ_refl (bound_of best)
  bound_falls (improved {before = before} {found = found} better is) = let less = below_better found.cost before (subst (λ c. c <ℤ number_limit) (sym is.priced) (s.cheap found.values is.solution)) better in omega (arith, ints)

  pub tree_best : (best : Option Found) (at : Content) (tree : Node) → Good (bound_of best) at → IfSome best (λ found. found.cost ≡ cost_of p found.values) → IsTight r best at tree → IsBestAfter p (LieIn at.domains) best (best_after r best tree)
  tree_best best at open_leaf good own tight = let over = over_has r best tight in IsBestAfter-settled p (LieIn at.domains) best over.0 (s.free over.1) own
  tree_best best at (fail_node passes) good own tight = widened best best at good (no_solution best (r.passes (bound_of best) at).last.domains (fails_says (r.passes (bound_of best) at).last.domains tight.ends))
  tree_best best at (sol_node passes values) good own tight = widened best (Some (record { cost = r.cost values; values = values })) at good (one_solution best at values tight.goes_on good tight.ends)
  tree_best best at (branch_node passes variable value m n) good own tight =
      let last : Content = (r.passes (bound_of best) at).last in
      let says = branch_says last.domains variable value tight.0.ends in
      let last_good : Good (bound_of best) last = s.passes_good (bound_of best) at good in
      let one = tree_best best (first_child last variable value) m (s.first_good (bound_of best) last variable value last_good says) own tight.1 in
      let second_ready : Good (bound_of (best_after r best m)) (second_child last variable value) =
      s.lower_good (bound_of best) (bound_of (best_after r best m)) (second_child last variable value) (bound_falls one) (s.second_good (bound_of best) last variable value last_good says) in
      let two = tree_best (best_after r best m) (second_child last variable value) n second_ready (priced_after p (LieIn (first_child last variable value).domains) own one) tight.2 in
      widened best (best_after r (best_after r best m) n) at good (two_children last variable value says one two)
