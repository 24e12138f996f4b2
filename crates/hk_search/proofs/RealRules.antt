-- The rules of a problem and a width promise what the last solution needs.
use Rattle.std.proofs.Common.{◌≡◌, ℕ, ℤ, pos, negsuc, suc, ◌*◌, ◌^◌, ◌<◌, ◌≤◌, ◌<ℤ◌, ◌≤ℤ◌, ◌*ℤ◌, eqb, not, Bool, true, false, List, [], ◌∷◌, length, set, map, slice_index, All, Option, None, Some, IfSome, IsNone, refl, sym, ap, ◌∙◌, subst, inl, inr, arith, mul-le-mul, ◌&&◌, ◌||◌}
use Rattle.std.specs.Int.{trailing_zeros, w128}
use Rattle.std.specs.Int.Signed.{≤ℤ_refl}
use Rattle.std.proofs.Math.IntN.{pos-*ℤ-pos, negsuc-*ℤ-pos}
use Rattle.std.proofs.lemmas.Bool.{cases_eq, eqb-false}
use Rattle.std.proofs.lemmas.Int.{ints}
use Rattle.std.proofs.lemmas.List.{length-set, get_or-set_same, get_or-set_other}
use Rattle.std.proofs.lemmas.List.Elements.{All-set, All-head, All-tail}
use Rattle.std.proofs.lemmas.Nat.Bits.{bit_at-trailing_zeros}
use Rattle.hk_base.specs.Limits.{number_limit}
use Rattle.hk_base.specs.Sets.{Has}
use Rattle.hk_group.specs.declared.linear.Linear.{Linear}
use Rattle.hk_group.specs.Problems.{PlainProblem, IsValid, IsLinear, IsWithin}
use Rattle.hk_group.specs.Limits.{greatest_coefficient}
use Rattle.hk_group.specs.Solutions.{IsSolution, cost_of, cost_by, scope_values}
use Rattle.hk_group.proofs.SumSizes.{scope_short}
use Rattle.hk_spec.specs.Meanings.{set_of, weighted_sum}
use Rattle.hk_sweep.specs.OneValue.{AreOnly, only_none, only_more}
use Rattle.hk_table.specs.Keeps.{LieIn, lie_none, lie_more}
use Rattle.hk_table.specs.Members.{Member}
use Rattle.hk_table.proofs.Members.{Member-cases, Member-members, Has-member}
use Rattle.hk_text.specs.Sets.{members}
use Rattle.hk_prop.specs.Contents.{Content, opening_content, has_empty}
use Rattle.hk_prop.specs.Keeping.{IsSolutionIn, AreInside}
use Rattle.hk_prop.specs.Passes.{pass, values_that, node_passes}
use Rattle.hk_prop.specs.Standing.{IsStanding}
use Rattle.hk_prop.specs.Supports.{all_allow}
use Rattle.hk_prop.proofs.FixedNodes.{filled, fewer_stands, node_stands, node_solves, opening_stands}
use Rattle.hk_prop.proofs.Fuel.{after_passes}
use Rattle.hk_prop.proofs.KeptSolutions.{node_keeps}
use Rattle.hk_prop.proofs.Lying.{lie_at, lie_from, lie_long}
use Rattle.hk_prop.proofs.Prunings.{pruned_has, pruned_long}
use Rattle.hk_prop.proofs.SoundParts.{scope_small, value_small}
use Rattle.hk_prop.proofs.ValueSets.{Member-set_of, set_of-small, values_that-has, values_that-small}
use Rattle.hk_search.specs.Nodes.{end_of, solves, first_child, second_child, least_value, bound_of, is_over}
use Rattle.hk_search.specs.Rules.{rules_of}
use Rattle.hk_search.specs.declared.found.Found.{Found}
use Rattle.hk_search.proofs.Children.{Branches, branch_has}
use Rattle.hk_search.specs.Findings.{IsFinding}
use Rattle.hk_search.specs.Trees.{Node, IsTight, best_after}
use Rattle.hk_base.specs.Lists.{IsFrontOf}
use Rattle.hk_search.proofs.LastSolution.{Searches, solves_says, only_one, least_member, tree_best}
use Rattle.hk_search.proofs.Trying.{IsBestAfter-same, IsFinding-all}

-- a set that isn't empty has a member
pub some_member : (from : ℕ) → from < 2 ^ 128 → (from ≡ 0 → ⊥) → Member (trailing_zeros w128 from) (members from)
some_member from small apart = let lowest = bit_at-trailing_zeros w128 from (omega (arith, apart)) small in Member-members from (trailing_zeros w128 from) lowest.0 lowest.1

-- the least values of sets of which none is empty
least_lie : (sets : List ℕ) → All (λ s. s < 2 ^ 128) sets → has_empty sets ≡ false → LieIn sets (map least_value sets)
least_lie [] small filled = lie_none
least_lie (s ∷ sets) small filled =
    let here = or_parts (eqb s 0) (has_empty sets) filled in
    let among = Has-member s (least_member s (some_member s (All-head (λ t. t < 2 ^ 128) s sets small) (eqb-false s 0 here.0))) in
    lie_more among.0 among.1 (least_lie sets (All-tail (λ t. t < 2 ^ 128) s sets small) here.1)
  where
    or_parts : (a b : Bool) → (a || b) ≡ false → (a ≡ false) × (b ≡ false)
    or_parts true b e = cc
    or_parts false b e = (refl, e)

only_least : (sets : List ℕ) → All (λ s. s < 2 ^ 128) sets → ((k : ℕ) → k < length sets → length (members (slice_index sets k)) ≤ 1) → AreOnly sets (map least_value sets)
only_least [] small fixed = only_none
only_least (s ∷ sets) small fixed =
    only_more (λ other has. let among = Member-members s other (value_small s other (All-head (λ t. t < 2 ^ 128) s sets small) has) has in only_one (members s) other (least_value s) (fixed 0 (omega arith)) among (least_member s among))
    (only_least sets (All-tail (λ t. t < 2 ^ 128) s sets small) (λ k within. fixed (suc k) (omega arith)))

-- one set is changed to some of its values
set_inside : (sets : List ℕ) (k new : ℕ) → ((value : ℕ) → Has new value → Has (slice_index sets k) value) → k < length sets → AreInside (set sets k new) sets
set_inside sets k new fewer within = record {
  long = length-set sets k new;
  each = λ variable value there has. elim (cases_eq variable k) [
    | inl same ↦
        let here : Has (slice_index (set sets k new) k) value = subst (λ v. Has (slice_index (set sets k new) v) value) same has in
        subst (λ v. Has (slice_index sets v) value) (sym same) (fewer value (subst (λ s. Has s value) (get_or-set_same sets k new 0 within) here))
    | inr apart ↦ subst (λ s. Has s value) (get_or-set_other sets k variable new 0 apart) has
  ];
}

module _ (p : PlainProblem) (valid : IsValid p) (width : ℕ) (some : 0 < width) where
  -- values that lie in domains, as solutions in them
  in_domains : (best : ℤ) (at : Content) (values : List ℕ) → IsSolution p values → LieIn at.domains values → cost_of p values <ℤ best → IsSolutionIn p at.domains best values
  in_domains best at values solution lie cheap = record { solution = solution; inside = λ variable within. (lie_at variable within lie).0; cheap = cheap }

  solution_small : (values : List ℕ) → IsSolution p values → (variable : ℕ) → variable < length p.domains → slice_index values variable < 128
  solution_small values solution variable within = let domain = valid.domains variable 0 within in value_small (slice_index p.domains variable) (slice_index values variable) domain.small (solution.inside variable within)

  lie_back : (best : ℤ) (at : Content) (values : List ℕ) → length at.domains ≡ length p.domains → IsSolutionIn p at.domains best values → LieIn at.domains values
  lie_back best at values long is = lie_from at.domains values (is.solution.one_each ∙ sym long) (λ k within. (is.inside k within, solution_small values is.solution k (omega (arith, within, long))))

  node_inside : (best : ℤ) (at : Content) → AreInside (node_passes p width best at).last.domains at.domains
  node_inside best at = after_passes p width best (λ c. AreInside c.domains at.domains)
      (λ c inside.
      let allowed = all_allow p.domains p.groups (pass p width best c).tables in
      record {
        long = pruned_long allowed 0 c.domains ∙ inside.long;
        each = λ variable value within has.
            let there : variable < length c.domains = omega (arith, within, pruned_long allowed 0 c.domains) in
            inside.each variable value there ((pruned_has allowed c.domains variable value there).0 has).1;
      }) _ at (record { long = refl; each = λ variable value within has. has })

  -- a bound of nodes that are entered is above 0 where there is no objective
  bound_above : (best : Option Found) → is_over (rules_of p width) best ≡ false → IsNone p.objective → pos 0 <ℤ bound_of best
  bound_above None goes none = omega (arith, ints)
  bound_above (Some found) goes none = absurd (let over : is_over (rules_of p width) (Some found) ≡ true = ap (λ b. not b && true) none in cc)

  fixed_solves : (best : Option Found) (at : Content) (values : List ℕ) → is_over (rules_of p width) best ≡ false → IsStanding p (bound_of best) at → end_of (node_passes p width (bound_of best) at).last.domains ≡ solves values
      → LieIn (node_passes p width (bound_of best) at).last.domains values × IsSolution p values × (cost_of p values <ℤ bound_of best)
  fixed_solves best at values goes stands ends =
      let last : Content = (node_passes p width (bound_of best) at).last in
      let says = solves_says last.domains values ends in
      let small = (node_stands p valid width some (bound_of best) at stands).small in
      let lie : LieIn last.domains values = subst (LieIn last.domains) (sym says.values_are) (least_lie last.domains small says.filled) in
      let only : AreOnly last.domains values = subst (AreOnly last.domains) (sym says.values_are) (only_least last.domains small says.fixed) in
      let solved = node_solves p valid width some (bound_of best) at values stands lie only (bound_above best goes) in
      (lie, solved.0, solved.1)

  first_stands : (best : ℤ) (at : Content) (variable value : ℕ) → IsStanding p best at → Branches at.domains variable value → IsStanding p best (first_child at variable value)
  first_stands best at variable value stands says =
      let has = branch_has says in
      let only : (v : ℕ) → Member v (value ∷ []) → v ≡ value = λ v m. elim (Member-cases m) [ inl same ↦ same | inr none ↦ elim none [ ] ] in
      fewer_stands p best best at (set at.domains variable (set_of (value ∷ [])))
      (set_inside at.domains variable (set_of (value ∷ [])) (λ v h. subst (Has (slice_index at.domains variable)) (sym (only v (Member-set_of (value ∷ []) v h))) has.0) says.within)
      (All-set (λ s. s < 2 ^ 128) at.domains variable (set_of (value ∷ [])) (set_of-small (value ∷ []) (λ v m. omega (arith, has.1, only v m))) stands.small)
      (≤ℤ_refl best) stands

  second_stands : (best : ℤ) (at : Content) (variable value : ℕ) → IsStanding p best at → Branches at.domains variable value → IsStanding p best (second_child at variable value)
  second_stands best at variable value stands says =
      let keep : ℕ → Bool = λ other. not (eqb other value) in
      let new : ℕ = values_that keep (slice_index at.domains variable) in
      fewer_stands p best best at (set at.domains variable new)
      (set_inside at.domains variable new (λ v h. (values_that-has keep (slice_index at.domains variable) v h).1) says.within)
      (All-set (λ s. s < 2 ^ 128) at.domains variable new (values_that-small keep (slice_index at.domains variable)) stands.small)
      (≤ℤ_refl best) stands

-- no cost reaches the limit
product_most : (coef : ℤ) (value : ℕ) → coef ≤ℤ pos 1000000 → value < 128 → (coef *ℤ pos value) ≤ℤ pos 127000000
product_most (pos n) value within small =
    let size : n * value ≤ 1000000 * 127 = mul-le-mul {n₁ = n} {m₁ = value} {n₂ = 1000000} {m₂ = 127} (omega (arith, ints)) (omega arith) in
    subst (λ z. z ≤ℤ pos 127000000) (sym (pos-*ℤ-pos n value)) (omega (arith, ints))
product_most (negsuc n) value within small = subst (λ z. z ≤ℤ pos 127000000) (sym (negsuc-*ℤ-pos n value)) (omega (arith, ints))

sum_most : (coefs : List ℤ) (values : List ℕ) → All (IsWithin greatest_coefficient) coefs → All (λ v. v < 128) values → weighted_sum coefs values ≤ℤ pos (127000000 * length coefs)
sum_most [] values small low = omega (arith, ints)
sum_most (coef ∷ coefs) [] small low = omega (arith, ints)
sum_most (coef ∷ coefs) (value ∷ values) small low =
    let one : (coef *ℤ pos value) ≤ℤ pos 127000000 = product_most coef value (All-head (IsWithin greatest_coefficient) coef coefs small).below (All-head (λ v. v < 128) value values low) in
    let rest : weighted_sum coefs values ≤ℤ pos (127000000 * length coefs) = sum_most coefs values (All-tail (IsWithin greatest_coefficient) coef coefs small) (All-tail (λ v. v < 128) value values low) in
    omega (arith, ints, one, rest)

cost_low : (p : PlainProblem) → IsValid p → (values : List ℕ) → IsSolution p values → cost_of p values <ℤ number_limit
cost_low p valid values solution = by p.objective valid.objective
  where
    by : (objective : Option Linear) → IfSome objective (λ linear. IsLinear (length p.names) linear.scope linear.coefs) → cost_by objective values <ℤ number_limit
    by None rules = omega (arith, ints)
    by (Some linear) rules =
        let most = sum_most linear.coefs (scope_values linear.scope values) rules.small (scope_small p valid number_limit values solution.inside linear.scope rules.over) in
        let few : length linear.coefs ≤ 256 = omega (arith, rules.one_each, scope_short (length p.names) linear.scope rules.over, valid.variables) in
        omega (arith, ints, most, few)

pub problem_searches : (p : PlainProblem) → IsValid p → (width : ℕ) → 0 < width → Searches p (rules_of p width) (IsStanding p)
problem_searches p valid width some = record {
  priced = λ values. refl;
  free = λ none. none;
  cheap = λ values solution. cost_low p valid values solution;
  passes_good = λ best at stands. node_stands p valid width some best at stands;
  passes_inside = λ best at values stands lie.
      let inside = node_inside p valid width some best at in
      lie_from at.domains values (lie_long lie ∙ inside.long) (λ k within.
      let there : k < length (node_passes p width best at).last.domains = omega (arith, within, inside.long) in
      (inside.each k (slice_index values k) there (lie_at k there lie).0, (lie_at k there lie).1));
  passes_lose_none = λ best at values stands solution lie cheap.
      let kept = (node_keeps p valid width some best at stands.keeps).1 values (in_domains p valid width some best at values solution lie cheap) in
      lie_back p valid width some best (node_passes p width best at).last values (node_stands p valid width some best at stands).keeps.one_each kept;
  solution_is = λ best at values goes stands ends. fixed_solves p valid width some best at values goes stands ends;
  first_good = λ best at variable value stands says. first_stands p valid width some best at variable value stands says;
  second_good = λ best at variable value stands says. second_stands p valid width some best at variable value stands says;
  lower_good = λ best lower at less stands. fewer_stands p best lower at at.domains (record { long = refl; each = λ variable value within has. has }) stands.small less stands;
  none_when_empty = λ domains values empty lie. none_lie domains empty lie;
}
  where
    none_lie : (domains : List ℕ) {values : List ℕ} → has_empty domains ≡ true → LieIn domains values → ⊥
    none_lie domains empty lie = let isnt = filled lie in cc

-- the last solution of the tight tree is the answer
pub last_is_answer : (p : PlainProblem) → IsValid p → (width : ℕ) → 0 < width → (tree : Node) → IsTight (rules_of p width) None (opening_content p) tree → IsFinding p (best_after (rules_of p width) None tree)
last_is_answer p valid width some tree tight =
    IsFinding-all p (IsBestAfter-same p (LieIn p.domains) (IsFrontOf [])
    (λ values solution all. lie_from p.domains values solution.one_each (λ k within. (solution.inside k within, solution_small p valid width some values solution k within)))
    (λ values lie. record { rest = values; parts = refl })
    (tree_best p (rules_of p width) (IsStanding p) (problem_searches p valid width some) None (opening_content p) tree (opening_stands p valid number_limit) tt tight))
