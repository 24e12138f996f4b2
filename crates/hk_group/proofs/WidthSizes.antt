-- How great the sums over groups get that tell whether a width fits.
use Rattle.std.proofs.Common.{◌≡◌, ℕ, ◌*◌, ◌^◌, ◌≤◌, List, length, get_or, slice_index, take, All, arith, mul-le-mul_left}
use Rattle.std.specs.List.{sum_by}
use Rattle.std.proofs.lemmas.List.Sums.{get_or-le-sum_by, sum_by-le, sum_by-take-le}
use Rattle.hk_text.specs.Sets.{members}
use Rattle.hk_group.specs.Groups.{PlainGroup}
use Rattle.hk_group.specs.Limits.{most_variables, most_groups, most_properties}
use Rattle.hk_group.specs.Problems.{PlainProblem, IsScope}
use Rattle.hk_group.specs.Widths.{FitsWidth, group_values, group_properties}
use Rattle.hk_group.proofs.SetSizes.{members-few}
use Rattle.hk_group.proofs.SumSizes.{scope_short}

-- how many values the variables of a group have at most: 128 each
pub group_values-few : (domains : List ℕ) (g : PlainGroup) → IsScope (length domains) g.vars → length domains ≤ most_variables → group_values domains g ≤ 32768
group_values-few domains g scope few =
    let each = sum_by-le (λ (variable : ℕ). length (members (slice_index domains variable))) 128 g.vars (λ k variable within. members-few (slice_index domains (get_or g.vars k variable))) in
    omega (arith, each, few, scope_short (length domains) g.vars scope)

-- of the first of its variables no more
pub some_values-few : (domains : List ℕ) (g : PlainGroup) (k : ℕ) → IsScope (length domains) g.vars → length domains ≤ most_variables
    → sum_by (λ (variable : ℕ). length (members (slice_index domains variable))) (take k g.vars) ≤ 32768
some_values-few domains g k scope few =
    omega (arith, group_values-few domains g scope few, sum_by-take-le (λ (variable : ℕ). length (members (slice_index domains variable))) g.vars k)

-- and the variables of the first groups
pub all_values-few : (domains : List ℕ) (groups : List PlainGroup) (k : ℕ) → All (λ (g : PlainGroup). IsScope (length domains) g.vars) groups → length domains ≤ most_variables
    → length groups ≤ most_groups → sum_by (group_values domains) (take k groups) ≤ 1048576
all_values-few domains groups k scopes few few_groups =
    let each = sum_by-le (group_values domains) 32768 groups (λ j g within. group_values-few domains (get_or groups j g) (scopes j g within) few) in
    omega (arith, each, few_groups, sum_by-take-le (group_values domains) groups k)

-- the properties of the first groups, added up, of which each has a bound
pub record AreAdded (sum k : ℕ) (groups : List PlainGroup) : Type 0 where
  pub all : sum ≡ sum_by group_properties (take k groups)
  pub room : sum ≤ k * 2 ^ 74

-- a width that fits all groups fits each
pub properties_fit_each : (p : PlainProblem) (width : ℕ) → FitsWidth p width → All (λ (g : PlainGroup). width * group_properties g ≤ most_properties) p.groups
properties_fit_each p width fits k g within = omega (arith, fits.properties, mul-le-mul_left width (get_or-le-sum_by group_properties p.groups k g within))
