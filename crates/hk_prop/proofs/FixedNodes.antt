-- Where the passes of a node leave each variable one value, these values are a solution below the bound.
use Rattle.std.proofs.Common.{◌≡◌, ℕ, ℤ, pos, zero, suc, ◌+◌, ◌^◌, ◌<◌, ◌≤◌, ◌<ℤ◌, ◌≤ℤ◌, eqb, ◌&&◌, ◌||◌, Bool, true, false, List, [], ◌∷◌, length, get_or, map, slice_index, All, Option, None, Some, refl, sym, ap, ◌∙◌, subst, inl, inr, arith, cond, ltb}
use Rattle.std.specs.Int.{bit_at}
use Rattle.std.specs.Prelude.{IsNone}
use Rattle.std.proofs.lemmas.Nat.Bits.{bit_at-zero}
use Rattle.std.specs.List.{position_or_len}
use Rattle.std.proofs.lemmas.Bool.{eqb-true, eq-eqb, ltb-false}
use Rattle.std.proofs.lemmas.List.{length-map}
use Rattle.std.proofs.lemmas.List.Sums.{fails_before_first}
use Rattle.hk_base.specs.Sets.{Has}
use Rattle.hk_spec.specs.Runs.{Accepts}
use Rattle.hk_group.specs.Groups.{Part, PlainGroup, IsGroup, place_in}
use Rattle.hk_group.specs.Grouping.{parts_in}
use Rattle.hk_group.specs.GroupRuns.{GroupAccepts, at_last}
use Rattle.hk_group.specs.Problems.{PlainProblem, IsValid}
use Rattle.hk_group.specs.Solutions.{IsSolution, cost_of, scope_values}
use Rattle.hk_group.proofs.PartRuns.{accepts_where_parts_do}
use Rattle.hk_kinds.specs.declared.kinds.Kind.{Kind}
use Rattle.hk_layers.specs.Transitions.{layer_sets}
use Rattle.hk_sweep.specs.Loose.{group_shape}
use Rattle.hk_sweep.specs.OneValue.{AreOnly, only_none, only_more}
use Rattle.hk_sweep.specs.Tight.{tight_revision}
use Rattle.hk_sweep.proofs.OneValue.{one_value_is_accepted}
use Rattle.hk_sweep.proofs.TightGroups.{group_fits}
use Rattle.hk_table.specs.Fits.{LayersFit, last_fits, layer_fits}
use Rattle.hk_table.specs.Keeps.{LieIn, lie_none, lie_more}
use Rattle.hk_table.specs.Members.{Member, first, later}
use Rattle.hk_table.specs.Opening.{opening_table, opening_layers}
use Rattle.hk_table.specs.Tables.{layer_values}
use Rattle.hk_table.proofs.Members.{Member-append_cases, All-member}
use Rattle.hk_text.specs.Sets.{members}
use Rattle.hk_prop.specs.Contents.{PlainTable, Content, opening_content, values_left, has_empty}
use Rattle.hk_prop.specs.Keeping.{AreInside}
use Rattle.hk_prop.specs.Passes.{pass, ends_with, NodePasses, passes_from, node_passes, tight_tables, pruned}
use Rattle.hk_prop.specs.Standing.{AreLayered, layered_none, layered_more, IsStanding}
use Rattle.hk_prop.specs.Supports.{allows_at, allows, all_allow}
use Rattle.hk_prop.proofs.AcceptedParts.{solves_all}
use Rattle.hk_prop.proofs.Declared.{group_declared}
use Rattle.hk_prop.proofs.Fuel.{ends_when_none, pass_less, passes_end, passes_go_on}
use Rattle.hk_prop.proofs.KeptSolutions.{pass_keeps, keeps_fewer, opening_keeps_solutions}
use Rattle.hk_prop.proofs.Lying.{lie_at, lie_long, only_at}
use Rattle.hk_prop.proofs.Prunings.{pruned_has, pruned_long, pruned_small, same_when_as_many}
use Rattle.hk_prop.proofs.SupportTests.{supports_says}

fit_long : {down up : List Kind} {values : List (List ℕ)} {table : PlainTable} → LayersFit down up values table → length table ≡ length values + 1
fit_long (last_fits all) = refl
fit_long (layer_fits all rest) = omega (arith, fit_long rest)

opening_long : (down up : List Kind) (values : List (List ℕ)) → length (opening_layers down up values) ≡ length values + 1
opening_long down up [] = refl
opening_long down up (vs ∷ values) = omega (arith, opening_long down up values)

layers_of : (sets : List ℕ) (g : PlainGroup) → length (layer_values (group_shape g sets)) ≡ length g.vars
layers_of sets g = length-map (layer_sets g sets) members ∙ length-map g.vars (λ variable. slice_index sets variable)

pub opening_layered : (sets : List ℕ) (groups : List PlainGroup) → AreLayered groups (map (λ g. opening_table (group_shape g sets)) groups)
opening_layered sets [] = layered_none
opening_layered sets (g ∷ groups) = layered_more (omega (arith, opening_long (group_shape g sets).down (group_shape g sets).up (layer_values (group_shape g sets)), layers_of sets g)) (opening_layered sets groups)

-- a variable of a list has a place in it
placed : (vars : List ℕ) (variable : ℕ) → Member variable vars → place_in vars variable ≡ None → ⊥
placed vars variable m none = by (ltb (position_or_len (λ other. eqb other variable) vars) (length vars)) refl none
  where
    fails_all : (xs : List ℕ) → Member variable xs → ((k : ℕ) → k < length xs → eqb (get_or xs k 0) variable ≡ false) → ⊥
    fails_all [] m each = elim m [ ]
    fails_all (x ∷ xs) first each = let is : eqb x x ≡ true = eq-eqb x x refl in let isnt : eqb x x ≡ false = each 0 (omega arith) in cc
    fails_all (x ∷ xs) (later n) each = fails_all xs n (λ k within. each (suc k) (omega arith))

    by : (b : Bool) → ltb (position_or_len (λ other. eqb other variable) vars) (length vars) ≡ b → cond b (Some (position_or_len (λ other. eqb other variable) vars)) None ≡ None → ⊥
    by true less some = cc
    by false more e = fails_all vars m (λ k within. fails_before_first (λ other. eqb other variable) vars k 0 (let far = ltb-false (position_or_len (λ other. eqb other variable) vars) (length vars) more in omega (arith, far, within)))

-- a part of all is one of a group
record IsPartOf (groups : List PlainGroup) (part : Part) : Type 0 where
  group : PlainGroup
  among : Member group groups
  owned : Member part group.parts

part_of : (groups : List PlainGroup) (part : Part) → Member part (parts_in groups) → IsPartOf groups part
part_of [] part m = elim m [ ]
part_of (g ∷ groups) part m = elim (Member-append_cases g.parts m) [
  | inl here ↦ record { group = g; among = first; owned = here }
  | inr there ↦ let rest = part_of groups part there in record { group = rest.group; among = later rest.among; owned = rest.owned }
]

-- sets that have one value each
only_of : (sets values vars : List ℕ) → ((variable : ℕ) → Member variable vars → (other : ℕ) → Has (slice_index sets variable) other → other ≡ slice_index values variable)
    → AreOnly (map (λ variable. slice_index sets variable) vars) (map (λ variable. slice_index values variable) vars)
only_of sets values [] each = only_none
only_of sets values (x ∷ vars) each = only_more (each x first) (only_of sets values vars (λ y m. each y (later m)))

and_both : (a b : Bool) → (a && b) ≡ true → (a ≡ true) × (b ≡ true)
and_both true b e = (refl, e)
and_both false b e = cc

-- where values lie in sets none is empty
pub filled : {sets values : List ℕ} → LieIn sets values → has_empty sets ≡ false
filled lie_none = refl
filled (lie_more {set = s} {value = v} {sets = sets} has small rest) = by (eqb s 0) refl (filled rest)
  where
    by : (b : Bool) → eqb s 0 ≡ b → has_empty sets ≡ false → (b || has_empty sets) ≡ false
    by true none more = let at : Has 0 v = subst (λ t. Has t v) (eqb-true s 0 none) has in let zero_bit : bit_at 0 v ≡ 0 = bit_at-zero v in let one : bit_at 0 v ≡ 1 = at in absurd (omega arith)
    by false some more = more

or_second : (a b : Bool) → a ≡ false → (a || b) ≡ true → b ≡ true
or_second true b f e = cc
or_second false b f e = e

module _ (p : PlainProblem) (valid : IsValid p) (width : ℕ) (some : 0 < width) (best : ℤ) where
  tight_layered : (domains : List ℕ) (groups : List PlainGroup) (tables : List PlainTable) → ((g : PlainGroup) → Member g groups → IsGroup g) → AreLayered groups tables → AreLayered groups (tight_tables groups p.domains domains best width tables)
  tight_layered domains _ _ rules layered_none = layered_none
  tight_layered domains _ _ rules (layered_more {g = g} {groups = groups} {table = table} {tables = tables} long rest) =
      layered_more (omega (arith, fit_long (group_fits g p.domains domains best width table (rules g first) some long), layers_of p.domains g)) (tight_layered domains groups tables (λ h m. rules h (later m)) rest)

  group_rules : (g : PlainGroup) → Member g p.groups → IsGroup g
  group_rules g m = All-member IsGroup valid.groups m

  pub pass_stands : (at : Content) → IsStanding p best at → IsStanding p best (pass p width best at)
  pass_stands at stands =
      let allowed = all_allow p.domains p.groups (pass p width best at).tables in
      record {
        keeps = (pass_keeps p valid width some best at stands.keeps).0;
        small = pruned_small allowed 0 at.domains;
        inside = record {
          long = pruned_long allowed 0 at.domains ∙ stands.inside.long;
          each = λ variable value within has.
              let there : variable < length at.domains = omega (arith, within, pruned_long allowed 0 at.domains) in
              stands.inside.each variable value there ((pruned_has allowed at.domains variable value there).0 has).1;
        };
        layers = tight_layered at.domains p.groups at.tables group_rules stands.layers;
      }

  -- the last pass of a node, and where it began
  pub record LastPass (last : Content) : Type 0 where
    pub before : Content
    pub stands : IsStanding p best before
    pub is : last ≡ pass p width best before
    pub ends : ends_with before (pass p width best before) ≡ true

  last_by : (more : ℕ) (at : Content) → ((next : Content) → values_left next.domains ≤ more → IsStanding p best next → LastPass (passes_from p width best more next).last) → values_left at.domains ≤ suc more → IsStanding p best at
      → (b : Bool) → ends_with at (pass p width best at) ≡ b → LastPass (passes_from p width best (suc more) at).last
  last_by more at rest few stands true ends = record { before = at; stands = stands; is = ap (λ (n : NodePasses). n.last) (passes_end p width best (suc more) at ends); ends = ends }
  last_by more at rest few stands false goes =
      subst (λ (n : NodePasses). LastPass n.last) (sym (passes_go_on p width best more at goes)) (rest (pass p width best at) (omega (arith, pass_less p width best at goes, few)) (pass_stands at stands))

  last_pass : (more : ℕ) (at : Content) → values_left at.domains ≤ more → IsStanding p best at → LastPass (passes_from p width best more at).last
  last_pass zero at few stands = record { before = at; stands = stands; is = refl; ends = ends_when_none p width best at few }
  last_pass (suc more) at few stands = last_by more at (λ next f s. last_pass more next f s) few stands (ends_with at (pass p width best at)) refl

  pub node_last : (at : Content) → IsStanding p best at → LastPass (node_passes p width best at).last
  node_last at stands = last_pass (values_left at.domains) at (omega arith) stands

  pub node_stands : (at : Content) → IsStanding p best at → IsStanding p best (node_passes p width best at).last
  node_stands at stands = let l = node_last at stands in subst (IsStanding p best) (sym l.is) (pass_stands l.before l.stands)

  -- a pass that removes nothing of domains with one value each
  module _ (at : Content) (stands : IsStanding p best at) (values : List ℕ) (same : pruned p.domains p.groups (pass p width best at).tables at.domains ≡ at.domains)
      (has : (variable : ℕ) → variable < length at.domains → Has (slice_index at.domains variable) (slice_index values variable))
      (only : (variable : ℕ) → variable < length at.domains → (other : ℕ) → Has (slice_index at.domains variable) other → other ≡ slice_index values variable) where
    declared : (g : PlainGroup) → Member g p.groups → (variable : ℕ) → Member variable g.vars → variable < length at.domains
    declared g m variable among = omega (arith, group_declared p valid g m variable among, stands.inside.long)

    allowed_all : (variable : ℕ) → variable < length at.domains → all_allow p.domains p.groups (pass p width best at).tables variable (slice_index values variable) ≡ true
    allowed_all variable within =
        ((pruned_has (all_allow p.domains p.groups (pass p width best at).tables) at.domains variable (slice_index values variable) within).0 (subst (λ sets. Has (slice_index sets variable) (slice_index values variable)) (sym same) (has variable within))).2

    accepted_by : (g : PlainGroup) (table : PlainTable) → Member g p.groups → length table ≡ length g.vars + 1
        → ((variable : ℕ) → variable < length at.domains → allows p.domains g (tight_revision g p.domains at.domains best width table) variable (slice_index values variable) ≡ true) → (vars : List ℕ) → g.vars ≡ vars → GroupAccepts g best (scope_values g.vars values)
    accepted_by g table m long allow [] none = subst (λ vars. GroupAccepts g best (scope_values vars values)) (sym none) at_last
    accepted_by g table m long allow (x ∷ vars) are = by (place_in g.vars x) refl
      where
        among : Member x g.vars
        among = subst (Member x) (sym are) first

        by : (place : Option ℕ) → place_in g.vars x ≡ place → GroupAccepts g best (scope_values g.vars values)
        by None none = absurd (placed g.vars x among none)
        by (Some level) found =
            let good : allows_at (group_shape g p.domains) (tight_revision g p.domains at.domains best width table) (Some level) (slice_index values x) ≡ true =
            subst (λ place. allows_at (group_shape g p.domains) (tight_revision g p.domains at.domains best width table) place (slice_index values x) ≡ true) found (allow x (declared g m x among)) in
            one_value_is_accepted g p.domains at.domains best width table (scope_values g.vars values) level (slice_index values x) (group_rules g m) long
            (only_of at.domains values g.vars (λ variable n. only variable (declared g m variable n)))
            (supports_says (layer_values (group_shape g p.domains)) (tight_revision g p.domains at.domains best width table) level 0 (slice_index values x) good)

    each_accepts : (groups : List PlainGroup) (tables : List PlainTable) → AreLayered groups tables → ((g : PlainGroup) → Member g groups → Member g p.groups)
        → ((variable : ℕ) → variable < length at.domains → all_allow p.domains groups (tight_tables groups p.domains at.domains best width tables) variable (slice_index values variable) ≡ true)
        → (g : PlainGroup) → Member g groups → GroupAccepts g best (scope_values g.vars values)
    each_accepts _ _ layered_none among allow g m = elim m [ ]
    each_accepts _ _ (layered_more {g = h} {groups = groups} {table = table} {tables = tables} long rest) among allow g first =
        accepted_by h table (among h first) long (λ variable within. (and_both (allows p.domains h (tight_revision h p.domains at.domains best width table) variable (slice_index values variable)) _ (allow variable within)).0) h.vars refl
    each_accepts _ _ (layered_more {g = h} {groups = groups} {table = table} {tables = tables} long rest) among allow g (later m) =
        each_accepts groups tables rest (λ k n. among k (later n))
        (λ variable within. (and_both (allows p.domains h (tight_revision h p.domains at.domains best width table) variable (slice_index values variable)) _ (allow variable within)).1) g m

    pub pass_solves : length values ≡ length at.domains → (IsNone p.objective → pos 0 <ℤ best) → IsSolution p values × (cost_of p values <ℤ best)
    pass_solves long free =
        let inside : (variable : ℕ) → variable < length p.domains → Has (slice_index p.domains variable) (slice_index values variable) = λ variable within.
        let there : variable < length at.domains = omega (arith, within, stands.inside.long) in stands.inside.each variable (slice_index values variable) there (has variable there) in
        let solved = solves_all p valid best values inside (λ part m.
        let owner = part_of p.groups part m in
        let accepts = each_accepts p.groups at.tables stands.layers (λ g n. n) allowed_all owner.group owner.among in
        All-member (λ (q : Part). Accepts q.bound best (scope_values q.scope values)) ((accepts_where_parts_do owner.group best (λ variable. slice_index values variable) (group_rules owner.group owner.among)).0 accepts) owner.owned) free in
        (record { one_each = long ∙ stands.inside.long; inside = inside; hold = solved.0 }, solved.1)

  -- and so where the passes of a node leave each variable one value
  pub node_solves : (at : Content) (values : List ℕ) → IsStanding p best at → LieIn (node_passes p width best at).last.domains values → AreOnly (node_passes p width best at).last.domains values → (IsNone p.objective → pos 0 <ℤ best)
      → IsSolution p values × (cost_of p values <ℤ best)
  node_solves at values stands lie only free = let l = node_last at stands in by (node_passes p width best at).last l.before l.stands l.is l.ends lie only
    where
      by : (last before : Content) → IsStanding p best before → last ≡ pass p width best before → ends_with before (pass p width best before) ≡ true → LieIn last.domains values → AreOnly last.domains values → IsSolution p values × (cost_of p values <ℤ best)
      by last before stands is ends lie only =
          let next : Content = pass p width best before in
          let here : LieIn next.domains values = subst (λ (c : Content). LieIn c.domains values) is lie in
          let full : has_empty next.domains ≡ false = filled here in
          let many : values_left next.domains ≡ values_left before.domains = eqb-true (values_left next.domains) (values_left before.domains) (or_second (has_empty next.domains) _ full ends) in
          let same : next.domains ≡ before.domains = same_when_as_many (all_allow p.domains p.groups next.tables) 0 before.domains stands.small many in
          let sets : last.domains ≡ before.domains = ap (λ (c : Content). c.domains) is ∙ same in
          let lies : LieIn before.domains values = subst (λ (ss : List ℕ). LieIn ss values) sets lie in
          let alone : AreOnly before.domains values = subst (λ (ss : List ℕ). AreOnly ss values) sets only in
          pass_solves before stands values same (λ variable within. (lie_at variable within lies).0) (λ variable within. only_at variable within alone) (lie_long lies) free

-- where the root stands
members_small : (p : PlainProblem) → IsValid p → All (λ set. set < 2 ^ 128) p.domains
members_small p valid k d within = let domain = valid.domains k d within in domain.small

pub opening_stands : (p : PlainProblem) → IsValid p → (best : ℤ) → IsStanding p best (opening_content p)
opening_stands p valid best = record {
  keeps = opening_keeps_solutions p valid best;
  small = members_small p valid;
  inside = record { long = refl; each = λ variable value within has. has };
  layers = opening_layered p.domains p.groups;
}

-- fewer values, or a lower bound
pub fewer_stands : (p : PlainProblem) (best lower : ℤ) (at : Content) (domains : List ℕ) → AreInside domains at.domains → All (λ set. set < 2 ^ 128) domains → lower ≤ℤ best → IsStanding p best at → IsStanding p lower (record at { domains = domains })
fewer_stands p best lower at domains inside small less stands = record {
  keeps = keeps_fewer p best lower at domains inside less stands.keeps;
  small = small;
  inside = record {
    long = inside.long ∙ stands.inside.long;
    each = λ variable value within has. let there : variable < length at.domains = omega (arith, within, inside.long) in stands.inside.each variable value there (inside.each variable value within has);
  };
  layers = stands.layers;
}
