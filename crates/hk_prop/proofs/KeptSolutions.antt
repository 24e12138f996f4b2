-- The passes of a node keep every solution: its tables go on keeping it, and its values stay in the domains.
use Rattle.std.proofs.Common.{◌≡◌, ℕ, ℤ, suc, ◌+◌, ◌<◌, ◌≤ℤ◌, eqb, ◌&&◌, ◌||◌, Bool, true, false, List, [], ◌∷◌, length, get_or, map, slice_index, Option, None, Some, IsSome, refl, ap, ◌∙◌, subst, arith}
use Rattle.std.specs.Int.{bit_at}
use Rattle.std.proofs.lemmas.Bool.{eqb-true}
use Rattle.std.proofs.lemmas.Int.{ints}
use Rattle.std.proofs.lemmas.List.{length-map, get_or-map}
use Rattle.std.proofs.lemmas.List.Folds.{list_any_at}
use Rattle.std.proofs.lemmas.List.Quantifiers.{position-Some}
use Rattle.std.proofs.lemmas.Nat.Bits.{bit_at-zero}
use Rattle.std.proofs.lemmas.Option.{slice_get_within}
use Rattle.hk_base.specs.Sets.{Has}
use Rattle.hk_spec.specs.Monotone.{IsMonotone}
use Rattle.hk_spec.specs.Runs.{Accepts}
use Rattle.hk_group.specs.Groups.{Part, PlainGroup, IsGroup, place_in}
use Rattle.hk_group.specs.Grouping.{parts_in}
use Rattle.hk_group.specs.Problems.{PlainProblem, IsValid}
use Rattle.hk_group.specs.Solutions.{scope_values}
use Rattle.hk_group.proofs.PartRuns.{accepts_where_parts_do}
use Rattle.hk_layers.specs.Transitions.{layer_sets}
use Rattle.hk_sweep.specs.Loose.{group_shape}
use Rattle.hk_sweep.specs.Tight.{tight_revision}
use Rattle.hk_sweep.specs.Widths.{HasFirstRow, has_first_row}
use Rattle.hk_sweep.proofs.GroupTransitions.{loose_revision_keeps}
use Rattle.hk_sweep.proofs.TightGroups.{group_is_loose}
use Rattle.hk_table.specs.Keeps.{Keeps, KeepsFrom, keeps_last, keeps_layer, LieIn, lie_none, lie_more}
use Rattle.hk_table.specs.Members.{Member, first, later}
use Rattle.hk_table.specs.Opening.{opening_table}
use Rattle.hk_table.specs.Tables.{PlainRow}
use Rattle.hk_table.proofs.KeptValues.{kept_supported}
use Rattle.hk_table.proofs.Members.{All-member, All-from_members}
use Rattle.hk_table.proofs.Openings.{opening_keeps}
use Rattle.hk_text.specs.Sets.{members}
use Rattle.hk_prop.specs.Contents.{PlainTable, Content, opening_content, first_empty, has_empty}
use Rattle.hk_prop.specs.Keeping.{IsSolutionIn, KeepEach, keep_none, keep_more, KeepsSolutions, LosesNone, HasNone, AreInside}
use Rattle.hk_prop.specs.Passes.{pass, tight_tables, node_passes}
use Rattle.hk_prop.specs.Supports.{allows_at, all_allow, supports}
use Rattle.hk_prop.proofs.Declared.{group_declared, part_among}
use Rattle.hk_prop.proofs.Fuel.{after_passes}
use Rattle.hk_prop.proofs.Prunings.{pruned_has, pruned_long}
use Rattle.hk_prop.proofs.SoundParts.{IsSound, all_sound, value_small}
use Rattle.hk_prop.proofs.SupportTests.{supports_holds}

-- a table that keeps something has a layer for each list of values, and a last one
kept_long : {values : List (List ℕ)} {table : PlainTable} {c : ℕ} {assignment : List ℕ} → KeepsFrom values table c assignment → length table ≡ length values + 1
kept_long (keeps_last within) = omega arith
kept_long (keeps_layer there leads rest) = omega (arith, kept_long rest)

-- and a first row, where it keeps it from there
row_of : (layer : List PlainRow) (layers : PlainTable) → 0 < length layer → HasFirstRow (layer ∷ layers)
row_of [] layers some = absurd (omega arith)
row_of (row ∷ rows) layers some = has_first_row

kept_begins : {values : List (List ℕ)} {table : PlainTable} {assignment : List ℕ} → KeepsFrom values table 0 assignment → HasFirstRow table
kept_begins (keeps_last {last = last} within) = row_of last [] within
kept_begins (keeps_layer {layer = layer} {layers = layers} {row = row} there leads rest) = row_of layer layers (slice_get_within layer 0 row there)

-- the values of variables lie in their sets
lie_in : (sets values vars : List ℕ) → ((variable : ℕ) → Member variable vars → Has (slice_index sets variable) (slice_index values variable) × (slice_index values variable < 128))
    → LieIn (map (λ variable. slice_index sets variable) vars) (map (λ variable. slice_index values variable) vars)
lie_in sets values [] each = lie_none
lie_in sets values (x ∷ vars) each = lie_more (each x first).0 (each x first).1 (lie_in sets values vars (λ y m. each y (later m)))

module _ (p : PlainProblem) (valid : IsValid p) (width : ℕ) (some : 0 < width) (best : ℤ) where
  module _ (domains : List ℕ) (long : length domains ≡ length p.domains) (values : List ℕ) (is : IsSolutionIn p domains best values) where
    sound : (part : Part) → Member part (parts_in p.groups) → IsSound p best values part
    sound part m = all_sound p valid best values is.solution.inside is.solution.hold is.cheap part m

    value_below : (variable : ℕ) → variable < length p.domains → slice_index values variable < 128
    value_below variable within = let domain = valid.domains variable 0 within in value_small (slice_index p.domains variable) (slice_index values variable) domain.small (is.solution.inside variable within)

    group_rules : (g : PlainGroup) → Member g p.groups → IsGroup g
    group_rules g m = All-member IsGroup valid.groups m

    -- the revision of one group's table keeps the solution
    table_kept : (g : PlainGroup) (table : PlainTable) → Member g p.groups → Keeps (group_shape g p.domains) table (scope_values g.vars values) → Keeps (group_shape g p.domains) (tight_revision g p.domains domains best width table) (scope_values g.vars values)
    table_kept g table m kept =
        let rules : IsGroup g = group_rules g m in
        let layers : length table ≡ length g.vars + 1 = omega (arith, kept_long kept, length-map (layer_sets g p.domains) members, length-map g.vars (λ variable. slice_index p.domains variable)) in
        loose_revision_keeps g p.domains domains best table (tight_revision g p.domains domains best width table) (scope_values g.vars values) rules
        (All-from_members (λ (part : Part). IsMonotone part.bound) g.parts (λ part among. (sound part (part_among m among)).monotone))
        (group_is_loose g p.domains domains best width table rules some layers (kept_begins kept)) kept
        (lie_in domains values g.vars (λ variable among. (is.inside variable (omega (arith, group_declared p valid g m variable among, long)), value_below variable (group_declared p valid g m variable among))))
        ((accepts_where_parts_do g best (λ variable. slice_index values variable) rules).1 (All-from_members (λ (part : Part). Accepts part.bound best (scope_values part.scope values)) g.parts (λ part among. (sound part (part_among m among)).accepts)))

    -- and so do those of all groups
    tables_kept : (groups : List PlainGroup) (tables : List PlainTable) → ((g : PlainGroup) → Member g groups → Member g p.groups) → KeepEach p.domains values groups tables → KeepEach p.domains values groups (tight_tables groups p.domains domains best width tables)
    tables_kept _ _ among keep_none = keep_none
    tables_kept _ _ among (keep_more {g = g} {groups = groups} {table = table} {tables = tables} kept rest) =
        keep_more (table_kept g table (among g first) kept) (tables_kept groups tables (λ h m. among h (later m)) rest)

    -- a table that keeps the solution allows its values
    allowed_by : (g : PlainGroup) (table : PlainTable) (variable : ℕ) → Keeps (group_shape g p.domains) table (scope_values g.vars values) → (place : Option ℕ) → place_in g.vars variable ≡ place → allows_at (group_shape g p.domains) table place (slice_index values variable) ≡ true
    allowed_by g table variable kept None at = refl
    allowed_by g table variable kept (Some level) at =
        let found = position-Some (λ other. eqb other variable) g.vars level 0 at in
        let here : get_or g.vars level 0 ≡ variable = eqb-true (get_or g.vars level 0) variable found.1 in
        let value_is : slice_index (scope_values g.vars values) level ≡ slice_index values variable = get_or-map (λ v. slice_index values v) g.vars level 0 0 found.0 ∙ ap (λ v. slice_index values v) here in
        let within : level < length (scope_values g.vars values) = omega (arith, found.0, length-map g.vars (λ v. slice_index values v)) in
        subst (λ v. supports (group_shape g p.domains) table level v ≡ true) value_is (supports_holds (kept_supported kept level within))

    all_allowed : (groups : List PlainGroup) (tables : List PlainTable) (variable : ℕ) → KeepEach p.domains values groups tables → all_allow p.domains groups tables variable (slice_index values variable) ≡ true
    all_allowed _ _ variable keep_none = refl
    all_allowed _ _ variable (keep_more {g = g} {groups = groups} {table = table} {tables = tables} kept rest) =
        both (allowed_by g table variable kept (place_in g.vars variable) refl) (all_allowed groups tables variable rest)
      where
        both : {a b : Bool} → a ≡ true → b ≡ true → (a && b) ≡ true
        both {b = b} e f = ap (λ c. c && b) e ∙ f

  -- a pass keeps the solutions and loses none
  pub pass_keeps : (at : Content) → KeepsSolutions p best at → KeepsSolutions p best (pass p width best at) × LosesNone p best at.domains (pass p width best at).domains
  pass_keeps at keeps = (
    record {
      one_each = omega (arith, pruned_long (all_allow p.domains p.groups (pass p width best at).tables) 0 at.domains, keeps.one_each);
      keeps = λ values is. tables_kept at.domains keeps.one_each values (before values is) p.groups at.tables (λ g m. m) (keeps.keeps values (before values is));
    },
    λ values is. record {
      solution = is.solution;
      inside = λ variable within.
          let inside : variable < length at.domains = omega (arith, within, pruned_long (all_allow p.domains p.groups (pass p width best at).tables) 0 at.domains) in
          (pruned_has (all_allow p.domains p.groups (pass p width best at).tables) at.domains variable (slice_index values variable) inside).1 (
            value_below at.domains keeps.one_each values is variable (omega (arith, inside, keeps.one_each)),
            is.inside variable inside,
            all_allowed at.domains keeps.one_each values is p.groups (pass p width best at).tables variable (tables_kept at.domains keeps.one_each values is p.groups at.tables (λ g m. m) (keeps.keeps values is)),
          );
      cheap = is.cheap;
    },
  )
    where
      before : (values : List ℕ) → IsSolutionIn p (pass p width best at).domains best values → IsSolutionIn p at.domains best values
      before values is = record {
        solution = is.solution;
        inside = λ variable within.
            ((pruned_has (all_allow p.domains p.groups (pass p width best at).tables) at.domains variable (slice_index values variable) within).0
            (is.inside variable (omega (arith, within, pruned_long (all_allow p.domains p.groups (pass p width best at).tables) 0 at.domains)))).1;
        cheap = is.cheap;
      }

  -- and so do the passes of a node
  pub node_keeps : (at : Content) → KeepsSolutions p best at → KeepsSolutions p best (node_passes p width best at).last × LosesNone p best at.domains (node_passes p width best at).last.domains
  node_keeps at keeps = after_passes p width best (λ c. KeepsSolutions p best c × LosesNone p best at.domains c.domains)
      (λ c both. let next = pass_keeps c both.0 in (next.0, λ values is. next.1 values (both.1 values is))) _ at (keeps, λ values is. is)

-- the place of a set without values
record IsEmptyAt (sets : List ℕ) : Type 0 where
  place : ℕ
  within : place < length sets
  none : slice_index sets place ≡ 0

empty_at : (sets : List ℕ) → has_empty sets ≡ true → IsEmptyAt sets
empty_at [] any = cc
empty_at (x ∷ xs) any = by (eqb x 0) refl any (λ rest. empty_at xs rest)
  where
    by : (b : Bool) → eqb x 0 ≡ b → (b || has_empty xs) ≡ true → (has_empty xs ≡ true → IsEmptyAt xs) → IsEmptyAt (x ∷ xs)
    by true here any more = record { place = 0; within = omega arith; none = eqb-true x 0 here }
    by false here any more = let rest = more any in record { place = suc rest.place; within = omega (arith, rest.within); none = rest.none }

-- where a domain is empty no solution is in the domains
pub empty_has_none : (p : PlainProblem) (best : ℤ) (domains : List ℕ) → has_empty domains ≡ true → HasNone p best domains
empty_has_none p best domains empty values is =
    let at = empty_at domains empty in
    let has : Has 0 (slice_index values at.place) = subst (λ s. Has s (slice_index values at.place)) at.none (is.inside at.place at.within) in
    let none : bit_at 0 (slice_index values at.place) ≡ 0 = bit_at-zero (slice_index values at.place) in let one : bit_at 0 (slice_index values at.place) ≡ 1 = has in absurd (omega arith)

-- the opening tables keep every solution
opening_kept : (p : PlainProblem) (valid : IsValid p) (values : List ℕ) (groups : List PlainGroup) → ((g : PlainGroup) → Member g groups → (variable : ℕ) → Member variable g.vars → Has (slice_index p.domains variable) (slice_index values variable) × (slice_index values variable < 128))
    → KeepEach p.domains values groups (map (λ g. opening_table (group_shape g p.domains)) groups)
opening_kept p valid values [] each = keep_none
opening_kept p valid values (g ∷ groups) each =
    keep_more (opening_keeps (group_shape g p.domains).down (group_shape g p.domains).up (lie_in p.domains values g.vars (each g first))) (opening_kept p valid values groups (λ h m. each h (later m)))

pub opening_keeps_solutions : (p : PlainProblem) → IsValid p → (best : ℤ) → KeepsSolutions p best (opening_content p)
opening_keeps_solutions p valid best = record {
  one_each = refl;
  keeps = λ values is. opening_kept p valid values p.groups (λ g m variable among.
      let within = group_declared p valid g m variable among in
      let domain = valid.domains variable 0 within in
      (is.inside variable within, value_small (slice_index p.domains variable) (slice_index values variable) domain.small (is.inside variable within)));
}

-- fewer values, or a lower bound: what is kept is kept
pub keeps_fewer : (p : PlainProblem) (best lower : ℤ) (at : Content) (domains : List ℕ) → AreInside domains at.domains → lower ≤ℤ best → KeepsSolutions p best at → KeepsSolutions p lower (record at { domains = domains })
keeps_fewer p best lower at domains inside less keeps = record {
  one_each = inside.long ∙ keeps.one_each;
  keeps = λ values is. keeps.keeps values (record {
    solution = is.solution;
    inside = λ variable within. let there : variable < length domains = omega (arith, within, inside.long) in inside.each variable (slice_index values variable) there (is.inside variable there);
    cheap = let cheap = is.cheap in omega (arith, ints);
  });
}

-- where there is a first empty domain, there is one
pub empty_where_first : (domains : List ℕ) → IsSome (first_empty domains) → has_empty domains ≡ true
empty_where_first domains some = by (first_empty domains) refl some
  where
    by : (o : Option ℕ) → first_empty domains ≡ o → IsSome o → has_empty domains ≡ true
    by None none is = cc
    by (Some x) at is = let found = position-Some (λ s. eqb s 0) domains x 0 at in list_any_at (λ s. eqb s 0) domains x 0 found.0 found.1
