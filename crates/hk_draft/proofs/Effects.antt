-- A statement without a fault has an effect, and one with a fault has none.
use Rattle.std.proofs.Common.{◌≡◌, ℕ, ◌<◌, ◌≤◌, ℤ, pos, ◌≤ℤ◌, neg_ℤ, ◌⊎◌, inl, inr, ⊎_elim, List, [], ◌∷◌, ◌++◌, length, map, Option, None, Some, IsSome, true, refl, sym, subst, ◌∙◌, arith}
use Rattle.std.specs.Prelude.{All, Any}
use Rattle.std.specs.List.Sorted.{IsStrictlyIncreasing}
use Rattle.std.proofs.Math.Decide.{map_dec}
use Rattle.std.proofs.lemmas.Bool.{cases_lt}
use Rattle.std.proofs.lemmas.Int.{by_lt_z, ints}
use Rattle.hk_group.specs.declared.linear.Linear.{Linear}
use Rattle.hk_group.specs.declared.problem.Constraint.TheVariants.{AllDifferent, Among as AmongConstraint, Sequence as SequenceConstraint, Gcc as GccConstraint, Sum}
use Rattle.hk_group.specs.Limits.{most_variables, value_count, most_name_bytes, greatest_coefficient}
use Rattle.hk_base.specs.Limits.{number_limit}
use Rattle.hk_draft.specs.Faults.{used_names, IsNameFault, declared_twice, not_declared, listed_twice, second_objective, IsLimitFault, long_name, large_value, turned_range, no_value, many_variables, many_differ, many_amongs, large_among, many_sequences, odd_window, large_sequence, many_gccs, large_row, no_row, many_totals, large_least, large_most, large_total_coef, large_coef, no_group, IsScopeFault}
use Rattle.hk_lines.specs.Phrases.{Values, Row}
use Rattle.hk_group.specs.Problems.{IsWithin}
use Rattle.hk_draft.specs.Drafts.{PlainDraft}
use Rattle.hk_lines.specs.Statements.{Statement, Header, Variable, Distinct, Among, Sequence, Gcc, Total, Objective, NewGroup}
use Rattle.hk_draft.specs.Declares.{MayStand, place_of, term_names, term_coefs, AddsVariable, AreNamesOf, made_row, Declares, declares_header, declares_variable, declares_distinct, declares_among, declares_sequence, declares_gcc, declares_total, declares_objective, declares_group}
use Rattle.hk_text.proofs.Deciding.{dec_both, dec_rising}
use Rattle.hk_lines.proofs.Domains.{domain_of}
use Rattle.hk_lines.proofs.Elements.{any_nil, any_first, any_later, any_cases, each_not_some, each_from_none}
use Rattle.hk_draft.proofs.CountDecisions.{since, dec_small_counting, dec_window, dec_small_rows, dec_once}
use Rattle.hk_draft.proofs.OneEffect.{same_places, with_objective}
use Rattle.hk_draft.proofs.Rooms.{constraint_effect, group_since}

-- whether a number is no greater than another
pub dec_le_z : (a b : ℤ) → Dec (a ≤ℤ b)
dec_le_z a b = by_lt_z b a (λ less. no (λ le. omega (arith, ints))) (λ le. yes le)

-- whether a number is at most so great in size
pub dec_within : (size n : ℤ) → Dec (IsWithin size n)
dec_within size n = map_dec (λ both. record { above = both.0; below = both.1 }) (λ within. (within.above, within.below)) (dec_both (dec_le_z (neg_ℤ size) n) (dec_le_z n size))

-- whether a coefficient is within the limit, and whether a bound is
pub dec_coefficient : (coef : ℤ) → Dec (IsWithin greatest_coefficient coef)
dec_coefficient coef = dec_within greatest_coefficient coef

pub dec_within_limit : (n : ℤ) → Dec (IsWithin number_limit n)
dec_within_limit n = dec_within number_limit n

-- what is not refuted is within a size
within_since : (size n : ℤ) → ((IsWithin size n → ⊥) → ⊥) → IsWithin size n
within_since size n none = by (dec_within size n)
  where
    by : Dec (IsWithin size n) → IsWithin size n
    by (yes within) = within
    by (no large) = absurd (none large)

-- what is not refuted is no greater
pub le_since : (m n : ℕ) → (n < m → ⊥) → m ≤ n
le_since m n none = ⊎_elim (λ less. absurd (none less)) (λ le. le) (cases_lt n m)

pub lt_since : (m n : ℕ) → (n ≤ m → ⊥) → m < n
lt_since m n none = ⊎_elim (λ less. less) (λ le. absurd (none le)) (cases_lt m n)

-- an option that is not some is none
pub none_since : {A : Type 0} (o : Option A) → (IsSome o → ⊥) → o ≡ None
none_since None none = refl
none_since (Some x) none = absurd (none refl)

-- an option that is none is not some
some_not_none : {A : Type 0} (o : Option A) → o ≡ None → IsSome o → ⊥
some_not_none None is some = cc
some_not_none (Some x) is some = cc

module _ (declared : List (List ℕ)) where
  -- some of the names is not declared, or each has a place
  pub scope_of : (names : List (List ℕ)) → Any (λ name. place_of declared name ≡ None) names ⊎ ((scope : List ℕ) × (map (place_of declared) names ≡ map Some scope))
  scope_of [] = inr ([], refl)
  scope_of (name ∷ names) = by (place_of declared name) refl (scope_of names)
    where
      by : (place : Option ℕ) → place_of declared name ≡ place → Any (λ name. place_of declared name ≡ None) names ⊎ ((scope : List ℕ) × (map (place_of declared) names ≡ map Some scope))
          → Any (λ name. place_of declared name ≡ None) (name ∷ names) ⊎ ((scope : List ℕ) × (map (place_of declared) (name ∷ names) ≡ map Some scope))
      by None is rest = inl (any_first (λ name. place_of declared name ≡ None) name names is)
      by (Some place) is (inl none) = inl (any_later (λ name. place_of declared name ≡ None) name names none)
      by (Some place) is (inr (scope, places)) = inr (place ∷ scope, (λ i. is i ∷ places i))

  -- the places of names that are all declared
  pub places_of : (names : List (List ℕ)) → (Any (λ name. place_of declared name ≡ None) names → ⊥) → (scope : List ℕ) × (map (place_of declared) names ≡ map Some scope)
  places_of names all = ⊎_elim (λ none. absurd (all none)) (λ found. found) (scope_of names)

  -- names have no places where one is not declared
  pub no_places_of : (names : List (List ℕ)) → Any (λ name. place_of declared name ≡ None) names → (scope : List ℕ) → map (place_of declared) names ≡ map Some scope → ⊥
  no_places_of [] none scope places = any_nil (λ name. place_of declared name ≡ None) none
  no_places_of (name ∷ names) none [] places = cc
  no_places_of (name ∷ names) none (place ∷ scope) places =
      let first : place_of declared name ≡ Some place = cc in
      let rest : map (place_of declared) names ≡ map Some scope = cc in
      ⊎_elim (λ is. cc) (λ later. no_places_of names later scope rest) (any_cases (λ name. place_of declared name ≡ None) name names none)

-- a statement's set, where it has no limit fault
module _ (before : PlainDraft) (name : List ℕ) (set : List Values) (fits : IsLimitFault before (Variable name set) → ⊥) where
  some_item : 0 < length set
  some_item = by set fits
    where
      by : (set : List Values) → (IsLimitFault before (Variable name set) → ⊥) → 0 < length set
      by [] fits = absurd (fits no_value)
      by (values ∷ more) fits = omega arith

  ordered_items : All (λ values. values.first ≤ values.last) set
  ordered_items = each_from_none (λ values. values.first ≤ values.last) (λ values. values.last < values.first) (λ values. le_since values.first values.last) set (λ turned. fits (turned_range turned))

  small_items : All (λ values. values.last < value_count) set
  small_items = each_from_none (λ values. values.last < value_count) (λ values. value_count ≤ values.last) (λ values. lt_since values.last value_count) set (λ large. fits (large_value large))

-- a variable without a fault
variable_effect : (before : PlainDraft) (name : List ℕ) (set : List Values) → (IsNameFault before (Variable name set) → ⊥) → (IsLimitFault before (Variable name set) → ⊥)
    → (after : PlainDraft) × AddsVariable name set before after
variable_effect before name set named fits =
    let ordered = ordered_items before name set fits in
    let within = small_items before name set fits in
    let domain = domain_of set ordered within in (
      record before { names = before.names ++ name ∷ []; domains = before.domains ++ domain.0 ∷ [] },
      record {
        short = le_since (length name) most_name_bytes (λ long. fits (long_name long));
        new = none_since (place_of before.names name) (λ some. named (declared_twice some));
        some = some_item before name set fits;
        ordered = ordered;
        within = within;
        room = lt_since (length before.names) most_variables (λ many. fits (many_variables many));
        domain = domain.0;
        is_set = domain.1;
        added = refl;
      },
    )

-- the names of a statement without a fault
names_effect : (before : PlainDraft) (s : Statement) → (IsNameFault before s → ⊥) → (IsScopeFault before s → ⊥) → (scope : List ℕ) × AreNamesOf (used_names s) before scope
names_effect before s named ordered =
    let found = places_of before.names (used_names s) (λ none. named (not_declared none)) in
    (found.0, record { declared = found.1; rising = rising found.0 (dec_rising found.0) found.1 })
  where
    rising : (scope : List ℕ) → Dec (IsStrictlyIncreasing scope) → map (place_of before.names) (used_names s) ≡ map Some scope → IsStrictlyIncreasing scope
    rising scope (yes rises) places = rises
    rising scope (no falls) places = absurd (ordered (record { scope = scope; places = places; falls = falls }))

-- the coefficients of terms without a fault
small_coefs : (coefs : List ℤ) → (Any (λ coef. IsWithin greatest_coefficient coef → ⊥) coefs → ⊥) → All (IsWithin greatest_coefficient) coefs
small_coefs coefs none = each_from_none (IsWithin greatest_coefficient) (λ coef. IsWithin greatest_coefficient coef → ⊥) (λ coef. within_since greatest_coefficient coef) coefs none

-- the rows of a gcc without a fault are some
some_rows : (before : PlainDraft) (names : List (List ℕ)) (rows : List Row) → (IsLimitFault before (Gcc names rows) → ⊥) → 0 < length rows
some_rows before names [] fits = absurd (fits no_row)
some_rows before names (row ∷ rows) fits = omega arith

-- a statement that may stand there and has no fault has an effect
pub effect_of : (before : PlainDraft) (s : Statement) → MayStand (Some before) s → (IsNameFault before s → ⊥) → (IsLimitFault before s → ⊥) → (IsScopeFault before s → ⊥)
    → (after : PlainDraft) × Declares (Some before) s (Some after)
effect_of before Header stands named fits ordered = absurd stands
effect_of before (Variable name set) stands named fits ordered =
    let effect = variable_effect before name set named fits in
    (effect.0, declares_variable effect.1)
effect_of before (Distinct names) stands named fits ordered =
    let scope = names_effect before (Distinct names) named ordered in (
      _,
      declares_distinct scope.1 (constraint_effect before (Distinct names) (AllDifferent scope.0) tt (λ many. many_differ many) fits),
    )
effect_of before (Among counting) stands named fits ordered =
    let scope = names_effect before (Among counting) named ordered in
    let small = since (dec_small_counting counting) (λ large. fits (large_among large)) in
    let set = domain_of counting.set small.ordered small.within in (
      _,
      declares_among scope.1 small set.1
          (constraint_effect before (Among counting) (AmongConstraint scope.0 set.0 (pos counting.least) (pos counting.most)) tt (λ many. many_amongs many) fits),
    )
effect_of before (Sequence window counting) stands named fits ordered =
    let scope = names_effect before (Sequence window counting) named ordered in
    let is_window = since (dec_window window) (λ odd. fits (odd_window odd)) in
    let small = since (dec_small_counting counting) (λ large. fits (large_sequence large)) in
    let set = domain_of counting.set small.ordered small.within in (
      _,
      declares_sequence scope.1 is_window small set.1
          (constraint_effect before (Sequence window counting) (SequenceConstraint scope.0 window set.0 (pos counting.least) (pos counting.most)) tt (λ many. many_sequences many) fits),
    )
effect_of before (Gcc names rows) stands named fits ordered =
    let scope = names_effect before (Gcc names rows) named ordered in
    let once = since (dec_once rows) (λ twice. named (listed_twice twice)) in
    let small = since (dec_small_rows rows) (λ large. fits (large_row large)) in (
      _,
      declares_gcc scope.1 (some_rows before names rows fits) once small (constraint_effect before (Gcc names rows) (GccConstraint scope.0 (map made_row rows)) tt (λ many. many_gccs many) fits),
    )
effect_of before (Total terms least most) stands named fits ordered =
    let scope = names_effect before (Total terms least most) named ordered in (
      _,
      declares_total
          scope.1
          (small_coefs (term_coefs terms) (λ large. fits (large_total_coef large)))
          (within_since number_limit least (λ large. fits (large_least large)))
          (within_since number_limit most (λ large. fits (large_most large)))
          (constraint_effect before (Total terms least most) (Sum scope.0 (term_coefs terms) least most) tt (λ many. many_totals many) fits),
    )
effect_of before (Objective terms) stands named fits ordered =
    let scope = names_effect before (Objective terms) named ordered in
    let objective : Linear = record { scope = scope.0; coefs = term_coefs terms } in (
      with_objective before objective,
      declares_objective
          scope.1
          (small_coefs (term_coefs terms) (λ large. fits (large_coef large)))
          (record { new = none_since before.objective (λ some. named (second_objective some)); group = group_since {s = Objective terms} tt fits; added = refl }),
    )
effect_of before NewGroup stands named fits ordered = (record before { fresh = true }, declares_group)

-- a statement that has an effect may stand there
pub effect_stands : {before after : Option PlainDraft} {s : Statement} → Declares before s after → MayStand before s
effect_stands declares_header = tt
effect_stands (declares_variable adds) = tt
effect_stands (declares_distinct names adds) = tt
effect_stands (declares_among names small is_set adds) = tt
effect_stands (declares_sequence names is_window small is_set adds) = tt
effect_stands (declares_gcc names some once small adds) = tt
effect_stands (declares_total names coefs least most adds) = tt
effect_stands (declares_objective names coefs adds) = tt
effect_stands declares_group = tt

-- a statement with a name fault has no effect
pub named_no_effect : {before : PlainDraft} {after : Option PlainDraft} {s : Statement} → IsNameFault before s → Declares (Some before) s after → ⊥
named_no_effect {before = before} (declared_twice {name = name} some) (declares_variable adds) = some_not_none (place_of before.names name) adds.new some
named_no_effect (not_declared none) (declares_variable adds) = any_nil _ none
named_no_effect {before = before} (not_declared none) (declares_distinct {names = names} {scope = scope} are adds) = no_places_of before.names names none scope are.declared
named_no_effect {before = before} (not_declared none) (declares_among {counting = counting} {scope = scope} are small is_set adds) = no_places_of before.names counting.names none scope are.declared
named_no_effect {before = before} (not_declared none) (declares_sequence {counting = counting} {scope = scope} are is_window small is_set adds) = no_places_of before.names counting.names none scope are.declared
named_no_effect {before = before} (not_declared none) (declares_gcc {names = names} {scope = scope} are some once small adds) = no_places_of before.names names none scope are.declared
named_no_effect (listed_twice twice) (declares_gcc are some once small adds) = twice once
named_no_effect {before = before} (not_declared none) (declares_total {terms = terms} {scope = scope} are coefs least most adds) = no_places_of before.names (term_names terms) none scope are.declared
named_no_effect {before = before} (not_declared none) (declares_objective {terms = terms} {scope = scope} are coefs adds) = no_places_of before.names (term_names terms) none scope are.declared
named_no_effect {before = before} (second_objective some) (declares_objective are coefs adds) = some_not_none before.objective adds.new some
named_no_effect (not_declared none) declares_group = any_nil _ none

-- some number out of a limit and all within it
limits_apart : (coefs : List ℤ) → All (IsWithin greatest_coefficient) coefs → Any (λ coef. IsWithin greatest_coefficient coef → ⊥) coefs → ⊥
limits_apart coefs small large = each_not_some (IsWithin greatest_coefficient) (λ coef. IsWithin greatest_coefficient coef → ⊥) (λ coef within none. none within) coefs small large

-- a statement with a limit fault has no effect
pub limited_no_effect : {before : PlainDraft} {after : Option PlainDraft} {s : Statement} → IsLimitFault before s → Declares (Some before) s after → ⊥
limited_no_effect (long_name long) (declares_variable adds) = let short = adds.short in omega (arith, long, short)
limited_no_effect (large_value {set = set} large) (declares_variable adds) = each_not_some (λ values. values.last < value_count) (λ values. value_count ≤ values.last) (λ values less more. omega arith) set adds.within large
limited_no_effect (turned_range {set = set} turned) (declares_variable adds) = each_not_some (λ values. values.first ≤ values.last) (λ values. values.last < values.first) (λ values le more. omega arith) set adds.ordered turned
limited_no_effect no_value (declares_variable adds) = let some = adds.some in omega (arith, some)
limited_no_effect (many_variables many) (declares_variable adds) = let room = adds.room in omega (arith, many, room)
limited_no_effect (many_differ many) (declares_distinct are adds) = let room = adds.room in omega (arith, many, room)
limited_no_effect (many_amongs many) (declares_among are small is_set adds) = let room = adds.room in omega (arith, many, room)
limited_no_effect (large_among large) (declares_among are small is_set adds) = large small
limited_no_effect (many_sequences many) (declares_sequence are is_window small is_set adds) = let room = adds.room in omega (arith, many, room)
limited_no_effect (odd_window odd) (declares_sequence are is_window small is_set adds) = odd is_window
limited_no_effect (large_sequence large) (declares_sequence are is_window small is_set adds) = large small
limited_no_effect (many_gccs many) (declares_gcc are some once small adds) = let room = adds.room in omega (arith, many, room)
limited_no_effect (large_row large) (declares_gcc are some once small adds) = large small
limited_no_effect no_row (declares_gcc are some once small adds) = omega (arith, some)
limited_no_effect (many_totals many) (declares_total are coefs least most adds) = let room = adds.room in omega (arith, many, room)
limited_no_effect (large_least large) (declares_total are coefs least most adds) = large least
limited_no_effect (large_most large) (declares_total are coefs least most adds) = large most
limited_no_effect (large_total_coef {terms = terms} large) (declares_total are coefs least most adds) = limits_apart (term_coefs terms) coefs large
limited_no_effect (large_coef {terms = terms} large) (declares_objective are coefs adds) = limits_apart (term_coefs terms) coefs large
limited_no_effect (no_group content none) (declares_variable adds) = absurd content
limited_no_effect (no_group content none) (declares_distinct are adds) = none adds.group
limited_no_effect (no_group content none) (declares_among are small is_set adds) = none adds.group
limited_no_effect (no_group content none) (declares_sequence are is_window small is_set adds) = none adds.group
limited_no_effect (no_group content none) (declares_gcc are some once small adds) = none adds.group
limited_no_effect (no_group content none) (declares_total are coefs least most adds) = none adds.group
limited_no_effect (no_group content none) (declares_objective are coefs adds) = none adds.group
limited_no_effect (no_group content none) declares_group = absurd content

-- no places rise
pub no_places_rise : (scope : List ℕ) → [] ≡ map Some scope → (IsStrictlyIncreasing scope → ⊥) → ⊥
no_places_rise [] places falls = falls (λ k within. absurd (omega (arith, within)))
no_places_rise (place ∷ scope) places falls = cc

-- a scope that falls is none of an effect
falls_apart : {names : List (List ℕ)} {before : PlainDraft} {other : List ℕ} → AreNamesOf names before other → (scope : List ℕ) → map (place_of before.names) names ≡ map Some scope → (IsStrictlyIncreasing scope → ⊥) → ⊥
falls_apart {other = other} are scope places falls = falls (subst IsStrictlyIncreasing (same_places other scope (sym are.declared ∙ places)) are.rising)

-- a statement with a scope fault has no effect
pub unordered_no_effect : {before : PlainDraft} {after : Option PlainDraft} {s : Statement} → IsScopeFault before s → Declares (Some before) s after → ⊥
unordered_no_effect fault (declares_variable adds) = no_places_rise fault.scope fault.places fault.falls
unordered_no_effect fault (declares_distinct are adds) = falls_apart are fault.scope fault.places fault.falls
unordered_no_effect fault (declares_among are small is_set adds) = falls_apart are fault.scope fault.places fault.falls
unordered_no_effect fault (declares_sequence are is_window small is_set adds) = falls_apart are fault.scope fault.places fault.falls
unordered_no_effect fault (declares_gcc are some once small adds) = falls_apart are fault.scope fault.places fault.falls
unordered_no_effect fault (declares_total are coefs least most adds) = falls_apart are fault.scope fault.places fault.falls
unordered_no_effect fault (declares_objective are coefs adds) = falls_apart are fault.scope fault.places fault.falls
unordered_no_effect fault declares_group = no_places_rise fault.scope fault.places fault.falls
