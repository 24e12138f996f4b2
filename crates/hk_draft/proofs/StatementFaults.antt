-- The faults of a statement are decided.
use Rattle.std.proofs.Common.{◌≡◌, ℕ, ◌<◌, ◌≤◌, ℤ, ◌⊎◌, inl, inr, List, [], ◌∷◌, length, map, Option, None, Some, IsSome, is_some, refl, subst, sym, ◌∙◌}
use Rattle.std.specs.Prelude.{All, Any}
use Rattle.std.specs.List.Sorted.{IsStrictlyIncreasing}
use Rattle.std.proofs.Math.Decide.{map_dec, dec_le, dec_lt}
use Rattle.hk_group.specs.Limits.{most_variables, value_count, most_name_bytes, most_constraints, greatest_coefficient}
use Rattle.hk_base.specs.Limits.{number_limit}
use Rattle.hk_draft.specs.Faults.{used_names, IsNameFault, declared_twice, not_declared, listed_twice, second_objective, IsLimitFault, long_name, large_value, turned_range, no_value, many_variables, many_differ, many_amongs, large_among, many_sequences, odd_window, large_sequence, many_gccs, large_row, no_row, many_totals, large_least, large_most, large_total_coef, large_coef, no_group, IsScopeFault}
use Rattle.hk_lines.specs.Phrases.{Values, Term, Row, Counting}
use Rattle.hk_group.specs.Problems.{IsWithin}
use Rattle.hk_draft.specs.Drafts.{PlainDraft, HasGroup}
use Rattle.hk_lines.specs.Statements.{Statement, Header, Variable, Distinct, Among, Sequence, Gcc, Total, Objective, NewGroup}
use Rattle.hk_draft.specs.Declares.{MayStand, place_of, term_names, term_coefs, IsSmallCounting, IsWindow, IsSmallRow, AreOnce}
use Rattle.hk_text.proofs.Deciding.{dec_either, dec_true, dec_not, dec_rising, dec_any}
use Rattle.hk_draft.proofs.CountDecisions.{dec_small_counting, dec_window, dec_small_rows, dec_once}
use Rattle.hk_draft.proofs.Effects.{dec_coefficient, dec_within_limit, scope_of, no_places_of}
use Rattle.hk_lines.proofs.Elements.{any_nil}
use Rattle.hk_draft.proofs.OneEffect.{same_places}
use Rattle.hk_draft.proofs.Rooms.{dec_group}

-- that an option is none
pub dec_none : {A : Type 0} (o : Option A) → Dec (o ≡ None)
dec_none None = yes refl
dec_none (Some x) = no (λ e. cc)

-- whether one of the names is not declared
pub dec_undeclared : (declared names : List (List ℕ)) → Dec (Any (λ name. place_of declared name ≡ None) names)
dec_undeclared declared names = dec_any (λ name. place_of declared name ≡ None) (λ name. dec_none (place_of declared name)) names

-- whether a coefficient is out of the limit
dec_large_coef : (coefs : List ℤ) → Dec (Any (λ coef. IsWithin greatest_coefficient coef → ⊥) coefs)
dec_large_coef coefs = dec_any (λ coef. IsWithin greatest_coefficient coef → ⊥) (λ coef. dec_not (dec_coefficient coef)) coefs

-- whether a statement has a name fault
pub dec_name_fault : (before : PlainDraft) (s : Statement) → Dec (IsNameFault before s)
dec_name_fault before Header = no none
  where
    none : IsNameFault before Header → ⊥
    none (not_declared some) = any_nil (λ name. place_of before.names name ≡ None) some
dec_name_fault before (Variable name set) = map_dec declared_twice at (dec_true (is_some (place_of before.names name)))
  where
    at : IsNameFault before (Variable name set) → IsSome (place_of before.names name)
    at (declared_twice twice) = twice
    at (not_declared some) = absurd (any_nil (λ name. place_of before.names name ≡ None) some)
dec_name_fault before (Distinct names) = map_dec not_declared at (dec_undeclared before.names names)
  where
    at : IsNameFault before (Distinct names) → Any (λ name. place_of before.names name ≡ None) names
    at (not_declared some) = some
dec_name_fault before (Among counting) = map_dec not_declared at (dec_undeclared before.names counting.names)
  where
    at : IsNameFault before (Among counting) → Any (λ name. place_of before.names name ≡ None) counting.names
    at (not_declared some) = some
dec_name_fault before (Sequence window counting) = map_dec not_declared at (dec_undeclared before.names counting.names)
  where
    at : IsNameFault before (Sequence window counting) → Any (λ name. place_of before.names name ≡ None) counting.names
    at (not_declared some) = some
dec_name_fault before (Gcc names rows) = map_dec there back (dec_either (dec_undeclared before.names names) (dec_not (dec_once rows)))
  where
    there : Any (λ name. place_of before.names name ≡ None) names ⊎ (AreOnce rows → ⊥) → IsNameFault before (Gcc names rows)
    there (inl some) = not_declared some
    there (inr twice) = listed_twice twice

    back : IsNameFault before (Gcc names rows) → Any (λ name. place_of before.names name ≡ None) names ⊎ (AreOnce rows → ⊥)
    back (not_declared some) = inl some
    back (listed_twice twice) = inr twice
dec_name_fault before (Total terms least most) = map_dec not_declared at (dec_undeclared before.names (term_names terms))
  where
    at : IsNameFault before (Total terms least most) → Any (λ name. place_of before.names name ≡ None) (term_names terms)
    at (not_declared some) = some
dec_name_fault before (Objective terms) = map_dec there back (dec_either (dec_undeclared before.names (term_names terms)) (dec_true (is_some before.objective)))
  where
    there : Any (λ name. place_of before.names name ≡ None) (term_names terms) ⊎ IsSome before.objective → IsNameFault before (Objective terms)
    there (inl some) = not_declared some
    there (inr second) = second_objective second

    back : IsNameFault before (Objective terms) → Any (λ name. place_of before.names name ≡ None) (term_names terms) ⊎ IsSome before.objective
    back (not_declared some) = inl some
    back (second_objective second) = inr second
dec_name_fault before NewGroup = no none
  where
    none : IsNameFault before NewGroup → ⊥
    none (not_declared some) = any_nil (λ name. place_of before.names name ≡ None) some

-- whether a variable with a set that isn't empty has a limit fault
dec_variable_limit : (before : PlainDraft) (name : List ℕ) (values : Values) (more : List Values) → Dec (IsLimitFault before (Variable name (values ∷ more)))
dec_variable_limit before name values more = map_dec there back (dec_either
    (dec_either (dec_lt most_name_bytes (length name)) (dec_le most_variables (length before.names)))
    (dec_either (dec_any (λ values. value_count ≤ values.last) (λ values. dec_le value_count values.last) set) (dec_any (λ values. values.last < values.first) (λ values. dec_lt values.last values.first) set)))
  where
    set : List Values
    set = values ∷ more

    there : ((most_name_bytes < length name) ⊎ (most_variables ≤ length before.names)) ⊎ (Any (λ values. value_count ≤ values.last) set ⊎ Any (λ values. values.last < values.first) set) → IsLimitFault before (Variable name set)
    there (inl (inl long)) = long_name long
    there (inl (inr many)) = many_variables many
    there (inr (inl large)) = large_value large
    there (inr (inr turned)) = turned_range turned

    back : IsLimitFault before (Variable name set) → ((most_name_bytes < length name) ⊎ (most_variables ≤ length before.names)) ⊎ (Any (λ values. value_count ≤ values.last) set ⊎ Any (λ values. values.last < values.first) set)
    back (long_name long) = inl (inl long)
    back (many_variables many) = inl (inr many)
    back (large_value large) = inr (inl large)
    back (turned_range turned) = inr (inr turned)
    back (no_group content none) = absurd content

-- there is no room for a constraint, or for the group that it begins
abbrev IsFull : PlainDraft → Type 0
IsFull before = (most_constraints ≤ length before.constraints) ⊎ (HasGroup before → ⊥)

dec_full : (before : PlainDraft) → Dec (IsFull before)
dec_full before = dec_either (dec_le most_constraints (length before.constraints)) (dec_not (dec_group before))

-- whether an among, a sequence or a gcc has a limit fault
dec_among_limit : (before : PlainDraft) (counting : Counting) → Dec (IsLimitFault before (Among counting))
dec_among_limit before counting = map_dec there back (dec_either (dec_full before) (dec_not (dec_small_counting counting)))
  where
    there : IsFull before ⊎ (IsSmallCounting counting → ⊥) → IsLimitFault before (Among counting)
    there (inl (inl many)) = many_amongs many
    there (inl (inr none)) = no_group tt none
    there (inr large) = large_among large

    back : IsLimitFault before (Among counting) → IsFull before ⊎ (IsSmallCounting counting → ⊥)
    back (many_amongs many) = inl (inl many)
    back (no_group content none) = inl (inr none)
    back (large_among large) = inr large

dec_sequence_limit : (before : PlainDraft) (window : ℕ) (counting : Counting) → Dec (IsLimitFault before (Sequence window counting))
dec_sequence_limit before window counting = map_dec there back (dec_either (dec_full before) (dec_either (dec_not (dec_window window)) (dec_not (dec_small_counting counting))))
  where
    there : IsFull before ⊎ ((IsWindow window → ⊥) ⊎ (IsSmallCounting counting → ⊥)) → IsLimitFault before (Sequence window counting)
    there (inl (inl many)) = many_sequences many
    there (inl (inr none)) = no_group tt none
    there (inr (inl odd)) = odd_window odd
    there (inr (inr large)) = large_sequence large

    back : IsLimitFault before (Sequence window counting) → IsFull before ⊎ ((IsWindow window → ⊥) ⊎ (IsSmallCounting counting → ⊥))
    back (many_sequences many) = inl (inl many)
    back (no_group content none) = inl (inr none)
    back (odd_window odd) = inr (inl odd)
    back (large_sequence large) = inr (inr large)

dec_gcc_limit : (before : PlainDraft) (names : List (List ℕ)) (rows : List Row) → Dec (IsLimitFault before (Gcc names rows))
dec_gcc_limit before names [] = yes no_row
dec_gcc_limit before names (row ∷ rows) = map_dec there back (dec_either (dec_full before) (dec_not (dec_small_rows (row ∷ rows))))
  where
    there : IsFull before ⊎ (All IsSmallRow (row ∷ rows) → ⊥) → IsLimitFault before (Gcc names (row ∷ rows))
    there (inl (inl many)) = many_gccs many
    there (inl (inr none)) = no_group tt none
    there (inr large) = large_row large

    back : IsLimitFault before (Gcc names (row ∷ rows)) → IsFull before ⊎ (All IsSmallRow (row ∷ rows) → ⊥)
    back (many_gccs many) = inl (inl many)
    back (no_group content none) = inl (inr none)
    back (large_row large) = inr large

-- whether a sum has a limit fault
dec_total_limit : (before : PlainDraft) (terms : List Term) (least most : ℤ) → Dec (IsLimitFault before (Total terms least most))
dec_total_limit before terms least most = map_dec there back (dec_either
    (dec_either (dec_full before) (dec_large_coef (term_coefs terms)))
    (dec_either (dec_not (dec_within_limit least)) (dec_not (dec_within_limit most))))
  where
    there : (IsFull before ⊎ Any (λ coef. IsWithin greatest_coefficient coef → ⊥) (term_coefs terms)) ⊎ ((IsWithin number_limit least → ⊥) ⊎ (IsWithin number_limit most → ⊥)) → IsLimitFault before (Total terms least most)
    there (inl (inl (inl many))) = many_totals many
    there (inl (inl (inr none))) = no_group tt none
    there (inl (inr large)) = large_total_coef large
    there (inr (inl large)) = large_least large
    there (inr (inr large)) = large_most large

    back : IsLimitFault before (Total terms least most) → (IsFull before ⊎ Any (λ coef. IsWithin greatest_coefficient coef → ⊥) (term_coefs terms)) ⊎ ((IsWithin number_limit least → ⊥) ⊎ (IsWithin number_limit most → ⊥))
    back (many_totals many) = inl (inl (inl many))
    back (no_group content none) = inl (inl (inr none))
    back (large_total_coef large) = inl (inr large)
    back (large_least large) = inr (inl large)
    back (large_most large) = inr (inr large)

-- whether a statement has a limit fault
pub dec_limit_fault : (before : PlainDraft) (s : Statement) → Dec (IsLimitFault before s)
dec_limit_fault before Header = no none
  where
    none : IsLimitFault before Header → ⊥
    none (no_group content full) = content
dec_limit_fault before (Variable name []) = yes no_value
dec_limit_fault before (Variable name (values ∷ more)) = dec_variable_limit before name values more
dec_limit_fault before (Distinct names) = map_dec there back (dec_full before)
  where
    there : IsFull before → IsLimitFault before (Distinct names)
    there (inl many) = many_differ many
    there (inr none) = no_group tt none

    back : IsLimitFault before (Distinct names) → IsFull before
    back (many_differ many) = inl many
    back (no_group content none) = inr none
dec_limit_fault before (Among counting) = dec_among_limit before counting
dec_limit_fault before (Sequence window counting) = dec_sequence_limit before window counting
dec_limit_fault before (Gcc names rows) = dec_gcc_limit before names rows
dec_limit_fault before (Total terms least most) = dec_total_limit before terms least most
dec_limit_fault before (Objective terms) = map_dec there back (dec_either (dec_large_coef (term_coefs terms)) (dec_not (dec_group before)))
  where
    there : Any (λ coef. IsWithin greatest_coefficient coef → ⊥) (term_coefs terms) ⊎ (HasGroup before → ⊥) → IsLimitFault before (Objective terms)
    there (inl large) = large_coef large
    there (inr none) = no_group tt none

    back : IsLimitFault before (Objective terms) → Any (λ coef. IsWithin greatest_coefficient coef → ⊥) (term_coefs terms) ⊎ (HasGroup before → ⊥)
    back (large_coef large) = inl large
    back (no_group content none) = inr none
dec_limit_fault before NewGroup = no none
  where
    none : IsLimitFault before NewGroup → ⊥
    none (no_group content full) = content

-- whether a statement has a scope fault
pub dec_scope_fault : (before : PlainDraft) (s : Statement) → Dec (IsScopeFault before s)
dec_scope_fault before s = by (scope_of before.names (used_names s))
  where
    falls : (scope : List ℕ) → map (place_of before.names) (used_names s) ≡ map Some scope → IsScopeFault before s → IsStrictlyIncreasing scope → ⊥
    falls scope places fault rises = fault.falls (subst IsStrictlyIncreasing (same_places scope fault.scope (sym places ∙ fault.places)) rises)

    by : Any (λ name. place_of before.names name ≡ None) (used_names s) ⊎ ((scope : List ℕ) × (map (place_of before.names) (used_names s) ≡ map Some scope)) → Dec (IsScopeFault before s)
    by (inl none) = no (λ fault. no_places_of before.names (used_names s) none fault.scope fault.places)
    by (inr (scope, places)) = map_dec (λ not_rising. record { scope = scope; places = places; falls = not_rising }) (λ fault. falls scope places fault) (dec_not (dec_rising scope))

-- whether a statement may stand there
pub dec_may_stand : (before : Option PlainDraft) (s : Statement) → Dec (MayStand before s)
dec_may_stand None Header = yes tt
dec_may_stand None (Variable name set) = no (λ never. never)
dec_may_stand None (Distinct names) = no (λ never. never)
dec_may_stand None (Among counting) = no (λ never. never)
dec_may_stand None (Sequence window counting) = no (λ never. never)
dec_may_stand None (Gcc names rows) = no (λ never. never)
dec_may_stand None (Total terms least most) = no (λ never. never)
dec_may_stand None (Objective terms) = no (λ never. never)
dec_may_stand None NewGroup = no (λ never. never)
dec_may_stand (Some before) Header = no (λ never. never)
dec_may_stand (Some before) (Variable name set) = yes tt
dec_may_stand (Some before) (Distinct names) = yes tt
dec_may_stand (Some before) (Among counting) = yes tt
dec_may_stand (Some before) (Sequence window counting) = yes tt
dec_may_stand (Some before) (Gcc names rows) = yes tt
dec_may_stand (Some before) (Total terms least most) = yes tt
dec_may_stand (Some before) (Objective terms) = yes tt
dec_may_stand (Some before) NewGroup = yes tt
