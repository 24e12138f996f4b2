-- A statement and the same with its numbers capped have the same faults and effects.
use Rattle.std.proofs.Common.{◌≡◌, ℕ, ◌<◌, ◌≤◌, ℤ, pos, ◌⊎◌, inl, inr, ⊎_elim, List, [], ◌∷◌, map, length, get_or, Option, None, Some, refl, sym, ap, subst, ◌∙◌, arith}
use Rattle.std.proofs.Math.Nat.{min-le_left, min-le_right, min-eq_left, le-min}
use Rattle.std.proofs.lemmas.Bool.{cases_lt}
use Rattle.std.proofs.lemmas.List.{length-map, get_or-map}
use Rattle.std.proofs.lemmas.List.Elements.{All-head, All-tail}
use Rattle.std.specs.Prelude.{All, Any}
use Rattle.hk_group.specs.Limits.{value_count, greatest_coefficient}
use Rattle.hk_lines.specs.Limits.{above_limits}
use Rattle.hk_draft.specs.Faults.{used_names, IsNameFault, declared_twice, not_declared, listed_twice, second_objective, IsLimitFault, long_name, large_value, turned_range, no_value, many_variables, many_amongs, large_among, many_sequences, odd_window, large_sequence, many_gccs, large_row, no_row, many_totals, large_least, large_most, large_total_coef, large_coef, no_group, IsScopeFault}
use Rattle.hk_lines.specs.Phrases.{Values, Term, Row}
use Rattle.hk_group.specs.Problems.{IsWithin}
use Rattle.hk_draft.specs.Drafts.{PlainDraft}
use Rattle.hk_lines.specs.Shapes.{capped, capped_signed, capped_values, capped_term, capped_row, capped_statement}
use Rattle.hk_lines.specs.Statements.{Statement, Header, Variable, Distinct, Among, Sequence, Gcc, Total, Objective, NewGroup}
use Rattle.hk_draft.specs.Declares.{MayStand, place_of, term_names, term_coefs, IsSmallCounting, IsWindow, IsSmallRow, Declares, declares_variable, declares_among, declares_sequence, declares_gcc, declares_total, declares_objective}
use Rattle.hk_draft.proofs.CappedCounts.{same_counting, kept_counting, same_window, kept_window, same_rows, kept_rows, once_capped, once_whole}
use Rattle.hk_draft.proofs.CappedNumbers.{same_small, same_signed, kept_signed, same_set}
use Rattle.hk_lines.proofs.Elements.{any_nil, any_first, any_later, any_cases}

-- an element with a property, among what a function makes of the elements
pub any_map : {X Y : Type 0} (Q : X → Type 0) (P : Y → Type 0) (f : X → Y) → ((x : X) → Q x → P (f x)) → (xs : List X) → Any Q xs → Any P (map f xs)
any_map Q P f gives xs (k, x, within, at, q) =
    let long : length (map f xs) ≡ length xs = length-map xs f in
    let there : get_or (map f xs) k (f x) ≡ f x = get_or-map f xs k x (f x) within ∙ ap f at in
    (k, f x, omega (arith, within, long), there, gives x q)

-- and back
pub any_from_map : {X Y : Type 0} (P : Y → Type 0) (Q : X → Type 0) (f : X → Y) → ((x : X) → P (f x) → Q x) → (xs : List X) → Any P (map f xs) → Any Q xs
any_from_map P Q f gives [] some = absurd (any_nil P some)
any_from_map P Q f gives (x ∷ xs) some = ⊎_elim
    (λ p. any_first Q x xs (gives x p))
    (λ later. any_later Q x xs (any_from_map P Q f gives xs later))
    (any_cases P (f x) (map f xs) some)

-- an element with one property or another
any_either : {X : Type 0} (P Q : X → Type 0) (xs : List X) → Any (λ x. P x ⊎ Q x) xs → Any P xs ⊎ Any Q xs
any_either P Q xs (k, x, within, at, inl p) = inl (k, x, within, at, p)
any_either P Q xs (k, x, within, at, inr q) = inr (k, x, within, at, q)

-- capping changes no name and caps each coefficient
same_names : (terms : List Term) → term_names (map capped_term terms) ≡ term_names terms
same_names [] = refl
same_names (term ∷ terms) = ap (λ names. term.name ∷ names) (same_names terms)

capped_coefs : (terms : List Term) → term_coefs (map capped_term terms) ≡ map capped_signed (term_coefs terms)
capped_coefs [] = refl
capped_coefs (term ∷ terms) = ap (λ coefs. capped_signed term.coef ∷ coefs) (capped_coefs terms)

-- a statement and the same with its numbers capped use the same names
same_used : (s : Statement) → used_names (capped_statement s) ≡ used_names s
same_used Header = refl
same_used (Variable name set) = refl
same_used (Distinct names) = refl
same_used (Among counting) = refl
same_used (Sequence window counting) = refl
same_used (Gcc names rows) = refl
same_used (Total terms least most) = same_names terms
same_used (Objective terms) = same_names terms
same_used NewGroup = refl

-- they have the same faults of names
pub name_whole : (before : PlainDraft) (s : Statement) → IsNameFault before (capped_statement s) → IsNameFault before s
name_whole before Header fault = fault
name_whole before (Variable name set) (declared_twice some) = declared_twice some
name_whole before (Variable name set) (not_declared none) = not_declared none
name_whole before (Distinct names) fault = fault
name_whole before (Among counting) (not_declared none) = not_declared none
name_whole before (Sequence window counting) (not_declared none) = not_declared none
name_whole before (Gcc names rows) (not_declared none) = not_declared none
name_whole before (Gcc names rows) (listed_twice twice) = listed_twice (λ once. twice (once_capped rows once))
name_whole before (Total terms least most) (not_declared none) = not_declared (subst (Any (λ name. place_of before.names name ≡ None)) (same_names terms) none)
name_whole before (Objective terms) (not_declared none) = not_declared (subst (Any (λ name. place_of before.names name ≡ None)) (same_names terms) none)
name_whole before (Objective terms) (second_objective some) = second_objective some
name_whole before NewGroup fault = fault

pub name_capped : (before : PlainDraft) (s : Statement) → IsNameFault before s → IsNameFault before (capped_statement s)
name_capped before Header fault = fault
name_capped before (Variable name set) (declared_twice some) = declared_twice some
name_capped before (Variable name set) (not_declared none) = not_declared none
name_capped before (Distinct names) fault = fault
name_capped before (Among counting) (not_declared none) = not_declared none
name_capped before (Sequence window counting) (not_declared none) = not_declared none
name_capped before (Gcc names rows) (not_declared none) = not_declared none
name_capped before (Gcc names rows) (listed_twice twice) = listed_twice (λ once. twice (once_whole rows once))
name_capped before (Total terms least most) (not_declared none) = not_declared (subst (Any (λ name. place_of before.names name ≡ None)) (sym (same_names terms)) none)
name_capped before (Objective terms) (not_declared none) = not_declared (subst (Any (λ name. place_of before.names name ≡ None)) (sym (same_names terms)) none)
name_capped before (Objective terms) (second_objective some) = second_objective some
name_capped before NewGroup fault = fault

-- the same faults of their scopes
pub scope_whole : (before : PlainDraft) (s : Statement) → IsScopeFault before (capped_statement s) → IsScopeFault before s
scope_whole before s fault = record {
  scope = fault.scope;
  places = subst (λ names. map (place_of before.names) names ≡ map Some fault.scope) (same_used s) fault.places;
  falls = fault.falls;
}

-- and stand in the same places
pub stand_capped : (before : Option PlainDraft) (s : Statement) → MayStand before s → MayStand before (capped_statement s)
stand_capped None Header stands = stands
stand_capped None (Variable name set) stands = stands
stand_capped None (Distinct names) stands = stands
stand_capped None (Among counting) stands = stands
stand_capped None (Sequence window counting) stands = stands
stand_capped None (Gcc names rows) stands = stands
stand_capped None (Total terms least most) stands = stands
stand_capped None (Objective terms) stands = stands
stand_capped None NewGroup stands = stands
stand_capped (Some before) Header stands = stands
stand_capped (Some before) (Variable name set) stands = stands
stand_capped (Some before) (Distinct names) stands = stands
stand_capped (Some before) (Among counting) stands = stands
stand_capped (Some before) (Sequence window counting) stands = stands
stand_capped (Some before) (Gcc names rows) stands = stands
stand_capped (Some before) (Total terms least most) stands = stands
stand_capped (Some before) (Objective terms) stands = stands
stand_capped (Some before) NewGroup stands = stands

-- values are too great or turned when they are capped, where they were so
great_capped : (values : Values) → value_count ≤ values.last → value_count ≤ capped values.last
great_capped values great = le-min great (omega arith)

great_whole : (values : Values) → value_count ≤ capped values.last → value_count ≤ values.last
great_whole values great = let less = min-le_left values.last above_limits in omega (arith, great, less)

turned_capped : (values : Values) → values.last < values.first → (value_count ≤ capped values.last) ⊎ (capped values.last < capped values.first)
turned_capped values turned = ⊎_elim
    (λ small. let same : capped values.last ≡ values.last = min-eq_left (omega (arith, small)) in
    inr (subst (λ n. n < capped values.first) (sym same) (le-min turned (omega (arith, small)))))
    (λ great. inl (great_capped values great))
    (cases_lt values.last value_count)

turned_whole : (values : Values) → capped values.last < capped values.first → values.last < values.first
turned_whole values turned =
    let most = min-le_right values.first above_limits in
    let less = min-le_left values.first above_limits in
    let same : capped values.last ≡ values.last = same_small values.last (capped values.last) (omega arith) (omega (arith, turned, most)) in
    omega (arith, turned, less, same)

-- coefficients are too great when they are capped, where they were so
large_capped : (limit : ℕ) → limit < above_limits → (z : ℤ) → (IsWithin (pos limit) z → ⊥) → IsWithin (pos limit) (capped_signed z) → ⊥
large_capped limit below z large within = large (subst (IsWithin (pos limit)) (same_signed z limit below within) within)

large_whole : (limit : ℕ) → limit < above_limits → (z : ℤ) → (IsWithin (pos limit) (capped_signed z) → ⊥) → IsWithin (pos limit) z → ⊥
large_whole limit below z large within = large (subst (IsWithin (pos limit)) (sym (kept_signed z limit below within)) within)

-- some coefficient is too great when they are capped, where one was so
some_capped : (terms : List Term) → Any (λ coef. IsWithin greatest_coefficient coef → ⊥) (term_coefs terms) → Any (λ coef. IsWithin greatest_coefficient coef → ⊥) (term_coefs (map capped_term terms))
some_capped terms some = subst (Any (λ coef. IsWithin greatest_coefficient coef → ⊥)) (sym (capped_coefs terms))
    (any_map (λ coef. IsWithin greatest_coefficient coef → ⊥) (λ coef. IsWithin greatest_coefficient coef → ⊥) capped_signed (large_capped 1000000 (omega arith)) (term_coefs terms) some)

some_whole : (terms : List Term) → Any (λ coef. IsWithin greatest_coefficient coef → ⊥) (term_coefs (map capped_term terms)) → Any (λ coef. IsWithin greatest_coefficient coef → ⊥) (term_coefs terms)
some_whole terms some =
    any_from_map (λ coef. IsWithin greatest_coefficient coef → ⊥) (λ coef. IsWithin greatest_coefficient coef → ⊥) capped_signed (large_whole 1000000 (omega arith)) (term_coefs terms)
    (subst (Any (λ coef. IsWithin greatest_coefficient coef → ⊥)) (capped_coefs terms) some)

-- they have the same faults of limits
pub limit_capped : (before : PlainDraft) (s : Statement) → IsLimitFault before s → IsLimitFault before (capped_statement s)
limit_capped before Header fault = fault
limit_capped before (Variable name set) (long_name long) = long_name long
limit_capped before (Variable name set) (large_value some) = large_value (any_map (λ values. value_count ≤ values.last) (λ values. value_count ≤ values.last) capped_values great_capped set some)
limit_capped before (Variable name set) (turned_range some) = ⊎_elim large_value turned_range
    (any_either (λ values. value_count ≤ values.last) (λ values. values.last < values.first) (map capped_values set)
    (any_map (λ values. values.last < values.first) (λ values. (value_count ≤ values.last) ⊎ (values.last < values.first)) capped_values turned_capped set some))
limit_capped before (Variable name []) no_value = no_value
limit_capped before (Variable name set) (many_variables many) = many_variables many
limit_capped before (Variable name set) (no_group content none) = absurd content
limit_capped before (Distinct names) fault = fault
limit_capped before (Among counting) (many_amongs many) = many_amongs many
limit_capped before (Among counting) (no_group content none) = no_group content none
limit_capped before (Among counting) (large_among large) = large_among (λ small. large (subst IsSmallCounting (same_counting counting small) small))
limit_capped before (Sequence window counting) (many_sequences many) = many_sequences many
limit_capped before (Sequence window counting) (no_group content none) = no_group content none
limit_capped before (Sequence window counting) (odd_window odd) = odd_window (λ is. odd (subst IsWindow (same_window window is) is))
limit_capped before (Sequence window counting) (large_sequence large) = large_sequence (λ small. large (subst IsSmallCounting (same_counting counting small) small))
limit_capped before (Gcc names rows) (many_gccs many) = many_gccs many
limit_capped before (Gcc names []) no_row = no_row
limit_capped before (Gcc names rows) (no_group content none) = no_group content none
limit_capped before (Gcc names rows) (large_row large) = large_row (λ small. large (subst (All IsSmallRow) (same_rows rows small) small))
limit_capped before (Total terms least most) (many_totals many) = many_totals many
limit_capped before (Total terms least most) (no_group content none) = no_group content none
limit_capped before (Total terms least most) (large_least large) = large_least (large_capped 1000000000000 (omega arith) least large)
limit_capped before (Total terms least most) (large_most large) = large_most (large_capped 1000000000000 (omega arith) most large)
limit_capped before (Total terms least most) (large_total_coef some) = large_total_coef (some_capped terms some)
limit_capped before (Objective terms) (large_coef some) = large_coef (some_capped terms some)
limit_capped before (Objective terms) (no_group content none) = no_group content none
limit_capped before NewGroup fault = fault

-- a variable whose set, once it is capped, passes a limit
limit_of_values : (before : PlainDraft) (name : List ℕ) (set : List Values) (values : List Values) → values ≡ map capped_values set → IsLimitFault before (Variable name values) → IsLimitFault before (Variable name set)
limit_of_values before name set values is (long_name long) = long_name long
limit_of_values before name set values is (large_value some) = large_value
    (any_from_map (λ values. value_count ≤ values.last) (λ values. value_count ≤ values.last) capped_values great_whole set (subst (Any (λ values. value_count ≤ values.last)) is some))
limit_of_values before name set values is (turned_range some) = turned_range
    (any_from_map (λ values. values.last < values.first) (λ values. values.last < values.first) capped_values turned_whole set (subst (Any (λ values. values.last < values.first)) is some))
limit_of_values before name [] values is no_value = no_value
limit_of_values before name (item ∷ set) values is no_value = cc
limit_of_values before name set values is (many_variables many) = many_variables many
limit_of_values before name set values is (no_group content none) = absurd content

-- a gcc whose rows, once they are capped, pass a limit
limit_of_rows : (before : PlainDraft) (names : List (List ℕ)) (rows : List Row) (read : List Row) → read ≡ map capped_row rows → IsLimitFault before (Gcc names read) → IsLimitFault before (Gcc names rows)
limit_of_rows before names rows read is (many_gccs many) = many_gccs many
limit_of_rows before names rows read is (large_row large) = large_row (λ small. large (subst (All IsSmallRow) (sym (is ∙ kept_rows rows small)) small))
limit_of_rows before names [] read is no_row = no_row
limit_of_rows before names (row ∷ rows) read is no_row = cc
limit_of_rows before names rows read is (no_group content none) = no_group content none

pub limit_whole : (before : PlainDraft) (s : Statement) → IsLimitFault before (capped_statement s) → IsLimitFault before s
limit_whole before Header fault = fault
limit_whole before (Variable name set) fault = limit_of_values before name set (map capped_values set) refl fault
limit_whole before (Distinct names) fault = fault
limit_whole before (Among counting) (many_amongs many) = many_amongs many
limit_whole before (Among counting) (no_group content none) = no_group content none
limit_whole before (Among counting) (large_among large) = large_among (λ small. large (subst IsSmallCounting (sym (kept_counting counting small)) small))
limit_whole before (Sequence window counting) (many_sequences many) = many_sequences many
limit_whole before (Sequence window counting) (no_group content none) = no_group content none
limit_whole before (Sequence window counting) (odd_window odd) = odd_window (λ is. odd (subst IsWindow (sym (kept_window window is)) is))
limit_whole before (Sequence window counting) (large_sequence large) = large_sequence (λ small. large (subst IsSmallCounting (sym (kept_counting counting small)) small))
limit_whole before (Gcc names rows) fault = limit_of_rows before names rows (map capped_row rows) refl fault
limit_whole before (Total terms least most) (many_totals many) = many_totals many
limit_whole before (Total terms least most) (no_group content none) = no_group content none
limit_whole before (Total terms least most) (large_least large) = large_least (large_whole 1000000000000 (omega arith) least large)
limit_whole before (Total terms least most) (large_most large) = large_most (large_whole 1000000000000 (omega arith) most large)
limit_whole before (Total terms least most) (large_total_coef some) = large_total_coef (some_whole terms some)
limit_whole before (Objective terms) (large_coef some) = large_coef (some_whole terms some)
limit_whole before (Objective terms) (no_group content none) = no_group content none
limit_whole before NewGroup fault = fault

-- so are terms
same_terms : (terms : List Term) → All (IsWithin greatest_coefficient) (term_coefs (map capped_term terms)) → map capped_term terms ≡ terms
same_terms [] small = refl
same_terms (term ∷ terms) small =
    let rest = same_terms terms (All-tail (IsWithin greatest_coefficient) (capped_signed term.coef) (term_coefs (map capped_term terms)) small) in
    let coef : capped_signed term.coef ≡ term.coef = same_signed term.coef 1000000 (omega arith) (All-head (IsWithin greatest_coefficient) (capped_signed term.coef) (term_coefs (map capped_term terms)) small) in
    let same : capped_term term ≡ term = λ i. record { coef = coef i; name = term.name } in
    λ i. same i ∷ rest i

-- a statement whose capped numbers have an effect is the same when they are capped
same_statement : {before after : Option PlainDraft} (s : Statement) → Declares before (capped_statement s) after → capped_statement s ≡ s
same_statement Header declares = refl
same_statement (Variable name set) (declares_variable adds) = ap (Variable name) (same_set set adds.ordered adds.within)
same_statement (Distinct names) declares = refl
same_statement (Among counting) (declares_among names small is_set adds) = ap Among (same_counting counting small)
same_statement (Sequence window counting) (declares_sequence names is_window small is_set adds) =
    let windows = same_window window is_window in
    let counts = same_counting counting small in
    λ i. Sequence (windows i) (counts i)
same_statement (Gcc names rows) (declares_gcc are some once small adds) = ap (Gcc names) (same_rows rows small)
same_statement (Total terms least most) (declares_total names small least_fits most_fits adds) =
    let same = same_terms terms small in
    let from : capped_signed least ≡ least = same_signed least 1000000000000 (omega arith) least_fits in
    let to : capped_signed most ≡ most = same_signed most 1000000000000 (omega arith) most_fits in
    λ i. Total (same i) (from i) (to i)
same_statement (Objective terms) (declares_objective names small adds) = ap Objective (same_terms terms small)
same_statement NewGroup declares = refl

-- what is declared after a statement with its numbers capped is declared after the statement
pub declares_whole : {before after : Option PlainDraft} (s : Statement) → Declares before (capped_statement s) after → Declares before s after
declares_whole {before = before} {after = after} s declares = subst (λ t. Declares before t after) (same_statement s declares) declares
