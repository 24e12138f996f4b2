-- What the tests of a statement say of its faults, and what is declared after it.
use Rattle.std.proofs.Common.{◌≡◌, ◌==◌, ℕ, ◌<◌, ◌≤◌, ◌⊎◌, ⊎_elim, true, length, get_or, ℤ, List, [], ◌∷◌, map, Option, Some, IsSome, sym, subst, arith}
use Rattle.std.proofs.lemmas.Bool.Decides.{nat_tests}
use Rattle.std.specs.Prelude.{All, Any}
use Rattle.std.specs.List.{HoldsAt}
use Rattle.std.proofs.lemmas.List.{length-map, get_or-map}
use Rattle.std.proofs.lemmas.List.Elements.{All-cons, All-nil, All-map}
use Rattle.hk_group.specs.Limits.{value_count, most_constraints, greatest_coefficient}
use Rattle.hk_lines.specs.declared.phrases.Values.{Values as ReadValues}
use Rattle.hk_lines.specs.declared.phrases.Term.{Term as ReadTerm}
use Rattle.hk_lines.specs.Plain.{values_of, terms_of, statement_of, plain_values, plain_term}
use Rattle.hk_draft.specs.inside.Fits.{FitsTotal, AddsDistinct, AddsTotal, AddsLeast}
use Rattle.hk_lines.specs.declared.shapes.Shape.{Shape}
use Rattle.hk_draft.specs.declared.faults.LineFault.{LineFault}
use Rattle.hk_draft.specs.declared.faults.LineFault.TheVariants.{Bad, NoMemory}
use Rattle.hk_draft.specs.Faults.{IsFaultyStatement, IsStatementFault, IsPlaceFault, used_names, IsNameFault, not_declared, second_objective, IsLimitFault, no_value, large_value, turned_range, many_differ, many_totals, large_least, large_most, large_total_coef, large_coef, no_group}
use Rattle.hk_lines.specs.Phrases.{Values, Term}
use Rattle.hk_group.specs.Problems.{IsWithin}
use Rattle.hk_draft.specs.Drafts.{PlainDraft, HasGroup}
use Rattle.hk_lines.specs.Statements.{Statement, Variable, Distinct, Total, Objective}
use Rattle.hk_draft.specs.Declares.{place_of, term_names, term_coefs, Declares, declares_distinct, declares_total, declares_objective}
use Rattle.hk_draft.proofs.Effects.{dec_coefficient, no_places_of}
use Rattle.hk_lines.proofs.Elements.{any_first, any_later, each_not_some}

-- where not each coefficient is within the limit, some coefficient is not
pub some_large : (terms : List ReadTerm) → (All (λ term. IsWithin greatest_coefficient term.coef) terms → ⊥) → Any (λ coef. IsWithin greatest_coefficient coef → ⊥) (term_coefs (terms_of terms))
some_large [] some = absurd (some (All-nil (λ term. IsWithin greatest_coefficient term.coef)))
some_large (term ∷ terms) some = by (dec_coefficient term.coef) (λ within. some_large terms (λ all. some (All-cons (λ term. IsWithin greatest_coefficient term.coef) term terms within all)))
  where
    by : Dec (IsWithin greatest_coefficient term.coef) → (IsWithin greatest_coefficient term.coef → Any (λ coef. IsWithin greatest_coefficient coef → ⊥) (term_coefs (terms_of terms))) → Any (λ coef. IsWithin greatest_coefficient coef → ⊥) (term_coefs (terms_of (term ∷ terms)))
    by (yes within) later = any_later (λ coef. IsWithin greatest_coefficient coef → ⊥) term.coef (term_coefs (terms_of terms)) (later within)
    by (no large) later = any_first (λ coef. IsWithin greatest_coefficient coef → ⊥) term.coef (term_coefs (terms_of terms)) large

-- a set without items has no value
pub nothing_fits : (before : PlainDraft) (name : List ℕ) (set : List ReadValues) → (length set == 0) ≡ true → IsLimitFault before (Variable name (values_of set))
nothing_fits before name [] none = no_value
nothing_fits before name (values ∷ set) none =
    let zero : length (values ∷ set) ≡ 0 = grind (arith, nat_tests) in
    absurd (omega (arith, zero))

-- values that are too great, or turned
abbrev pub PassesLimit : ReadValues → Type 0
PassesLimit values = (value_count ≤ values.last) ⊎ (values.last < values.first)

-- where values at a place of a set have a property, some of the set have it
some_at : (P : Values → Type 0) (set : List ReadValues) (k : ℕ) → k < length set → P (plain_values (get_or set k (record { first = 0; last = 0 }))) → Any P (values_of set)
some_at P set k within p =
    let none : ReadValues = record { first = 0; last = 0 } in
    let here : Values = plain_values (get_or set k none) in
    let long : length (values_of set) ≡ length set = length-map set plain_values in
    let is : get_or (values_of set) k here ≡ here = get_or-map plain_values set k none here within in
    (k, here, omega (arith, within, long), is, p)

-- a set with such values passes a limit
pub some_passes : (before : PlainDraft) (name : List ℕ) (set : List ReadValues) → (k : ℕ) × (k < length set) × HoldsAt PassesLimit set k → IsLimitFault before (Variable name (values_of set))
some_passes before name set (k, within, at) =
    ⊎_elim
    (λ great. large_value (some_at (λ values. value_count ≤ values.last) set k within great))
    (λ turned. turned_range (some_at (λ values. values.last < values.first) set k within turned))
    (at (record { first = 0; last = 0 }))

-- names without places are a fault of the statement that uses them
pub place_fault : (before : PlainDraft) (s : Statement) (fault : LineFault) → IsPlaceFault before.names (used_names s) fault → IsStatementFault (Some before) s fault
place_fault before s (Bad kind) (is, none) = subst (IsFaultyStatement (Some before) s) (sym is) (not_declared none)
place_fault before s NoMemory nothing = tt

module _ {before : PlainDraft} (scope : List ℕ) where
  -- where the names of a scope have places, there is no fault of a name
  pub distinct_named : {names : List (List ℕ)} → map (place_of before.names) names ≡ map Some scope → IsNameFault before (Distinct names) → ⊥
  distinct_named {names = names} places (not_declared none) = no_places_of before.names names none scope places

  pub total_named : {terms : List Term} {least most : ℤ} → map (place_of before.names) (term_names terms) ≡ map Some scope → IsNameFault before (Total terms least most) → ⊥
  total_named {terms = terms} places (not_declared none) = no_places_of before.names (term_names terms) none scope places

  pub objective_named : {terms : List Term} → map (place_of before.names) (term_names terms) ≡ map Some scope → (IsSome before.objective → ⊥) → IsNameFault before (Objective terms) → ⊥
  objective_named {terms = terms} places new (not_declared none) = no_places_of before.names (term_names terms) none scope places
  objective_named places new (second_objective some) = new some

-- where there is room for a constraint, its scope passes no limit
pub distinct_fits : {before : PlainDraft} {names : List (List ℕ)} → length before.constraints < most_constraints → HasGroup before → IsLimitFault before (Distinct names) → ⊥
distinct_fits room group (many_differ many) = omega (arith, room, many)
distinct_fits room group (no_group content none) = none group

-- the coefficients of terms that are each within the limit
small_coefs : (terms : List ReadTerm) → All (λ term. IsWithin greatest_coefficient term.coef) terms → All (IsWithin greatest_coefficient) (term_coefs (terms_of terms))
small_coefs terms all = All-map (IsWithin greatest_coefficient) (λ term. term.coef) (terms_of terms) (All-map (λ term. IsWithin greatest_coefficient term.coef) plain_term terms all)

-- no coefficient passes the limit where each is within it
no_large : (terms : List ReadTerm) → All (λ term. IsWithin greatest_coefficient term.coef) terms → Any (λ coef. IsWithin greatest_coefficient coef → ⊥) (term_coefs (terms_of terms)) → ⊥
no_large terms all some = each_not_some (IsWithin greatest_coefficient) (λ coef. IsWithin greatest_coefficient coef → ⊥) (λ coef within large. large within) (term_coefs (terms_of terms)) (small_coefs terms all) some

-- a sum that passes no limit has no fault of one
pub total_fits : {before : PlainDraft} {terms : List ReadTerm} {least most : ℤ} → FitsTotal terms least most before → IsLimitFault before (Total (terms_of terms) least most) → ⊥
total_fits fits (many_totals many) = let room = fits.room in omega (arith, room, many)
total_fits fits (large_least large) = large fits.least_fits
total_fits fits (large_most large) = large fits.most_fits
total_fits {terms = terms} fits (large_total_coef some) = no_large terms fits.coefs_fit some
total_fits fits (no_group content none) = none fits.group

-- nor has an objective whose coefficients are within the limit
pub objective_fits : {before : PlainDraft} (terms : List ReadTerm) → HasGroup before → All (λ term. IsWithin greatest_coefficient term.coef) terms → IsLimitFault before (Objective (terms_of terms)) → ⊥
objective_fits terms group all (large_coef some) = no_large terms all some
objective_fits terms group all (no_group content none) = none group

-- what is declared after a scope, a sum or an objective is declared after its statement
pub distinct_declares : {names : List (List ℕ)} {before after : PlainDraft} → AddsDistinct names before after → Declares (Some before) (Distinct names) (Some after)
distinct_declares adds = declares_distinct adds.names_are adds.adds

pub total_declares : (terms : List ReadTerm) {least most : ℤ} {before after : PlainDraft} → AddsTotal terms least most before after → Declares (Some before) (Total (terms_of terms) least most) (Some after)
total_declares terms adds = declares_total adds.names_are (small_coefs terms adds.fits.coefs_fit) adds.fits.least_fits adds.fits.most_fits adds.adds

pub objective_declares : (terms : List ReadTerm) {before after : PlainDraft} → AddsLeast terms before after → Declares (Some before) (Objective (terms_of terms)) (Some after)
objective_declares terms adds = declares_objective adds.names_are (small_coefs terms adds.coefs_fit) adds.adds

-- what a shape declares
pub declares_at : (shape : Shape) {given : Shape} {before given_before after : Option PlainDraft} → given_before ≡ before → given ≡ shape → Declares before (statement_of shape) after → Declares given_before (statement_of given) after
declares_at shape {given = given} {before = before} {after = after} started is declares =
    subst (λ b. Declares b (statement_of given) after) (sym started) (subst (λ sh. Declares before (statement_of sh) after) (sym is) declares)
