-- The faults of a statement, by what was declared before it, and why the reader stops at it.
use Rattle.std.specs.Prelude.{◌≡◌, ℕ, ◌<◌, ◌≤◌, ℤ, List, [], length, map, All, Any, Option, None, Some, IsSome}
use Rattle.std.specs.List.Sorted.{IsStrictlyIncreasing}
use Rattle.hk_base.specs.Limits.{number_limit}
use Rattle.hk_group.specs.Limits.{most_variables, value_count, most_name_bytes, most_constraints, greatest_coefficient}
use Rattle.hk_group.specs.Problems.{IsWithin}
use Rattle.hk_lines.specs.Phrases.{Values, Term, Row, Counting}
use Rattle.hk_lines.specs.Statements.{Statement, Header, Variable, Distinct, Among, Sequence, Gcc, Total, Objective, NewGroup}
use Rattle.hk_draft.specs.declared.faults.LineFault.{LineFault}
use Rattle.hk_draft.specs.declared.faults.LineFault.TheVariants.{Bad, NoMemory}
use Rattle.hk_draft.specs.declared.kinds.RefusalKind.{RefusalKind}
use Rattle.hk_draft.specs.declared.kinds.RefusalKind.TheVariants.{Text, Syntax, Name, Limit, Scope, Grade, Unfinished}
use Rattle.hk_draft.specs.Drafts.{PlainDraft, HasGroup}
use Rattle.hk_draft.specs.Declares.{MayStand, place_of, term_names, term_coefs, IsSmallCounting, IsWindow, IsSmallRow, AreOnce}

-- the names of variables that a statement uses
abbrev pub used_names : Statement → List (List ℕ)
used_names Header = []
used_names (Variable name set) = []
used_names (Distinct names) = names
used_names (Among counting) = counting.names
used_names (Sequence window counting) = counting.names
used_names (Gcc names rows) = names
used_names (Total terms least most) = term_names terms
used_names (Objective terms) = term_names terms
used_names NewGroup = []

-- the statement is a constraint or the objective
abbrev pub IsContent : Statement → Type 0
IsContent Header = ⊥
IsContent (Variable name set) = ⊥
IsContent (Distinct names) = Unit {0}
IsContent (Among counting) = Unit {0}
IsContent (Sequence window counting) = Unit {0}
IsContent (Gcc names rows) = Unit {0}
IsContent (Total terms least most) = Unit {0}
IsContent (Objective terms) = Unit {0}
IsContent NewGroup = ⊥

-- a name is declared twice, or not where it is used; a gcc lists a value twice; or there is an objective already
pub data IsNameFault (before : PlainDraft) : Statement → Type 0 where
  declared_twice : {name : List ℕ} {set : List Values} → IsSome (place_of before.names name) → IsNameFault before (Variable name set)
  not_declared : {statement : Statement} → Any (λ name. place_of before.names name ≡ None) (used_names statement) → IsNameFault before statement
  listed_twice : {names : List (List ℕ)} {rows : List Row} → (AreOnce rows → ⊥) → IsNameFault before (Gcc names rows)
  second_objective : {terms : List Term} → IsSome before.objective → IsNameFault before (Objective terms)

-- a quantity passes its limit, a range is turned, a set has no value, a gcc has no row, or there is no room for the group
-- that a constraint or the objective begins
pub data IsLimitFault (before : PlainDraft) : Statement → Type 0 where
  long_name : {name : List ℕ} {set : List Values} → most_name_bytes < length name → IsLimitFault before (Variable name set)
  large_value : {name : List ℕ} {set : List Values} → Any (λ values. value_count ≤ values.last) set → IsLimitFault before (Variable name set)
  turned_range : {name : List ℕ} {set : List Values} → Any (λ values. values.last < values.first) set → IsLimitFault before (Variable name set)
  no_value : {name : List ℕ} → IsLimitFault before (Variable name [])
  many_variables : {name : List ℕ} {set : List Values} → most_variables ≤ length before.names → IsLimitFault before (Variable name set)
  many_differ : {names : List (List ℕ)} → most_constraints ≤ length before.constraints → IsLimitFault before (Distinct names)
  many_amongs : {counting : Counting} → most_constraints ≤ length before.constraints → IsLimitFault before (Among counting)
  large_among : {counting : Counting} → (IsSmallCounting counting → ⊥) → IsLimitFault before (Among counting)
  many_sequences : {window : ℕ} {counting : Counting} → most_constraints ≤ length before.constraints → IsLimitFault before (Sequence window counting)
  odd_window : {window : ℕ} {counting : Counting} → (IsWindow window → ⊥) → IsLimitFault before (Sequence window counting)
  large_sequence : {window : ℕ} {counting : Counting} → (IsSmallCounting counting → ⊥) → IsLimitFault before (Sequence window counting)
  many_gccs : {names : List (List ℕ)} {rows : List Row} → most_constraints ≤ length before.constraints → IsLimitFault before (Gcc names rows)
  large_row : {names : List (List ℕ)} {rows : List Row} → (All IsSmallRow rows → ⊥) → IsLimitFault before (Gcc names rows)
  no_row : {names : List (List ℕ)} → IsLimitFault before (Gcc names [])
  many_totals : {terms : List Term} {least most : ℤ} → most_constraints ≤ length before.constraints → IsLimitFault before (Total terms least most)
  large_least : {terms : List Term} {least most : ℤ} → (IsWithin number_limit least → ⊥) → IsLimitFault before (Total terms least most)
  large_most : {terms : List Term} {least most : ℤ} → (IsWithin number_limit most → ⊥) → IsLimitFault before (Total terms least most)
  large_total_coef : {terms : List Term} {least most : ℤ} → Any (λ coef. IsWithin greatest_coefficient coef → ⊥) (term_coefs terms) → IsLimitFault before (Total terms least most)
  large_coef : {terms : List Term} → Any (λ coef. IsWithin greatest_coefficient coef → ⊥) (term_coefs terms) → IsLimitFault before (Objective terms)
  no_group : {statement : Statement} → IsContent statement → (HasGroup before → ⊥) → IsLimitFault before statement

-- the variables that a statement uses don't stand strictly in the order of their declaration
pub record IsScopeFault (before : PlainDraft) (statement : Statement) : Type 0 where
  pub scope : List ℕ
  pub places : map (place_of before.names) (used_names statement) ≡ map Some scope
  pub falls : IsStrictlyIncreasing scope → ⊥

-- the first fault, in the order of kinds, of a statement after what was declared before it
abbrev pub IsFaultyStatement : Option PlainDraft → Statement → RefusalKind → Type 0
IsFaultyStatement before statement Text = ⊥
IsFaultyStatement before statement Syntax = MayStand before statement → ⊥
IsFaultyStatement None statement Name = ⊥
IsFaultyStatement (Some before) statement Name = IsNameFault before statement
IsFaultyStatement None statement Limit = ⊥
IsFaultyStatement (Some before) statement Limit = IsLimitFault before statement × (IsNameFault before statement → ⊥)
IsFaultyStatement None statement Scope = ⊥
IsFaultyStatement (Some before) statement Scope = IsScopeFault before statement × (IsNameFault before statement → ⊥) × (IsLimitFault before statement → ⊥)
IsFaultyStatement before statement Grade = ⊥
IsFaultyStatement before statement Unfinished = ⊥

-- why the reader stops at a statement: it has this fault first; want of memory says nothing
abbrev pub IsStatementFault : Option PlainDraft → Statement → LineFault → Type 0
IsStatementFault before statement (Bad kind) = IsFaultyStatement before statement kind
IsStatementFault before statement NoMemory = Unit {0}

-- why names have no places: one isn't declared; want of memory says nothing
abbrev pub IsPlaceFault : List (List ℕ) → List (List ℕ) → LineFault → Type 0
IsPlaceFault declared names (Bad kind) = (kind ≡ Name) × Any (λ name. place_of declared name ≡ None) names
IsPlaceFault declared names NoMemory = Unit {0}
