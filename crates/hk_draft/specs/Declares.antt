-- What is declared after a statement, by what was declared before it.
use Rattle.std.specs.Prelude.{◌≡◌, ◌≢◌, ℕ, ◌<◌, ◌≤◌, ℤ, pos, List, [], ◌∷◌, ◌++◌, length, map, All, AllPairs, position, bytes_eq, Option, None, Some, true, false}
use Rattle.std.specs.List.Sorted.{IsStrictlyIncreasing}
use Rattle.hk_group.specs.declared.problem.Constraint.{Constraint}
use Rattle.hk_group.specs.declared.problem.Constraint.TheVariants.{AllDifferent, Among as AmongConstraint, Sequence as SequenceConstraint, Gcc as GccConstraint, Sum}
use Rattle.hk_group.specs.declared.linear.Linear.{Linear}
use Rattle.hk_group.specs.Limits.{most_variables, value_count, most_name_bytes, most_constraints, most_window, greatest_coefficient}
use Rattle.hk_draft.specs.Drafts.{PlainDraft, HasGroup, empty_draft, put}
use Rattle.hk_draft.specs.Limits.{most_times}
use Rattle.hk_base.specs.Limits.{number_limit}
use Rattle.hk_lines.specs.Phrases.{Values, Term, Row, Counting}
use Rattle.hk_group.specs.Grouping.{constraint_parts, objective_part}
use Rattle.hk_group.specs.Problems.{IsWithin}
use Rattle.hk_lines.specs.Statements.{Statement, Header, Variable, Distinct, Among, Sequence, Gcc, Total, Objective, NewGroup}
use Rattle.hk_lines.specs.ValueSets.{IsSetOf}

-- the header stands first and only there
abbrev pub MayStand : Option PlainDraft → Statement → Type 0
MayStand None Header = Unit {0}
MayStand None (Variable name set) = ⊥
MayStand None (Distinct names) = ⊥
MayStand None (Among counting) = ⊥
MayStand None (Sequence window counting) = ⊥
MayStand None (Gcc names rows) = ⊥
MayStand None (Total terms least most) = ⊥
MayStand None (Objective terms) = ⊥
MayStand None NewGroup = ⊥
MayStand (Some before) Header = ⊥
MayStand (Some before) (Variable name set) = Unit {0}
MayStand (Some before) (Distinct names) = Unit {0}
MayStand (Some before) (Among counting) = Unit {0}
MayStand (Some before) (Sequence window counting) = Unit {0}
MayStand (Some before) (Gcc names rows) = Unit {0}
MayStand (Some before) (Total terms least most) = Unit {0}
MayStand (Some before) (Objective terms) = Unit {0}
MayStand (Some before) NewGroup = Unit {0}

-- the place of the variable with this name, where there is one
abbrev pub place_of : List (List ℕ) → List ℕ → Option ℕ
place_of names name = position (bytes_eq name) names

-- a new variable: its name is short and not declared before, its set has a value and none above 127, no range is turned, and there is room for it
pub record AddsVariable (name : List ℕ) (set : List Values) (before after : PlainDraft) : Type 0 where
  pub short : length name ≤ most_name_bytes
  pub new : place_of before.names name ≡ None
  pub some : 0 < length set
  pub ordered : All (λ values. values.first ≤ values.last) set
  pub within : All (λ values. values.last < value_count) set
  pub room : length before.names < most_variables
  pub domain : ℕ
  pub is_set : IsSetOf set domain
  pub added : after ≡ record before { names = before.names ++ name ∷ []; domains = before.domains ++ domain ∷ [] }

-- the names are those of the scope's variables, which stand in the order of their declaration
pub record AreNamesOf (names : List (List ℕ)) (before : PlainDraft) (scope : List ℕ) : Type 0 where
  pub declared : map (place_of before.names) names ≡ map Some scope
  pub rising : IsStrictlyIncreasing scope

-- the scope's places are those of the names
abbrev pub ArePlacesOf : List (List ℕ) → List (List ℕ) → List ℕ → Type 0
ArePlacesOf declared names scope = map (place_of declared) names ≡ map Some scope

-- a new constraint, for which there is room: its parts are put in a new group where one is to begin, and else in the last
pub record AddsConstraint (constraint : Constraint) (before after : PlainDraft) : Type 0 where
  pub room : length before.constraints < most_constraints
  pub group : HasGroup before
  pub added : after ≡ record before {
    constraints = before.constraints ++ constraint ∷ [];
    groups = put before.fresh before.groups (constraint_parts constraint);
    fresh = false;
  }

-- the names of terms, and their coefficients
abbrev pub term_names : List Term → List (List ℕ)
term_names terms = map (λ term. term.name) terms

abbrev pub term_coefs : List Term → List ℤ
term_coefs terms = map (λ term. term.coef) terms

-- what is counted passes no limit: no range is turned, no value is above 127, and the numbers of variables are within their limit
pub record IsSmallCounting (counting : Counting) : Type 0 where
  pub ordered : All (λ values. values.first ≤ values.last) counting.set
  pub within : All (λ values. values.last < value_count) counting.set
  pub least_fits : counting.least ≤ most_times
  pub most_fits : counting.most ≤ most_times

-- a window is of 1 to 32 variables
pub record IsWindow (window : ℕ) : Type 0 where
  pub some : 1 ≤ window
  pub short : window ≤ most_window

-- a row passes no limit
pub record IsSmallRow (row : Row) : Type 0 where
  pub small : row.value < value_count
  pub least_fits : row.least ≤ most_times
  pub most_fits : row.most ≤ most_times

-- the digits of the values of rows
abbrev pub row_digits : List Row → List (List ℕ)
row_digits rows = map (λ row. row.digits) rows

-- no two rows list the same value: a number has one text, since it has no needless zero, so their digits differ
abbrev pub AreOnce : List Row → Type 0
AreOnce rows = AllPairs (λ digits other. digits ≢ other) (row_digits rows)

-- the row of a constraint: a value, and how many variables may take it
abbrev pub made_row : Row → ℕ × ℤ × ℤ
made_row row = (row.value, pos row.least, pos row.most)

-- the objective, where there was none: its part is put like those of a constraint
pub record AddsObjective (linear : Linear) (before after : PlainDraft) : Type 0 where
  pub new : before.objective ≡ None
  pub group : HasGroup before
  pub added : after ≡ record before {
    objective = Some linear;
    groups = put before.fresh before.groups (objective_part linear ∷ []);
    fresh = false;
  }

-- what is declared after a statement, by what was declared before it: None before the header, which stands first and only there
pub data Declares : Option PlainDraft → Statement → Option PlainDraft → Type 0 where
  declares_header : Declares None Header (Some empty_draft)
  declares_variable : {before after : PlainDraft} {name : List ℕ} {set : List Values}
      → AddsVariable name set before after → Declares (Some before) (Variable name set) (Some after)
  declares_distinct : {before after : PlainDraft} {names : List (List ℕ)} {scope : List ℕ}
      → AreNamesOf names before scope → AddsConstraint (AllDifferent scope) before after → Declares (Some before) (Distinct names) (Some after)
  declares_among : {before after : PlainDraft} {counting : Counting} {scope : List ℕ} {set : ℕ}
      → AreNamesOf counting.names before scope → IsSmallCounting counting → IsSetOf counting.set set
      → AddsConstraint (AmongConstraint scope set (pos counting.least) (pos counting.most)) before after → Declares (Some before) (Among counting) (Some after)
  declares_sequence : {before after : PlainDraft} {window : ℕ} {counting : Counting} {scope : List ℕ} {set : ℕ}
      → AreNamesOf counting.names before scope → IsWindow window → IsSmallCounting counting → IsSetOf counting.set set
      → AddsConstraint (SequenceConstraint scope window set (pos counting.least) (pos counting.most)) before after → Declares (Some before) (Sequence window counting) (Some after)
  declares_gcc : {before after : PlainDraft} {names : List (List ℕ)} {rows : List Row} {scope : List ℕ}
      → AreNamesOf names before scope → 0 < length rows → AreOnce rows → All IsSmallRow rows
      → AddsConstraint (GccConstraint scope (map made_row rows)) before after → Declares (Some before) (Gcc names rows) (Some after)
  declares_total : {before after : PlainDraft} {terms : List Term} {scope : List ℕ} {least most : ℤ}
      → AreNamesOf (term_names terms) before scope → All (IsWithin greatest_coefficient) (term_coefs terms) → IsWithin number_limit least → IsWithin number_limit most
      → AddsConstraint (Sum scope (term_coefs terms) least most) before after → Declares (Some before) (Total terms least most) (Some after)
  declares_objective : {before after : PlainDraft} {terms : List Term} {scope : List ℕ}
      → AreNamesOf (term_names terms) before scope → All (IsWithin greatest_coefficient) (term_coefs terms)
      → AddsObjective (record { scope = scope; coefs = term_coefs terms }) before after → Declares (Some before) (Objective terms) (Some after)
  declares_group : {before : PlainDraft} → Declares (Some before) NewGroup (Some (record before { fresh = true }))
