-- What statements declare whose tokens are read, and the limits that this keeps.
use Rattle.std.specs.Prelude.{ℕ, ◌<◌, ◌≤◌, ℤ, pos, List, length, map, All}
use Rattle.hk_group.specs.Limits.{most_variables, value_count, most_name_bytes, most_constraints, greatest_coefficient}
use Rattle.hk_base.specs.Limits.{number_limit}
use Rattle.hk_lines.specs.declared.phrases.Values.{Values as ReadValues}
use Rattle.hk_lines.specs.declared.phrases.Term.{Term as ReadTerm}
use Rattle.hk_group.specs.declared.problem.Constraint.TheVariants.{AllDifferent, Among, Sequence, Gcc, Sum}
use Rattle.hk_group.specs.Problems.{IsWithin}
use Rattle.hk_draft.specs.Drafts.{PlainDraft, HasGroup}
use Rattle.hk_draft.specs.Declares.{AreNamesOf, AddsConstraint, AddsObjective, term_names, term_coefs, IsSmallCounting, IsWindow, IsSmallRow, AreOnce, made_row}
use Rattle.hk_lines.specs.Phrases.{Counting, Row}
use Rattle.hk_lines.specs.ValueSets.{IsSetOf}
use Rattle.hk_lines.specs.Plain.{terms_of}

-- a new variable passes no limit, no range is turned, and the set has a value
pub record FitsVariable (name : List ℕ) (set : List ReadValues) (before : PlainDraft) : Type 0 where
  pub short : length name ≤ most_name_bytes
  pub some : 0 < length set
  pub ordered : All (λ values. values.first ≤ values.last) set
  pub within : All (λ values. values.last < value_count) set
  pub room : length before.names < most_variables

-- a new sum passes no limit
pub record FitsTotal (terms : List ReadTerm) (least most : ℤ) (before : PlainDraft) : Type 0 where
  pub room : length before.constraints < most_constraints
  pub group : HasGroup before
  pub least_fits : IsWithin number_limit least
  pub most_fits : IsWithin number_limit most
  pub coefs_fit : All (λ term. IsWithin greatest_coefficient term.coef) terms

-- what is counted passes no limit, and there is room for its constraint
pub record FitsCounting (counting : Counting) (before : PlainDraft) : Type 0 where
  pub room : length before.constraints < most_constraints
  pub group : HasGroup before
  pub small : IsSmallCounting counting

-- there are rows, which pass no limit, and there is room for their constraint
pub record FitsRows (rows : List Row) (before : PlainDraft) : Type 0 where
  pub some : 0 < length rows
  pub room : length before.constraints < most_constraints
  pub group : HasGroup before
  pub small : All IsSmallRow rows

-- a new constraint, that the variables of these names differ
pub record AddsDistinct (names : List (List ℕ)) (before after : PlainDraft) : Type 0 where
  pub scope : List ℕ
  pub names_are : AreNamesOf names before scope
  pub adds : AddsConstraint (AllDifferent scope) before after

-- a new constraint, that the sum of these terms lies between two bounds
pub record AddsTotal (terms : List ReadTerm) (least most : ℤ) (before after : PlainDraft) : Type 0 where
  pub scope : List ℕ
  pub names_are : AreNamesOf (term_names (terms_of terms)) before scope
  pub fits : FitsTotal terms least most before
  pub adds : AddsConstraint (Sum scope (term_coefs (terms_of terms)) least most) before after

-- the objective, that the sum of these terms is to be least
pub record AddsLeast (terms : List ReadTerm) (before after : PlainDraft) : Type 0 where
  pub scope : List ℕ
  pub names_are : AreNamesOf (term_names (terms_of terms)) before scope
  pub coefs_fit : All (λ term. IsWithin greatest_coefficient term.coef) terms
  pub adds : AddsObjective (record { scope = scope; coefs = term_coefs (terms_of terms) }) before after

-- a new constraint on how many variables take values of a set
pub record AddsAmong (counting : Counting) (before after : PlainDraft) : Type 0 where
  pub scope : List ℕ
  pub set : ℕ
  pub names_are : AreNamesOf counting.names before scope
  pub small : IsSmallCounting counting
  pub is_set : IsSetOf counting.set set
  pub adds : AddsConstraint (Among scope set (pos counting.least) (pos counting.most)) before after

-- the same of each window
pub record AddsSequence (window : ℕ) (counting : Counting) (before after : PlainDraft) : Type 0 where
  pub scope : List ℕ
  pub set : ℕ
  pub names_are : AreNamesOf counting.names before scope
  pub is_window : IsWindow window
  pub small : IsSmallCounting counting
  pub is_set : IsSetOf counting.set set
  pub adds : AddsConstraint (Sequence scope window set (pos counting.least) (pos counting.most)) before after

-- a new constraint on how many variables take each of some values
pub record AddsGcc (names : List (List ℕ)) (rows : List Row) (before after : PlainDraft) : Type 0 where
  pub scope : List ℕ
  pub names_are : AreNamesOf names before scope
  pub some : 0 < length rows
  pub once : AreOnce rows
  pub small : All IsSmallRow rows
  pub adds : AddsConstraint (Gcc scope (map made_row rows)) before after
