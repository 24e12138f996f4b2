-- What the tokens of a line say: a statement.
use Rattle.std.specs.Prelude.{◌≡◌, ℕ, ℤ, List, [], ◌∷◌, All, codes}
use Rattle.hk_text.specs.Lexemes.{IsWord}
use Rattle.hk_text.specs.Numbers.{IsNumber}
use Rattle.hk_lines.specs.Phrases.{Values, Term, Row, Counting, NamesThen, SetThen, TermsThen, BoundsThen, AreCounting, AreRows}

-- the tokens of a scope after its first name: further names, each after a comma, and the closing parenthesis
abbrev pub scope_end : List (List ℕ) → List (List ℕ)
scope_end [] = codes ")" ∷ []
scope_end (name ∷ more) = codes "," ∷ name ∷ scope_end more

-- what a line says: the header; a variable with its name and its set; that variables differ;
-- how many of some variables take values of a set; the same for each window of so many of them that stand next to each other;
-- how many of some variables take each of some values; that a sum of terms lies between two bounds; that a sum of terms is to be least;
-- that what follows stands in a new group
pub data Statement : Type 0 where
  Header : Statement
  Variable : (name : List ℕ) (set : List Values) → Statement
  Distinct : (names : List (List ℕ)) → Statement
  Among : (counting : Counting) → Statement
  Sequence : (window : ℕ) (counting : Counting) → Statement
  Gcc : (names : List (List ℕ)) (rows : List Row) → Statement
  Total : (terms : List Term) (least most : ℤ) → Statement
  Objective : (terms : List Term) → Statement
  NewGroup : Statement

-- the tokens of a line say a statement: `hkm 1`; `var NAME in SET`; `alldifferent (NAME, NAME)`; `among (NAME, NAME) SET LEAST..MOST`;
-- `sequence WINDOW (NAME, NAME) SET LEAST..MOST`; `gcc (NAME, NAME) VALUE : LEAST..MOST, VALUE : LEAST..MOST`; `sum (TERM, TERM) LEAST..MOST`;
-- `minimize (TERM, TERM)`; `group`: with one name or more, one row or more, one term or more
pub data Says : List (List ℕ) → Statement → Type 0 where
  says_header : {texts : List (List ℕ)} → texts ≡ codes "hkm" ∷ codes "1" ∷ [] → Says texts Header
  says_variable : {texts more : List (List ℕ)} {name : List ℕ} {set : List Values}
      → texts ≡ codes "var" ∷ name ∷ codes "in" ∷ more → IsWord name → SetThen more set [] → Says texts (Variable name set)
  says_distinct : {texts : List (List ℕ)} {name : List ℕ} {more : List (List ℕ)}
      → texts ≡ codes "alldifferent" ∷ codes "(" ∷ name ∷ scope_end more
      → All IsWord (name ∷ more) → Says texts (Distinct (name ∷ more))
  says_among : {texts more : List (List ℕ)} {counting : Counting}
      → texts ≡ codes "among" ∷ codes "(" ∷ more → AreCounting more counting → Says texts (Among counting)
  says_sequence : {texts more : List (List ℕ)} {digits : List ℕ} {window : ℕ} {counting : Counting}
      → texts ≡ codes "sequence" ∷ digits ∷ codes "(" ∷ more → IsNumber digits window → AreCounting more counting → Says texts (Sequence window counting)
  says_gcc : {texts more after names : List (List ℕ)} {rows : List Row}
      → texts ≡ codes "gcc" ∷ codes "(" ∷ more → NamesThen more names after → AreRows after rows → Says texts (Gcc names rows)
  says_total : {texts more bounds : List (List ℕ)} {terms : List Term} {least most : ℤ}
      → texts ≡ codes "sum" ∷ codes "(" ∷ more → TermsThen more terms bounds → BoundsThen bounds least most [] → Says texts (Total terms least most)
  says_objective : {texts more : List (List ℕ)} {terms : List Term}
      → texts ≡ codes "minimize" ∷ codes "(" ∷ more → TermsThen more terms [] → Says texts (Objective terms)
  says_new_group : {texts : List (List ℕ)} → texts ≡ codes "group" ∷ [] → Says texts NewGroup
