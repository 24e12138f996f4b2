-- The phrases that statements are made of: tokens that begin with a phrase and go on with a rest.
use Rattle.std.specs.Prelude.{◌≡◌, ℕ, ℤ, pos, negsuc, suc, List, [], ◌∷◌, codes}
use Rattle.hk_text.specs.Lexemes.{IsWord}
use Rattle.hk_text.specs.Numbers.{IsNumber}

-- the values from first to last
pub record Values : Type 0 where
  pub first : ℕ
  pub last : ℕ

-- a coefficient and the name of a variable
pub record Term : Type 0 where
  pub coef : ℤ
  pub name : List ℕ

-- a value, the digits that write it, and how many variables may take it: from least to most
pub record Row : Type 0 where
  pub value : ℕ
  pub digits : List ℕ
  pub least : ℕ
  pub most : ℕ

-- names of variables, the values that are counted, and how many of the variables may take one: from least to most
pub record Counting : Type 0 where
  pub names : List (List ℕ)
  pub set : List Values
  pub least : ℕ
  pub most : ℕ

-- a number, or `-` and a number other than 0
pub data SignedThen : List (List ℕ) → ℤ → List (List ℕ) → Type 0 where
  then_plain : {texts rest : List (List ℕ)} {text : List ℕ} {n : ℕ}
      → texts ≡ text ∷ rest → IsNumber text n → SignedThen texts (pos n) rest
  then_minus : {texts rest : List (List ℕ)} {text : List ℕ} {n : ℕ}
      → texts ≡ codes "-" ∷ text ∷ rest → IsNumber text (suc n) → SignedThen texts (negsuc n) rest

-- a range, which is two numbers with `..` between them
pub record RangeThen (texts : List (List ℕ)) (values : Values) (rest : List (List ℕ)) : Type 0 where
  pub from : List ℕ
  pub to : List ℕ
  pub parts : texts ≡ from ∷ codes ".." ∷ to ∷ rest
  pub from_is : IsNumber from values.first
  pub to_is : IsNumber to values.last

-- names, each but the last before a comma, and the closing parenthesis
pub data NamesThen : List (List ℕ) → List (List ℕ) → List (List ℕ) → Type 0 where
  last_name : {texts rest : List (List ℕ)} {name : List ℕ} → texts ≡ name ∷ codes ")" ∷ rest → IsWord name → NamesThen texts (name ∷ []) rest
  more_name : {texts more rest : List (List ℕ)} {name : List ℕ} {names : List (List ℕ)}
      → texts ≡ name ∷ codes "," ∷ more → IsWord name → NamesThen more names rest → NamesThen texts (name ∷ names) rest

-- numbers and ranges, each but the last before a comma, and the closing brace
pub data ItemsThen : List (List ℕ) → List Values → List (List ℕ) → Type 0 where
  last_number : {texts rest : List (List ℕ)} {text : List ℕ} {n : ℕ}
      → texts ≡ text ∷ codes "}" ∷ rest → IsNumber text n → ItemsThen texts (record { first = n; last = n } ∷ []) rest
  last_range : {texts rest : List (List ℕ)} {from to : List ℕ} {m n : ℕ}
      → texts ≡ from ∷ codes ".." ∷ to ∷ codes "}" ∷ rest → IsNumber from m → IsNumber to n → ItemsThen texts (record { first = m; last = n } ∷ []) rest
  more_number : {texts more rest : List (List ℕ)} {text : List ℕ} {n : ℕ} {items : List Values}
      → texts ≡ text ∷ codes "," ∷ more → IsNumber text n → ItemsThen more items rest → ItemsThen texts (record { first = n; last = n } ∷ items) rest
  more_range : {texts more rest : List (List ℕ)} {from to : List ℕ} {m n : ℕ} {items : List Values}
      → texts ≡ from ∷ codes ".." ∷ to ∷ codes "," ∷ more → IsNumber from m → IsNumber to n → ItemsThen more items rest
      → ItemsThen texts (record { first = m; last = n } ∷ items) rest

-- a range, or numbers and ranges in braces
pub data SetThen : List (List ℕ) → List Values → List (List ℕ) → Type 0 where
  set_range : {texts rest : List (List ℕ)} {from to : List ℕ} {m n : ℕ}
      → texts ≡ from ∷ codes ".." ∷ to ∷ rest → IsNumber from m → IsNumber to n → SetThen texts (record { first = m; last = n } ∷ []) rest
  set_empty : {texts rest : List (List ℕ)} → texts ≡ codes "{" ∷ codes "}" ∷ rest → SetThen texts [] rest
  set_items : {texts more rest : List (List ℕ)} {items : List Values}
      → texts ≡ codes "{" ∷ more → ItemsThen more items rest → SetThen texts items rest

-- terms `SIGNED * NAME`, each but the last before a comma, and the closing parenthesis
pub data TermsThen : List (List ℕ) → List Term → List (List ℕ) → Type 0 where
  last_term : {texts rest : List (List ℕ)} {coef : ℤ} {name : List ℕ}
      → SignedThen texts coef (codes "*" ∷ name ∷ codes ")" ∷ rest) → IsWord name → TermsThen texts (record { coef = coef; name = name } ∷ []) rest
  more_term : {texts more rest : List (List ℕ)} {coef : ℤ} {name : List ℕ} {terms : List Term}
      → SignedThen texts coef (codes "*" ∷ name ∷ codes "," ∷ more) → IsWord name → TermsThen more terms rest
      → TermsThen texts (record { coef = coef; name = name } ∷ terms) rest

-- two signed numbers with `..` between them
pub data BoundsThen : List (List ℕ) → ℤ → ℤ → List (List ℕ) → Type 0 where
  then_bounds : {texts more rest : List (List ℕ)} {least most : ℤ}
      → SignedThen texts least (codes ".." ∷ more) → SignedThen more most rest → BoundsThen texts least most rest

-- the names of a scope with its closing parenthesis, a set, and two numbers with `..` between them, and no more
pub record AreCounting (texts : List (List ℕ)) (counting : Counting) : Type 0 where
  pub after : List (List ℕ)
  pub counts : List (List ℕ)
  pub scope : NamesThen texts counting.names after
  pub set : SetThen after counting.set counts
  pub bounds : RangeThen counts (record { first = counting.least; last = counting.most }) []

-- a value, `:`, and two numbers with `..` between them
pub record RowThen (texts : List (List ℕ)) (row : Row) (rest : List (List ℕ)) : Type 0 where
  pub counts : List (List ℕ)
  pub parts : texts ≡ row.digits ∷ codes ":" ∷ counts
  pub value_is : IsNumber row.digits row.value
  pub bounds : RangeThen counts (record { first = row.least; last = row.most }) rest

-- rows, each but the last before a comma, and no more
pub data AreRows : List (List ℕ) → List Row → Type 0 where
  last_row : {texts : List (List ℕ)} {row : Row} → RowThen texts row [] → AreRows texts (row ∷ [])
  more_rows : {texts more : List (List ℕ)} {row : Row} {rows : List Row} → RowThen texts row (codes "," ∷ more) → AreRows more rows → AreRows texts (row ∷ rows)
