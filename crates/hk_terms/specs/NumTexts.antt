-- Expressions of numbers as they are written, with words in the places of names.
use Rattle.std.specs.Prelude.{ℕ, suc, Bool, true, false, List, [], ◌∷◌, ◌++◌, codes}
use Rattle.hk_text.specs.Lexemes.{IsWord}
use Rattle.hk_text.specs.Numbers.{IsNumber}
use Rattle.hk_terms.specs.SetTexts.{SetText, set_texts, in_parentheses, IsSetText}

-- the operations on two numbers that stand between them
pub data NumOperation : Type 0 where
  Plus : NumOperation
  Minus : NumOperation
  Times : NumOperation

-- the less or the greater of two numbers
pub data Choice : Type 0 where
  Least : Choice
  Most : Choice

-- a number, with `-` in front or without; a word in the place of a name, alone, or before `[i]`, `.lo` or `.hi`; the number of values of a set; an operation on two numbers; the less or the greater of two; the negative
pub data NumText : Type 0 where
  Number : (negative : Bool) (digits : List ℕ) → NumText
  Named : (word : List ℕ) → NumText
  Item : (word : List ℕ) → NumText
  Low : (word : List ℕ) → NumText
  High : (word : List ℕ) → NumText
  Card : (set : SetText) → NumText
  Joined : (operation : NumOperation) (a b : NumText) → NumText
  Chosen : (choice : Choice) (a b : NumText) → NumText
  Negative : (a : NumText) → NumText

-- the token of an operation
abbrev pub num_mark : NumOperation → List ℕ
num_mark Plus = codes "+"
num_mark Minus = codes "-"
num_mark Times = codes "*"

-- the word of a choice
abbrev pub choice_word : Choice → List ℕ
choice_word Least = codes "min"
choice_word Most = codes "max"

-- the tokens of a number, with `-` in front or without
abbrev pub number_texts : Bool → List ℕ → List (List ℕ)
number_texts false digits = digits ∷ []
number_texts true digits = codes "-" ∷ digits ∷ []

-- the tokens of an expression of a number
abbrev pub num_texts : NumText → List (List ℕ)
num_texts (Number negative digits) = number_texts negative digits
num_texts (Named word) = word ∷ []
num_texts (Item word) = word ∷ codes "[" ∷ codes "i" ∷ codes "]" ∷ []
num_texts (Low word) = word ∷ codes "." ∷ codes "lo" ∷ []
num_texts (High word) = word ∷ codes "." ∷ codes "hi" ∷ []
num_texts (Card set) = codes "card" ∷ in_parentheses (set_texts set)
num_texts (Joined operation a b) = in_parentheses (num_texts a ++ (num_mark operation ∷ num_texts b))
num_texts (Chosen choice a b) = choice_word choice ∷ in_parentheses (num_texts a ++ (codes "," ∷ num_texts b))
num_texts (Negative a) = in_parentheses (codes "-" ∷ num_texts a)

-- the digits write a number, which is not 0 where `-` stands in front
abbrev pub IsSigned : Bool → List ℕ → Type 0
IsSigned false digits = (n : ℕ) × IsNumber digits n
IsSigned true digits = (n : ℕ) × IsNumber digits (suc n)

-- the expression is well written: its numbers are numbers, and its names are words
abbrev pub IsNumText : NumText → Type 0
IsNumText (Number negative digits) = IsSigned negative digits
IsNumText (Named word) = IsWord word
IsNumText (Item word) = IsWord word
IsNumText (Low word) = IsWord word
IsNumText (High word) = IsWord word
IsNumText (Card set) = IsSetText set
IsNumText (Joined operation a b) = IsNumText a × IsNumText b
IsNumText (Chosen choice a b) = IsNumText a × IsNumText b
IsNumText (Negative a) = IsNumText a
