-- Expressions of sets as they are written, with words in the places of names.
use Rattle.std.specs.Prelude.{ℕ, List, [], ◌∷◌, ◌++◌, codes}
use Rattle.std.specs.List.Sorted.{IsStrictlyIncreasing}
use Rattle.hk_text.specs.Lexemes.{IsWord}
use Rattle.hk_text.specs.Numbers.{IsNumber}

-- the three operations on two sets
pub data SetOperation : Type 0 where
  Union : SetOperation
  Common : SetOperation
  Without : SetOperation

-- numbers in braces; the set of the value at hand; a word in the place of a name; an operation on two sets
pub data SetText : Type 0 where
  Values : (numbers : List (List ℕ)) → SetText
  One : SetText
  Named : (word : List ℕ) → SetText
  Joined : (operation : SetOperation) (a b : SetText) → SetText

-- the token of an operation
abbrev pub set_mark : SetOperation → List ℕ
set_mark Union = codes "|"
set_mark Common = codes "&"
set_mark Without = codes "\\"

-- lists of tokens, each but the last followed by a comma
abbrev pub listed : List (List ℕ) → List (List ℕ)
listed [] = []
listed (text ∷ []) = text ∷ []
listed (text ∷ next ∷ more) = text ∷ codes "," ∷ listed (next ∷ more)

-- tokens in parentheses
abbrev pub in_parentheses : List (List ℕ) → List (List ℕ)
in_parentheses texts = codes "(" ∷ (texts ++ codes ")" ∷ [])

-- the tokens of an expression of a set
abbrev pub set_texts : SetText → List (List ℕ)
set_texts (Values numbers) = codes "{" ∷ (listed numbers ++ codes "}" ∷ [])
set_texts One = codes "{" ∷ codes "v" ∷ codes "}" ∷ []
set_texts (Named word) = word ∷ []
set_texts (Joined operation a b) = in_parentheses (set_texts a ++ (set_mark operation ∷ set_texts b))

-- the texts write these numbers
pub data AreNumbers : List (List ℕ) → List ℕ → Type 0 where
  no_number : AreNumbers [] []
  then_number : {text : List ℕ} {n : ℕ} {texts : List (List ℕ)} {numbers : List ℕ}
      → IsNumber text n → AreNumbers texts numbers → AreNumbers (text ∷ texts) (n ∷ numbers)

-- the texts write numbers, each above the one before it
pub record AreRisingNumbers (texts : List (List ℕ)) : Type 0 where
  pub numbers : List ℕ
  pub written : AreNumbers texts numbers
  pub rising : IsStrictlyIncreasing numbers

-- the expression is well written: its numbers rise, and its names are words
abbrev pub IsSetText : SetText → Type 0
IsSetText (Values numbers) = AreRisingNumbers numbers
IsSetText One = Unit {0}
IsSetText (Named word) = IsWord word
IsSetText (Joined operation a b) = IsSetText a × IsSetText b
