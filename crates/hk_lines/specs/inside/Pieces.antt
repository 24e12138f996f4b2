-- The pieces that phrases are made of.
use Rattle.std.specs.Prelude.{◌≡◌, ℕ, List, [], ◌∷◌, codes}
use Rattle.hk_text.specs.Lexemes.{IsWord}
use Rattle.hk_text.specs.Numbers.{IsNumber}
use Rattle.hk_lines.specs.Phrases.{Values, Term, RangeThen, SignedThen}

-- a number, and the rest
pub record NumberThen (texts : List (List ℕ)) (n : ℕ) (rest : List (List ℕ)) : Type 0 where
  pub text : List ℕ
  pub parts : texts ≡ text ∷ rest
  pub number : IsNumber text n

-- a word, and the rest
pub record WordThen (texts : List (List ℕ)) (word : List ℕ) (rest : List (List ℕ)) : Type 0 where
  pub parts : texts ≡ word ∷ rest
  pub is_word : IsWord word

-- an item of a set, a range or else a number, and the rest
pub data ItemThen : List (List ℕ) → Values → List (List ℕ) → Type 0 where
  then_range : {texts rest : List (List ℕ)} {values : Values} → RangeThen texts values rest → ItemThen texts values rest
  then_number : {texts rest : List (List ℕ)} {n : ℕ}
      → NumberThen texts n rest → ((values : Values) (other : List (List ℕ)) → RangeThen texts values other → ⊥)
      → ItemThen texts (record { first = n; last = n }) rest

-- a term, and the rest
pub record TermThen (texts : List (List ℕ)) (term : Term) (rest : List (List ℕ)) : Type 0 where
  pub signed : SignedThen texts term.coef (codes "*" ∷ term.name ∷ rest)
  pub is_word : IsWord term.name

-- a range and no more
abbrev pub IsWholeRange : List (List ℕ) → Values → Type 0
IsWholeRange texts values = RangeThen texts values []
