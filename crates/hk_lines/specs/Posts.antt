-- What the tokens of a line say: a post of a specification on a scope.
use Rattle.std.specs.Prelude.{◌≡◌, ℕ, ℤ, List, [], ◌∷◌, All, codes}
use Rattle.hk_text.specs.Lexemes.{IsWord}
use Rattle.hk_lines.specs.Phrases.{Values, SignedThen, SetThen}
use Rattle.hk_lines.specs.Statements.{scope_end}

-- an argument: a number, numbers and ranges in braces, or numbers in brackets
pub data ArgText : Type 0 where
  Number : (value : ℤ) → ArgText
  Set : (set : List Values) → ArgText
  Numbers : (numbers : List ℤ) → ArgText

-- the name of a specification, the arguments, and the names of a scope
pub record Post : Type 0 where
  pub spec : List ℕ
  pub args : List ArgText
  pub names : List (List ℕ)

-- numbers with signs, each but the last before a comma, and the closing bracket
pub data NumbersThen : List (List ℕ) → List ℤ → List (List ℕ) → Type 0 where
  last_signed : {texts rest : List (List ℕ)} {value : ℤ}
      → SignedThen texts value (codes "]" ∷ rest) → NumbersThen texts (value ∷ []) rest
  more_signed : {texts more rest : List (List ℕ)} {value : ℤ} {numbers : List ℤ}
      → SignedThen texts value (codes "," ∷ more) → NumbersThen more numbers rest → NumbersThen texts (value ∷ numbers) rest

-- an argument
pub data ArgThen : List (List ℕ) → ArgText → List (List ℕ) → Type 0 where
  arg_number : {texts rest : List (List ℕ)} {value : ℤ} → SignedThen texts value rest → ArgThen texts (Number value) rest
  arg_set : {texts more rest : List (List ℕ)} {set : List Values}
      → texts ≡ codes "{" ∷ more → SetThen texts set rest → ArgThen texts (Set set) rest
  arg_numbers : {texts more rest : List (List ℕ)} {numbers : List ℤ}
      → texts ≡ codes "[" ∷ more → NumbersThen more numbers rest → ArgThen texts (Numbers numbers) rest

-- arguments, each but the last before a comma, and the closing parenthesis
pub data ArgsThen : List (List ℕ) → List ArgText → List (List ℕ) → Type 0 where
  last_arg : {texts rest : List (List ℕ)} {arg : ArgText}
      → ArgThen texts arg (codes ")" ∷ rest) → ArgsThen texts (arg ∷ []) rest
  more_arg : {texts more rest : List (List ℕ)} {arg : ArgText} {args : List ArgText}
      → ArgThen texts arg (codes "," ∷ more) → ArgsThen more args rest → ArgsThen texts (arg ∷ args) rest

-- no argument or some, and the closing parenthesis
pub data ArgListThen : List (List ℕ) → List ArgText → List (List ℕ) → Type 0 where
  no_args : {texts rest : List (List ℕ)} → texts ≡ codes ")" ∷ rest → ArgListThen texts [] rest
  some_args : {texts rest : List (List ℕ)} {args : List ArgText} → ArgsThen texts args rest → ArgListThen texts args rest

-- the texts are a scope of these names, with its parentheses
pub record IsWholeScope (texts names : List (List ℕ)) : Type 0 where
  pub first : List ℕ
  pub more : List (List ℕ)
  pub names_are : names ≡ first ∷ more
  pub texts_are : texts ≡ codes "(" ∷ first ∷ scope_end more
  pub words : All IsWord names

-- the tokens of a line say a post: `post NAME (ARG, ARG) (NAME, NAME)`, with any number of arguments and one name or more
pub record SaysPost (texts : List (List ℕ)) (post : Post) : Type 0 where
  pub more : List (List ℕ)
  pub scope : List (List ℕ)
  pub parts : texts ≡ codes "post" ∷ post.spec ∷ codes "(" ∷ more
  pub word : IsWord post.spec
  pub args : ArgListThen more post.args scope
  pub names : IsWholeScope scope post.names
