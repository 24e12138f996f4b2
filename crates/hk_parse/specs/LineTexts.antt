-- The lines of a specification as they are written, and their tokens.
use Rattle.std.specs.Prelude.{◌≡◌, ℕ, Bool, List, [], ◌∷◌, ◌++◌, All, codes}
use Rattle.hk_kinds.specs.declared.kinds.Kind.{Kind}
use Rattle.hk_kinds.specs.declared.kinds.Kind.TheVariants.{Min, Max, Interval, SomeBits, AllBits}
use Rattle.hk_spec.specs.declared.expressions.Side.{Side}
use Rattle.hk_spec.specs.declared.expressions.Side.TheVariants.{Down, Up}
use Rattle.hk_spec.specs.declared.parts.ParamKind.{ParamKind}
use Rattle.hk_text.specs.Lexemes.{IsWord}
use Rattle.hk_print.specs.Printed.{param_word, kind_word}
use Rattle.hk_terms.specs.SetTexts.{SetText, set_texts, listed, in_parentheses, AreRisingNumbers, IsSetText}
use Rattle.hk_terms.specs.NumTexts.{NumText, num_texts, number_texts, IsSigned, IsNumText}
use Rattle.hk_terms.specs.CondTexts.{CondText, cond_texts, IsCondText}

-- a parameter: what it stands for, and its name
pub record ParamText : Type 0 where
  pub kind : ParamKind
  pub name : List ℕ

-- an initial value: a number, two numbers, or numbers in braces
pub data InitText : Type 0 where
  Single : (negative : Bool) (digits : List ℕ) → InitText
  Pair : (negative : Bool) (digits : List ℕ) (also_negative : Bool) (more_digits : List ℕ) → InitText
  Values : (numbers : List (List ℕ)) → InitText

-- how a property steps: to a number, to two numbers, or to a set
pub data StepText : Type 0 where
  ToNumber : (e : NumText) → StepText
  ToPair : (low high : NumText) → StepText
  ToSet : (e : SetText) → StepText

-- a line of a specification: its first line with its name and parameters; a property of a side; the test; the step of a property; the end
pub data LineText : Type 0 where
  Begin : (name : List ℕ) (params : List ParamText) → LineText
  Property : (side : Side) (name : List ℕ) (kind : Kind) (init : InitText) → LineText
  Test : (test : CondText) → LineText
  Step : (name : List ℕ) (step : StepText) → LineText
  End : LineText

-- the word of a side
abbrev pub side_word : Side → List ℕ
side_word Down = codes "down"
side_word Up = codes "up"

-- parameters, each but the last followed by a comma
abbrev pub param_texts : List ParamText → List (List ℕ)
param_texts [] = []
param_texts (p ∷ []) = param_word p.kind ∷ p.name ∷ []
param_texts (p ∷ next ∷ more) = param_word p.kind ∷ p.name ∷ codes "," ∷ param_texts (next ∷ more)

-- the tokens of an initial value
abbrev pub init_texts : InitText → List (List ℕ)
init_texts (Single negative digits) = number_texts negative digits
init_texts (Pair negative digits also_negative more_digits) = number_texts negative digits ++ (codes ".." ∷ number_texts also_negative more_digits)
init_texts (Values numbers) = codes "{" ∷ (listed numbers ++ codes "}" ∷ [])

-- the tokens of a step
abbrev pub step_texts : StepText → List (List ℕ)
step_texts (ToNumber e) = num_texts e
step_texts (ToPair low high) = num_texts low ++ num_texts high
step_texts (ToSet e) = set_texts e

-- the tokens of a line
abbrev pub line_texts : LineText → List (List ℕ)
line_texts (Begin name params) = codes "spec" ∷ name ∷ in_parentheses (param_texts params)
line_texts (Property side name kind init) = side_word side ∷ name ∷ kind_word kind ∷ init_texts init
line_texts (Test test) = codes "test" ∷ cond_texts test
line_texts (Step name step) = codes "step" ∷ name ∷ step_texts step
line_texts End = codes "end" ∷ []

-- the initial value has the form that the kind asks, and its numbers are well written
abbrev pub IsInitText : Kind → InitText → Type 0
IsInitText Min (Single negative digits) = IsSigned negative digits
IsInitText Max (Single negative digits) = IsSigned negative digits
IsInitText Interval (Pair negative digits also_negative more_digits) = IsSigned negative digits × IsSigned also_negative more_digits
IsInitText SomeBits (Values numbers) = AreRisingNumbers numbers
IsInitText AllBits (Values numbers) = AreRisingNumbers numbers
IsInitText _ _ = ⊥

-- the step is well written
abbrev pub IsStepText : StepText → Type 0
IsStepText (ToNumber e) = IsNumText e
IsStepText (ToPair low high) = IsNumText low × IsNumText high
IsStepText (ToSet e) = IsSetText e

-- the step has the form that the kind asks
abbrev pub HasForm : Kind → StepText → Type 0
HasForm Min (ToNumber e) = Unit {0}
HasForm Max (ToNumber e) = Unit {0}
HasForm Interval (ToPair low high) = Unit {0}
HasForm SomeBits (ToSet e) = Unit {0}
HasForm AllBits (ToSet e) = Unit {0}
HasForm _ _ = ⊥

-- the line is well written: its names are words, and its parts are well written
abbrev pub IsLineText : LineText → Type 0
IsLineText (Begin name params) = IsWord name × All (λ (p : ParamText). IsWord p.name) params
IsLineText (Property side name kind init) = IsWord name × IsInitText kind init
IsLineText (Test test) = IsCondText test
IsLineText (Step name step) = IsWord name × IsStepText step
IsLineText End = Unit {0}

-- the tokens say the line
pub record SaysLine (texts : List (List ℕ)) (line : LineText) : Type 0 where
  pub texts_are : texts ≡ line_texts line
  pub written : IsLineText line
