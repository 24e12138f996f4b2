-- What is read of the lines of a specification, before names and numbers are judged.
use Rattle.std.specs.Prelude.{◌≡◌, ℕ, ℤ, Bool, Option, None, Some, List, [], ◌∷◌, ◌++◌, All, codes}
use Rattle.hk_kinds.specs.Limits.{IsWithinLimit}
use Rattle.hk_kinds.specs.Shapes.{IsOfKind}
use Rattle.hk_kinds.specs.declared.kinds.Kind.{Kind}
use Rattle.hk_kinds.specs.declared.properties.Prop.{Prop}
use Rattle.hk_spec.specs.declared.parts.Param.{Param}
use Rattle.hk_text.specs.Lexemes.{IsWord}
use Rattle.hk_parse.specs.BlockLines.{BeginNameFault, BeginLimitFault, SmallInit}
use Rattle.hk_parse.specs.declared.headers.ParamWords.{ParamWords}
use Rattle.hk_parse.specs.LineTexts.{ParamText, InitText, param_texts, init_texts, IsInitText}
use Rattle.hk_print.specs.Printed.{param_word, kind_word}
use Rattle.hk_terms.specs.Names.{WritesUpTo}
use Rattle.hk_terms.specs.NumTexts.{number_texts, IsSigned}
use Rattle.hk_terms.specs.Trees.{is_negative, digits_of}
use Rattle.hk_parse.specs.LineTrees.{init_text}

-- a parameter that was read
abbrev pub plain_param : ParamWords → ParamText
plain_param p = record { kind = p.kind; name = p.name.now }

-- the texts begin with a parameter
pub record ParamThen (texts : List (List ℕ)) (param : ParamText) (rest : List (List ℕ)) : Type 0 where
  pub parts : texts ≡ param_word param.kind ∷ param.name ∷ rest
  pub is_word : IsWord param.name

-- the texts are parameters, and then the closing parenthesis
pub record AreParams (texts : List (List ℕ)) (params : List ParamText) : Type 0 where
  pub texts_are : texts ≡ param_texts params ++ codes ")" ∷ []
  pub words : All (λ (p : ParamText). IsWord p.name) params

-- the name and the parameters of a first line are words, none is taken, and all are within their limits
pub record IsHeader (name : List ℕ) (params : List ParamText) : Type 0 where
  pub is_word : IsWord name
  pub words : All (λ (p : ParamText). IsWord p.name) params
  pub free : BeginNameFault params → ⊥
  pub small : BeginLimitFault name params → ⊥

-- a parameter as it is written
abbrev pub param_text : Param → ParamText
param_text p = record { kind = p.kind; name = p.name }

-- what is made of digits, with `-` in front or without: the number; or nothing where it passes its limit
abbrev pub IsSignedOf : Bool → List ℕ → Option ℤ → Type 0
IsSignedOf negative digits (Some n) = (is_negative n ≡ negative) × (digits_of n ≡ digits) × IsWithinLimit n × WritesUpTo 1000000000000 digits
IsSignedOf negative digits None = WritesUpTo 1000000000000 digits → ⊥

-- the texts begin with a number, of which this is made
pub record SignedThen (texts : List (List ℕ)) (made : Option ℤ) (rest : List (List ℕ)) : Type 0 where
  pub negative : Bool
  pub digits : List ℕ
  pub texts_are : texts ≡ number_texts negative digits ++ rest
  pub written : IsSigned negative digits
  pub is_made : IsSignedOf negative digits made

-- what is made of an initial value: the value; or nothing where a number passes its limit
abbrev pub IsInitOf : Kind → InitText → Option Prop → Type 0
IsInitOf kind text (Some value) = (init_text value ≡ text) × IsOfKind kind value × SmallInit text
IsInitOf kind text None = SmallInit text → ⊥

-- the texts are an initial value, of which this is made
pub record ReadsInit (kind : Kind) (texts : List (List ℕ)) (made : Option Prop) : Type 0 where
  pub text : InitText
  pub texts_are : texts ≡ init_texts text
  pub written : IsInitText kind text
  pub is_made : IsInitOf kind text made

-- the texts are a property's name, its kind and its initial value
pub record ArePropertyTexts (texts : List (List ℕ)) (name : List ℕ) (kind : Kind) (init : InitText) : Type 0 where
  pub texts_are : texts ≡ name ∷ kind_word kind ∷ init_texts init
  pub is_word : IsWord name
  pub written : IsInitText kind init

-- and this is made of the initial value
pub record ReadsProperty (texts : List (List ℕ)) (name : List ℕ) (kind : Kind) (made : Option Prop) : Type 0 where
  pub init : InitText
  pub texts_are : ArePropertyTexts texts name kind init
  pub is_made : IsInitOf kind init made
