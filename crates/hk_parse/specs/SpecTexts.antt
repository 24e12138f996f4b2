-- Which specification the bytes of a text write, and why they write none.
use Rattle.std.specs.Prelude.{◌≡◌, ◌≢◌, ℕ, ◌+◌, ◌⊎◌, List, [], ◌∷◌, ◌++◌, length}
use Rattle.hk_spec.specs.Specifications.{Specification}
use Rattle.hk_text.specs.Lines.{lines}
use Rattle.hk_text.specs.Tokens.{HasTexts, IsBadByte}
use Rattle.hk_parse.specs.declared.faults.BlockFault.{BlockFault}
use Rattle.hk_parse.specs.declared.faults.BlockFault.TheVariants.{Syntax, Name, Limit, Memory}
use Rattle.hk_parse.specs.declared.faults.SpecFault.{SpecFault}
use Rattle.hk_parse.specs.declared.faults.SpecFault.TheVariants as spec
use Rattle.hk_parse.specs.BlockFaults.{BeginsWith, IsBeginFault, GoesOn, Ends, IsLineFault}
use Rattle.hk_parse.specs.BlockLines.{Part}
use Rattle.hk_parse.specs.Blocks.{IsWhole}

-- how far a specification is read: not begun, so far, or whole
pub data Stage : Type 0 where
  Before : Stage
  Within : (part : Part) → Stage
  Whole : (spec : Specification) → Stage

-- a good line: one without tokens, which has no effect; the first; one after it; the end
pub data IsGoodLine : Stage → List ℕ → Stage → Type 0 where
  good_empty : {stage : Stage} {line : List ℕ} → HasTexts line [] → IsGoodLine stage line stage
  good_first : {line : List ℕ} {texts : List (List ℕ)} {part : Part} → HasTexts line texts → BeginsWith texts part → IsGoodLine Before line (Within part)
  good_later : {line : List ℕ} {texts : List (List ℕ)} {part after : Part} → HasTexts line texts → GoesOn part texts after → IsGoodLine (Within part) line (Within after)
  good_end : {line : List ℕ} {texts : List (List ℕ)} {part : Part} {s : Specification} → HasTexts line texts → Ends part texts → IsWhole part s → IsGoodLine (Within part) line (Whole s)

-- good lines, one after the other
pub data AreGoodLines : Stage → List (List ℕ) → Stage → Type 0 where
  no_line : {stage : Stage} → AreGoodLines stage [] stage
  then_line : {stage between after : Stage} {line : List ℕ} {more : List (List ℕ)}
      → IsGoodLine stage line between → AreGoodLines between more after → AreGoodLines stage (line ∷ more) after

-- the bytes write the specification: all lines are good, and the last that isn't empty is its end
abbrev pub WritesSpec : List ℕ → Specification → Type 0
WritesSpec bytes s = AreGoodLines Before (lines bytes) (Whole s)

-- why texts are no good line: by where they stand; after the end stands none
abbrev pub IsFaultAt : Stage → List (List ℕ) → BlockFault → Type 0
IsFaultAt Before texts fault = IsBeginFault texts fault
IsFaultAt (Within part) texts fault = IsLineFault part texts fault
IsFaultAt (Whole s) texts Syntax = texts ≢ []
IsFaultAt (Whole s) texts Name = ⊥
IsFaultAt (Whole s) texts Limit = ⊥
IsFaultAt (Whole s) texts Memory = Unit {0}

-- a line is bad: a byte is in no token, which counts as Syntax, or its texts are no good line
pub data IsBadAt (stage : Stage) (line : List ℕ) : BlockFault → Type 0 where
  bad_byte : {column byte : ℕ} → IsBadByte line column byte → IsBadAt stage line Syntax
  bad_texts : {texts : List (List ℕ)} {fault : BlockFault} → HasTexts line texts → texts ≢ [] → IsFaultAt stage texts fault → IsBadAt stage line fault

-- the first bad line of the bytes has this number, counted from 1, and this fault
pub record IsFirstBad (bytes : List ℕ) (number : ℕ) (fault : BlockFault) : Type 0 where
  pub front : List (List ℕ)
  pub line : List ℕ
  pub rest : List (List ℕ)
  pub parts : lines bytes ≡ front ++ line ∷ rest
  pub counted : number ≡ length front + 1
  pub stage : Stage
  pub good : AreGoodLines Before front stage
  pub bad : IsBadAt stage line fault

-- all lines are good, and the end is wanting: the line after the last is bad
pub record WantsEnd (bytes : List ℕ) (number : ℕ) : Type 0 where
  pub stage : Stage
  pub good : AreGoodLines Before (lines bytes) stage
  pub no_end : (s : Specification) → stage ≡ Whole s → ⊥
  pub counted : number ≡ length (lines bytes) + 1

-- why the bytes write no specification: their first bad line, by its first fault; want of memory says nothing
abbrev pub IsSpecFault : List ℕ → SpecFault → Type 0
IsSpecFault bytes (spec.Syntax number) = IsFirstBad bytes number Syntax ⊎ WantsEnd bytes number
IsSpecFault bytes (spec.Name number) = IsFirstBad bytes number Name
IsSpecFault bytes (spec.Limit number) = IsFirstBad bytes number Limit
IsSpecFault bytes spec.Memory = Unit {0}

-- the tokens of lines, those of lines without tokens left out
pub data AreTextsOf : List (List ℕ) → List (List (List ℕ)) → Type 0 where
  no_lines : AreTextsOf [] []
  without_texts : {line : List ℕ} {more : List (List ℕ)} {all : List (List (List ℕ))}
      → HasTexts line [] → AreTextsOf more all → AreTextsOf (line ∷ more) all
  with_texts : {line : List ℕ} {texts : List (List ℕ)} {more : List (List ℕ)} {all : List (List (List ℕ))}
      → HasTexts line texts → texts ≢ [] → AreTextsOf more all → AreTextsOf (line ∷ more) (texts ∷ all)
