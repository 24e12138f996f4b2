-- What a line of a specification is found to be.
use Rattle.std.specs.Prelude.{◌≡◌, ℕ, Bool, true, false, List}
use Rattle.hk_parse.specs.declared.faults.BlockFault.{BlockFault}
use Rattle.hk_parse.specs.declared.faults.BlockFault.TheVariants.{Syntax, Name, Limit, Memory}
use Rattle.hk_parse.specs.BlockLines.{Part, MayStand, BeginNameFault, BeginLimitFault, LineNameFault, LineLimitFault, Begins, IsGoodAfter}
use Rattle.hk_parse.specs.LineTexts.{ParamText, LineText, Begin, End, SaysLine}

-- the texts are those of a first line, and this is the specification that it begins
pub record BeginsWith (texts : List (List ℕ)) (part : Part) : Type 0 where
  pub name : List ℕ
  pub params : List ParamText
  pub says : SaysLine texts (Begin name params)
  pub begins : Begins name params part

-- why the texts begin no specification: they are those of no first line; or a name is taken; or else a quantity passes its limit
abbrev pub IsBeginFault : List (List ℕ) → BlockFault → Type 0
IsBeginFault texts Syntax = (name : List ℕ) (params : List ParamText) → SaysLine texts (Begin name params) → ⊥
IsBeginFault texts Name = (name : List ℕ) × (params : List ParamText) × SaysLine texts (Begin name params) × BeginNameFault params
IsBeginFault texts Limit = (name : List ℕ) × (params : List ParamText) × SaysLine texts (Begin name params) × (BeginNameFault params → ⊥) × BeginLimitFault name params
IsBeginFault texts Memory = Unit {0}

-- the texts are those of a line that is good after the lines before it, with what they say then
pub record GoesOn (before : Part) (texts : List (List ℕ)) (after : Part) : Type 0 where
  pub line : LineText
  pub says : SaysLine texts line
  pub good : IsGoodAfter before line after

-- the texts are those of the end, which may stand there
pub record Ends (part : Part) (texts : List (List ℕ)) : Type 0 where
  pub says : SaysLine texts End
  pub stands : MayStand part End

-- why the texts are no good line: they are those of no line that may stand there; or a name is taken or stands for something else; or else a quantity passes its limit
abbrev pub IsLineFault : Part → List (List ℕ) → BlockFault → Type 0
IsLineFault part texts Syntax = (line : LineText) → SaysLine texts line → MayStand part line → ⊥
IsLineFault part texts Name = (line : LineText) × SaysLine texts line × MayStand part line × LineNameFault part line
IsLineFault part texts Limit = (line : LineText) × SaysLine texts line × MayStand part line × (LineNameFault part line → ⊥) × LineLimitFault part line
IsLineFault part texts Memory = Unit {0}

-- what the tokens of a line after the first are found to say: the end, which adds nothing; or else a good line
abbrev pub IsAdded : Part → List (List ℕ) → Part → Bool → Type 0
IsAdded before texts after true = Ends before texts × (after ≡ before)
IsAdded before texts after false = GoesOn before texts after
