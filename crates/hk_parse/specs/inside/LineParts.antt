-- What the parts of a line are found to be.
use Rattle.std.specs.Prelude.{◌≡◌, ◌<◌, ◌≤◌, ◌⊎◌, ℕ, Option, None, Some, Err, List, length}
use Rattle.hk_kinds.specs.declared.kinds.Kind.{Kind}
use Rattle.hk_kinds.specs.declared.properties.Prop.{Prop}
use Rattle.hk_spec.specs.declared.expressions.Side.{Side}
use Rattle.hk_parse.specs.declared.faults.BlockFault.{BlockFault}
use Rattle.hk_parse.specs.declared.faults.BlockFault.TheVariants.{Syntax, Name, Limit, Memory}
use Rattle.hk_parse.specs.BlockLines.{Part, BeginNameFault, BeginLimitFault, IsTaken, part_names, side_of, with_property}
use Rattle.hk_terms.specs.CondTexts.{CondText, cond_texts, IsCondText}
use Rattle.hk_parse.specs.LineTexts.{ParamText}
use Rattle.hk_terms.specs.Names.{Names}
use Rattle.hk_exprs.specs.Reads.{ReadsCond}
use Rattle.hk_terms.specs.declared.flaws.Flaw.TheVariants as flaw

-- why a first line that is well written begins no specification
abbrev pub IsHeaderFault : List ℕ → List ParamText → BlockFault → Type 0
IsHeaderFault name params Syntax = ⊥
IsHeaderFault name params Name = BeginNameFault params
IsHeaderFault name params Limit = (BeginNameFault params → ⊥) × BeginLimitFault name params
IsHeaderFault name params Memory = Unit {0}

-- a property of a side was added that has this name and kind, and what was made of its initial value
pub record IsDeclared (before : Part) (side : Side) (name : List ℕ) (kind : Kind) (made : Option Prop) (after : Part) : Type 0 where
  pub free : IsTaken (part_names before) name → ⊥
  pub short : length name ≤ 32
  pub few : length (side_of before side) < 32
  pub value : Prop
  pub value_is : made ≡ Some value
  pub after_is : after ≡ with_property before side (record { name = name; kind = kind; init = value })

-- why a property that is well written is not added
abbrev pub IsPropertyFault : Part → Side → List ℕ → Option Prop → BlockFault → Type 0
IsPropertyFault before side name made Syntax = ⊥
IsPropertyFault before side name made Name = IsTaken (part_names before) name
IsPropertyFault before side name made Limit = (IsTaken (part_names before) name → ⊥) × ((32 < length name) ⊎ ((32 ≤ length (side_of before side)) ⊎ (made ≡ None)))
IsPropertyFault before side name made Memory = Unit {0}

-- why the texts are no good test
abbrev pub IsTestFault : Names → List (List ℕ) → BlockFault → Type 0
IsTestFault names texts Syntax = (text : CondText) → IsCondText text → texts ≡ cond_texts text → ⊥
IsTestFault names texts Name = ReadsCond names texts (Err flaw.Name)
IsTestFault names texts Limit = ReadsCond names texts (Err flaw.Limit)
IsTestFault names texts Memory = Unit {0}
