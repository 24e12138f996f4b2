-- How far the reader of a specification is.
use Rattle.std.specs.Prelude.{◌≡◌, ◌⊎◌, ℕ, List}
use Rattle.hk_text.specs.declared.tokenizer.TextFault.{TextFault}
use Rattle.hk_text.specs.declared.tokenizer.TextFault.TheVariants as text
use Rattle.hk_parse.specs.declared.faults.BlockFault.{BlockFault}
use Rattle.hk_parse.specs.declared.faults.BlockFault.TheVariants.{Syntax, Name, Limit, Memory}
use Rattle.hk_parse.specs.declared.faults.SpecFault.{SpecFault}
use Rattle.hk_parse.specs.declared.faults.SpecFault.TheVariants as spec
use Rattle.hk_parse.specs.declared.reading.Reading.{Reading}
use Rattle.hk_parse.specs.declared.reading.Reading.TheVariants as reading
use Rattle.hk_parse.specs.SpecTexts.{Stage, Before, Within, Whole, IsBadAt}

-- what the reader holds, as a stage
abbrev pub stage_of : Reading → Stage
stage_of reading.Before = Before
stage_of (reading.Within part) = Within part
stage_of (reading.Whole spec) = Whole spec

-- why the reader stops at a line: the line is bad, or there is no memory
abbrev pub StopsAt : Stage → List ℕ → BlockFault → Type 0
StopsAt stage line fault = IsBadAt stage line fault ⊎ (fault ≡ Memory)

-- the fault of a line whose bytes have this fault
abbrev pub text_fault : TextFault → BlockFault
text_fault (text.NotAscii column) = Syntax
text_fault (text.BadByte column) = Syntax
text_fault text.Memory = Memory

-- the fault of a specification whose line of this number has this fault
abbrev pub fault_of : ℕ → BlockFault → SpecFault
fault_of number Syntax = spec.Syntax number
fault_of number Name = spec.Name number
fault_of number Limit = spec.Limit number
fault_of number Memory = spec.Memory
