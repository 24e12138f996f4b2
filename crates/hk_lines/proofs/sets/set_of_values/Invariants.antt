use Rattle.std.proofs.Common.{take}
use Rattle.hk_lines.specs.Plain.{values_of}
use Rattle.hk_lines.specs.ValueSets.{IsSetOf}
use Rattle.hk_lines.proofs.sets.set_of_values.Given as goal

-- the set so far is that of the values so far
abbrev pub invariant-loop-values : goal.invariant-loop-values
invariant-loop-values l = IsSetOf (values_of (take l.values-index l.set)) l.domain
