use Rattle.std.proofs.Common.{◌≡◌, replicate}
use Rattle.hk_table.specs.declared.entries.Entry.TheVariants.{Live}
use Rattle.hk_table.proofs.opening.live_entries.Given as goal

-- as many entries as turns were made
abbrev pub invariant-loop-made : goal.invariant-loop-made
invariant-loop-made l = l.entries ≡ replicate l._made (Live 0)
