use Rattle.std.proofs.Common.{◌≡◌, take}
use Rattle.hk_table.proofs.copies.copied_rows.Given as goal

-- the rows up to here are copied
abbrev pub invariant-loop-row : goal.invariant-loop-row
invariant-loop-row l = l.copies ≡ take l.row-index l.rows
