use Rattle.std.proofs.Common.{◌≡◌, map, take}
use Rattle.hk_lines.specs.Plain.{rows_of}
use Rattle.hk_draft.specs.Declares.{made_row}
use Rattle.hk_draft.proofs.counting.made_rows.Given as goal

-- the rows so far are made
abbrev pub invariant-loop-row : goal.invariant-loop-row
invariant-loop-row l = l.made ≡ map made_row (rows_of (take l.row-index l.rows))
