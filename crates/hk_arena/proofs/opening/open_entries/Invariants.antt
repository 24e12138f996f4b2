use Rattle.std.proofs.Common.{◌≡◌}
use Rattle.hk_arena.proofs.OpeningSteps.{filled}
use Rattle.hk_arena.specs.Changes.{with_row}
use Rattle.hk_arena.proofs.opening.open_entries.Given as goal

-- the entries up to here are Live ones that name row 0, and nothing else changed
abbrev pub invariant-loop-at : goal.invariant-loop-at
invariant-loop-at g l = record {
  table : l.diagram.table ≡ with_row l.fn.row (filled l.at) l.fn.diagram.table;
  others : l.diagram ≡ record l.fn.diagram { table = l.diagram.table };
}
