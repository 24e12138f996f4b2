use Rattle.std.proofs.Common.{◌≡◌, take}
use Rattle.hk_arena.specs.Diagrams.{row_in}
use Rattle.hk_prop.proofs.telling.entries_of.Given as goal

-- the entries before this one
abbrev pub invariant-entries : goal.invariant-entries
invariant-entries l = l.entries ≡ take l.at (row_in l.diagram.table l.row).entries
