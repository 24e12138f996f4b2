use Rattle.std.proofs.Common.{List, ℕ, ◌∙◌, ap}
use Rattle.hk_table.specs.Tables.{PlainRow}
use Rattle.hk_arena.proofs.WholeRows.{rows_of_set}
use Rattle.hk_arena.specs.Changes.{row_made, with_row}
use Rattle.hk_arena.specs.Diagrams.{DiagramLevels}
use Rattle.hk_arena.specs.Cells.{rows_in_set}
use Rattle.hk_arena.proofs.diagram.Diagram.set_row.Goals as goal

pub returns-clause-ok : goal.returns-clause-ok
returns-clause-ok g c =
    let made : List ℕ → List (List PlainRow) → List (List PlainRow) = λ from table. with_row c.args.row (λ any. row_made c.args.down.now c.args.up from c.args.entries.now) table in
    c.in_ok-write_row.ensures.ok ∙ ap (λ (v : DiagramLevels). made (rows_in_set c.args.from.now) v.table) c.self.view_is ∙ ap (λ from. made from c.args.self.now.table) (rows_of_set c.args.from.now)
