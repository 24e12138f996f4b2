use Rattle.std.proofs.Common.{◌+◌, ◌++◌, [], drop, sym, ◌∙◌, ap, None, arith, append-nil}
use Rattle.std.proofs.lemmas.List.{drop_all}
use Rattle.hk_table.specs.Tables.{flat_entries}
use Rattle.hk_arena.proofs.EntryReads.{row_moved}
use Rattle.hk_arena.specs.Diagrams.{rows_of}
use Rattle.hk_arena.specs.Cells.{table_of}
use Rattle.hk_arena.proofs.reading.read_entries.Goals as goal

pub loop-at-preserved : goal.loop-at-preserved
loop-at-preserved c =
    let rows = rows_of (table_of c.args.layout.now c.args.store.now.content) c.args.layer in
    let at = c.loop-at.at in
    c.loop-at.invariant
    ∙ row_moved c.loop-at.to.items rows at (record { down = []; up = None; from = []; entries = [] }) (omega (arith, c.read_rows-at-end.ensures))
    ∙ ap (λ items. items ++ flat_entries (drop (at + 1) rows)) (sym c.in_ok-push_entries.ensures)

pub returns : goal.returns
returns c =
    let rows = rows_of (table_of c.args.layout.now c.args.store.now.content) c.args.layer in
    let none = drop_all c.loop-at.at rows (omega (arith, c.read_rows-at-end.ensures)) in
    sym (c.loop-at.invariant ∙ ap (λ left. c.loop-at.to.items ++ flat_entries left) none ∙ append-nil c.loop-at.to.items)
