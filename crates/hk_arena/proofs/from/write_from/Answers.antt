use Rattle.std.proofs.Common.{◌≡◌, ◌<◌, All, ◌∙◌, ap, arith}
use Rattle.std.proofs.lemmas.Result.{on_ok_weaker}
use Rattle.hk_arena.proofs.FromRows.{rows_are}
use Rattle.hk_arena.specs.Changes.{with_row, with_from}
use Rattle.hk_arena.specs.Cells.{rows_in_set, table_of}
use Rattle.hk_arena.proofs.from.write_from.Goals as goal

pub returns-clause-ok : goal.returns-clause-ok
returns-clause-ok g c =
    let rows = c.args.old.now in
    let few : All (λ from. from < 256) rows = λ k d below. omega (arith, c.requires.within k d below, c.know.ensures.width) in
    let are : rows_in_set c.row_set.result ≡ rows = rows_are c.row_set.result rows c.requires.ascending few c.row_set.ensures in
    on_ok_weaker c.write_from_set.result (λ written. written ∙ ap (λ froms. with_row c.args.row (with_from froms) (table_of c.args.layout.now c.args.store.now.content)) are) c.write_from_set.ensures.ok
