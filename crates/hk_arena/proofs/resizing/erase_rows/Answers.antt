use Rattle.std.proofs.Common.{◌+◌, ◌*◌, length, arith}
use Rattle.hk_arena.proofs.Fitting.{few_rows}
use Rattle.hk_arena.proofs.RowErasing.{AreEmptyUpTo-more, cells_more, cells_within, rows_written}
use Rattle.hk_arena.specs.Diagrams.{IsRow, values_of}
use Rattle.hk_arena.specs.Cells.{table_of}
use Rattle.hk_arena.proofs.resizing.erase_rows.Goals as goal

pub returns-in_err-erase_entries-clause-written : goal.returns-in_err-erase_entries-clause-written
returns-in_err-erase_entries-clause-written g c =
    let form = c.args.layout.now in
    let l = c.loop-at in
    let size = length (values_of form.shape c.args.layer) in
    let few = few_rows form c.args.store.now.content c.args.layer c.requires.kept in
    let within = cells_within l.at form.width size (omega (arith, c.read_rows-at-end.ensures, c.loop-at-test.true)) in
    let is : IsRow (table_of form l.store.content) (record { layer = c.args.layer; at = l.at }) = omega (arith, c.read_rows-at-end.ensures, c.loop-at-test.true, l.invariant.written.changed.count) in
    rows_written form c.args.layer c.args.rows l.at (l.at * size) size (form.width * size) c.args.store.now l.store c.erase_entries.new.store l.invariant.above within is l.invariant.written c.erase_entries.ensures.written

pub returns-in_err-erase_entries-clause-ticks : goal.returns-in_err-erase_entries-clause-ticks
returns-in_err-erase_entries-clause-ticks g c =
    let form = c.args.layout.now in
    let size = length (values_of form.shape c.args.layer) in
    let few = few_rows form c.args.store.now.content c.args.layer c.requires.kept in
    let within = cells_within c.loop-at.at form.width size (omega (arith, c.read_rows-at-end.ensures, c.loop-at-test.true)) in
    omega (arith, c.loop-at.invariant.ticks, c.erase_entries.ensures.ticks)

pub loop-at-preserved : goal.loop-at-preserved
loop-at-preserved g c =
    let form = c.args.layout.now in
    let l = c.loop-at in
    let layer = c.args.layer in
    let size = length (values_of form.shape layer) in
    let old = table_of form l.store.content in
    let new = c.erase_entries.new.store in
    let few = few_rows form c.args.store.now.content layer c.requires.kept in
    let more = cells_more l.at size in
    let is : IsRow old (record { layer = layer; at = l.at }) = omega (arith, c.read_rows-at-end.ensures, c.loop-at-test.true, l.invariant.written.changed.count) in record {
      empty = AreEmptyUpTo-more form.shape layer c.args.rows l.at old (table_of form new.content) is c.erase_entries.ensures.written.changed c.in_ok-erase_entries.ensures.empty l.invariant.empty;
      written = rows_written form layer c.args.rows l.at (l.at * size) size ((l.at + 1) * size) c.args.store.now l.store new l.invariant.above more is l.invariant.written c.erase_entries.ensures.written;
      ticks = omega (arith, l.invariant.ticks, c.erase_entries.ensures.ticks);
      above = omega (arith, l.invariant.above);
      few = omega (arith, c.read_rows-at-end.ensures, c.loop-at-test.true);
    }
