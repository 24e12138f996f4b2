use Rattle.std.proofs.Common.{◌<◌, length, refl, sym, ◌∙◌, arith}
use Rattle.hk_arena.specs.Diagrams.{values_of}
use Rattle.hk_sweep.specs.inside.Written.{made_row, rows_made}
use Rattle.hk_sweep.proofs.RowsMade.{all_written, length-rows_made, none_written, others_trans, made_of_part, row_written}
use Rattle.hk_sweep.proofs.writing.write_rows.Goals as goal

pub loop-at-init : goal.loop-at-init
loop-at-init g c =
    let count = length (values_of c.args.diagram.now.shape c.args.layer) in
    let halves = c.args.front.now.halves in
    let rows = rows_made count halves c.args.ups.now.ups c.args.entries.now in record {
      written = none_written c.args.layer rows c.args.diagram.now.table (c.requires.rows ∙ sym (length-rows_made count halves c.args.ups.now.ups c.args.entries.now c.requires.ups));
      others = refl;
    }

pub write_row-requires-clause-row : goal.write_row-requires-clause-row
write_row-requires-clause-row g c =
    let count = length (values_of c.args.diagram.now.shape c.args.layer) in
    let long = length-rows_made count c.args.front.now.halves c.args.ups.now.ups c.args.entries.now c.requires.ups in
    omega (arith, c.loop-at-test.true, c.rows-at-end.ensures, c.requires.rows, long, c.loop-at.invariant.written.long)

pub loop-at-preserved : goal.loop-at-preserved
loop-at-preserved g c =
    let count = length (values_of c.args.diagram.now.shape c.args.layer) in
    let halves = c.args.front.now.halves in
    let ups = c.args.ups.now.ups in
    let entries = c.args.entries.now in
    let l = c.loop-at in
    let new = c.write_row.new.diagram in
    let within : l.at < length halves = omega (arith, c.loop-at-test.true, c.rows-at-end.ensures, c.requires.rows) in
    let long = length-rows_made count halves ups entries c.requires.ups in
    let item = made_of_part count halves ups entries c.row_entries-row.result.now l.at c.values-count.result c.requires.ups within c.values-count.ensures c.row_entries-row.ensures in record {
      written = row_written c.args.layer (rows_made count halves ups entries) c.args.diagram.now.table l.at (made_row halves ups l.at c.row_entries-row.result.now) l.diagram.table new.table (omega (arith, within, long)) item l.invariant.written c.in_ok-write_row.ensures.ok;
      others = others_trans c.args.diagram.now l.diagram new l.invariant.others c.write_row.ensures.others;
    }

pub returns-clause-ok : goal.returns-clause-ok
returns-clause-ok g c =
    let count = length (values_of c.args.diagram.now.shape c.args.layer) in
    let halves = c.args.front.now.halves in
    let ups = c.args.ups.now.ups in
    let entries = c.args.entries.now in
    let long = length-rows_made count halves ups entries c.requires.ups in
    all_written c.args.layer (rows_made count halves ups entries) c.args.diagram.now.table c.loop-at.at c.loop-at.diagram.table
    (omega (arith, c.loop-at-test.false, c.rows-at-end.ensures, c.requires.rows, long)) c.loop-at.invariant.written
