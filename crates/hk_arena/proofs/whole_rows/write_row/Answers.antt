use Rattle.std.proofs.Common.{◌+◌, ◌*◌, List, length, arith}
use Rattle.hk_table.specs.Tables.{PlainRow}
use Rattle.hk_trail.specs.Levels.{Levels}
use Rattle.hk_arena.proofs.Properties.{length-shape}
use Rattle.hk_arena.proofs.WholeRows.{IsRow-written, IsRowWritten-then, IsRowWritten-within, all_written, four_parts, three_parts}
use Rattle.hk_arena.specs.Cells.{rows_in_set, table_of}
use Rattle.hk_arena.proofs.whole_rows.write_row.Goals as goal

pub returns-in_err-write_down-clause-written : goal.returns-in_err-write_down-clause-written
returns-in_err-write_down-clause-written g c =
    let form = c.args.layout.now in
    let row = c.args.row in
    let downs = 2 * length c.args.down.now in
    let ups = 1 + 2 * length form.shape.up in
    let count = length c.args.entries.now in
    let most = 3 + 2 * length form.shape.down + 2 * length form.shape.up + count in
    let long = length-shape c.requires.down in
    IsRowWritten-within form row downs most c.args.store.now c.write_down.new.store (omega arith) c.write_down.ensures.written

pub returns-in_err-write_down-clause-ticks : goal.returns-in_err-write_down-clause-ticks
returns-in_err-write_down-clause-ticks g c =
    let long = length-shape c.requires.down in
    omega (arith, c.write_down.ensures.ticks)

pub write_any_up-requires-clause-row : goal.write_any_up-requires-clause-row
write_any_up-requires-clause-row g c =
    let form = c.args.layout.now in
    let row = c.args.row in
    IsRow-written form row (2 * length c.args.down.now) c.args.store.now c.write_down.new.store c.requires.row c.write_down.ensures.written

pub returns-in_err-write_any_up-clause-written : goal.returns-in_err-write_any_up-clause-written
returns-in_err-write_any_up-clause-written g c =
    let form = c.args.layout.now in
    let row = c.args.row in
    let downs = 2 * length c.args.down.now in
    let ups = 1 + 2 * length form.shape.up in
    let count = length c.args.entries.now in
    let most = 3 + 2 * length form.shape.down + 2 * length form.shape.up + count in
    let long = length-shape c.requires.down in
    IsRowWritten-then form row downs ups most c.args.store.now c.write_down.new.store c.write_any_up.new.store (omega arith) c.write_down.ensures.written c.write_any_up.ensures.written

pub returns-in_err-write_any_up-clause-ticks : goal.returns-in_err-write_any_up-clause-ticks
returns-in_err-write_any_up-clause-ticks g c =
    let long = length-shape c.requires.down in
    omega (arith, c.write_down.ensures.ticks, c.write_any_up.ensures.ticks)

pub write_from_set-requires-clause-row : goal.write_from_set-requires-clause-row
write_from_set-requires-clause-row g c =
    let form = c.args.layout.now in
    let row = c.args.row in
    IsRow-written form row (1 + 2 * length form.shape.up) c.write_down.new.store c.write_any_up.new.store (IsRow-written form row (2 * length c.args.down.now) c.args.store.now c.write_down.new.store c.requires.row c.write_down.ensures.written) c.write_any_up.ensures.written

pub returns-in_err-write_from_set-clause-written : goal.returns-in_err-write_from_set-clause-written
returns-in_err-write_from_set-clause-written g c =
    let form = c.args.layout.now in
    let row = c.args.row in
    let downs = 2 * length c.args.down.now in
    let ups = 1 + 2 * length form.shape.up in
    let count = length c.args.entries.now in
    let most = 3 + 2 * length form.shape.down + 2 * length form.shape.up + count in
    let long = length-shape c.requires.down in
    three_parts form row downs ups 2 most c.args.store.now c.write_down.new.store c.write_any_up.new.store c.write_from_set.new.store (omega arith) c.write_down.ensures.written c.write_any_up.ensures.written c.write_from_set.ensures.written

pub returns-in_err-write_from_set-clause-ticks : goal.returns-in_err-write_from_set-clause-ticks
returns-in_err-write_from_set-clause-ticks g c =
    let long = length-shape c.requires.down in
    omega (arith, c.write_down.ensures.ticks, c.write_any_up.ensures.ticks, c.write_from_set.ensures.ticks)

pub write_entries-requires-clause-row : goal.write_entries-requires-clause-row
write_entries-requires-clause-row g c =
    let form = c.args.layout.now in
    let row = c.args.row in
    IsRow-written form row 2 c.write_any_up.new.store c.write_from_set.new.store (IsRow-written form row (1 + 2 * length form.shape.up) c.write_down.new.store c.write_any_up.new.store (IsRow-written form row (2 * length c.args.down.now) c.args.store.now c.write_down.new.store c.requires.row c.write_down.ensures.written) c.write_any_up.ensures.written) c.write_from_set.ensures.written

pub returns-in_err-write_entries-clause-written : goal.returns-in_err-write_entries-clause-written
returns-in_err-write_entries-clause-written g c =
    let form = c.args.layout.now in
    let row = c.args.row in
    let downs = 2 * length c.args.down.now in
    let ups = 1 + 2 * length form.shape.up in
    let count = length c.args.entries.now in
    let most = 3 + 2 * length form.shape.down + 2 * length form.shape.up + count in
    let long = length-shape c.requires.down in
    four_parts form row downs ups 2 count most c.args.store.now c.write_down.new.store c.write_any_up.new.store c.write_from_set.new.store c.write_entries.new.store (omega arith) c.write_down.ensures.written c.write_any_up.ensures.written c.write_from_set.ensures.written c.write_entries.ensures.written

pub returns-in_err-write_entries-clause-ticks : goal.returns-in_err-write_entries-clause-ticks
returns-in_err-write_entries-clause-ticks g c =
    let long = length-shape c.requires.down in
    omega (arith, c.write_down.ensures.ticks, c.write_any_up.ensures.ticks, c.write_from_set.ensures.ticks, c.write_entries.ensures.ticks)

pub returns-clause-ok : goal.returns-clause-ok
returns-clause-ok g c =
    let table : Levels → List (List PlainRow) = λ levels. table_of c.args.layout.now levels.content in
    all_written c.args.row c.args.down.now c.args.up (rows_in_set c.args.from.now) c.args.entries.now (table c.args.store.now) (table c.write_down.new.store) (table c.write_any_up.new.store) (table c.write_from_set.new.store) (table c.write_entries.new.store)
    c.in_ok-write_down.ensures.ok c.in_ok-write_any_up.ensures.ok c.in_ok-write_from_set.ensures.ok c.in_ok-write_entries.ensures.ok

pub returns-clause-written : goal.returns-clause-written
returns-clause-written g c =
    let form = c.args.layout.now in
    let row = c.args.row in
    let downs = 2 * length c.args.down.now in
    let ups = 1 + 2 * length form.shape.up in
    let count = length c.args.entries.now in
    let most = 3 + 2 * length form.shape.down + 2 * length form.shape.up + count in
    let long = length-shape c.requires.down in
    four_parts form row downs ups 2 count most c.args.store.now c.write_down.new.store c.write_any_up.new.store c.write_from_set.new.store c.write_entries.new.store (omega arith) c.write_down.ensures.written c.write_any_up.ensures.written c.write_from_set.ensures.written c.write_entries.ensures.written

pub returns-clause-ticks : goal.returns-clause-ticks
returns-clause-ticks g c =
    let long = length-shape c.requires.down in
    omega (arith, c.write_down.ensures.ticks, c.write_any_up.ensures.ticks, c.write_from_set.ensures.ticks, c.write_entries.ensures.ticks)
