use Rattle.std.proofs.Common.{◌+◌, ◌*◌, length, ap, arith}
use Rattle.std.proofs.lemmas.Result.{on_ok_weaker}
use Rattle.hk_arena.proofs.Framing.{there}
use Rattle.hk_arena.proofs.RowWrites.{down_inside, down_spans, down_written, row_becomes, row_room, row_written}
use Rattle.hk_arena.specs.Changes.{with_down}
use Rattle.hk_arena.specs.Forms.{nums_in, sets_in}
use Rattle.hk_arena.specs.inside.Writes.{state_spans}
use Rattle.hk_arena.proofs.row_states.write_down.Goals as goal

pub first_num-num-requires : goal.first_num-num-requires
first_num-num-requires g c = (there c.args.layout.now c.args.store.now.content c.args.row c.requires.kept c.requires.row).place

pub first_bits-set-requires : goal.first_bits-set-requires
first_bits-set-requires g c = (there c.args.layout.now c.args.store.now.content c.args.row c.requires.kept c.requires.row).place

pub write_state-requires-clause-room : goal.write_state-requires-clause-room
write_state-requires-clause-room g c =
    let form = c.args.layout.now in
    let content = c.args.store.now.content in
    let nums = ap nums_in c.down.ensures in
    let sets = ap sets_in c.down.ensures in
    row_room form content c.args.row.layer c.args.row.at (state_spans c.first_num-num.result (nums_in c.down.result.now) (c.first_bits-set.result + 2) (sets_in c.down.result.now)) c.know.ensures c.requires.kept
    (there form content c.args.row c.requires.kept c.requires.row).place (omega (arith, c.first_num-num.ensures.place)) (omega (arith, c.first_bits-set.ensures.place))

pub returns-clause-ok : goal.returns-clause-ok
returns-clause-ok g c =
    let form = c.args.layout.now in
    let row = c.args.row in
    let old = c.args.store.now.content in
    let new = c.write_state.new.store.content in
    let written = rw (c.down.ensures, c.first_num-num.ensures.place, c.first_bits-set.ensures.place) at c.write_state.ensures.written in
    let ok = rw (c.down.ensures, c.first_num-num.ensures.place, c.first_bits-set.ensures.place) at c.write_state.ensures.ok in
    on_ok_weaker c.write_state.result (λ held. row_becomes form row (down_spans form row.layer row.at) (with_down c.args.value.now) old new c.requires.kept c.requires.row (down_inside form row.layer row.at) written.touched
    (down_written form row.layer row.at old new c.args.value.now written.touched held)) ok

pub returns-clause-written : goal.returns-clause-written
returns-clause-written g c =
    let form = c.args.layout.now in
    let row = c.args.row in
    row_written form row (down_spans form row.layer row.at) (2 * length c.args.value.now) c.args.store.now c.write_state.new.store c.requires.kept c.requires.row (down_inside form row.layer row.at)
    (rw (c.down.ensures, c.first_num-num.ensures.place, c.first_bits-set.ensures.place) at c.write_state.ensures.written)
