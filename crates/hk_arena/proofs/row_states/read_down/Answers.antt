use Rattle.std.proofs.Common.{◌+◌, sym, ◌∙◌, ap, subst, arith}
use Rattle.hk_kinds.specs.Shapes.{HasShape}
use Rattle.hk_arena.proofs.Framing.{there}
use Rattle.hk_arena.proofs.Properties.{state_fits}
use Rattle.hk_arena.proofs.RowWrites.{row_down, row_room}
use Rattle.hk_arena.specs.Forms.{nums_in, sets_in}
use Rattle.hk_arena.specs.inside.Writes.{state_spans}
use Rattle.hk_arena.proofs.row_states.read_down.Goals as goal

pub first_num-num-requires : goal.first_num-num-requires
first_num-num-requires c = (there c.args.layout.now c.args.store.now.content c.args.row c.requires.kept c.requires.row).place

pub first_bits-set-requires : goal.first_bits-set-requires
first_bits-set-requires c = (there c.args.layout.now c.args.store.now.content c.args.row c.requires.kept c.requires.row).place

pub read_state-requires-clause-room : goal.read_state-requires-clause-room
read_state-requires-clause-room c =
    let form = c.args.layout.now in
    let content = c.args.store.now.content in
    let nums = ap nums_in c.down.ensures in
    let sets = ap sets_in c.down.ensures in
    row_room form content c.args.row.layer c.args.row.at (state_spans c.first_num-num.result (nums_in c.down.result.now) (c.first_bits-set.result + 2) (sets_in c.down.result.now)) c.know.ensures c.requires.kept
    (there form content c.args.row c.requires.kept c.requires.row).place (omega (arith, c.first_num-num.ensures.place)) (omega (arith, c.first_bits-set.ensures.place))

pub returns-clause-state : goal.returns-clause-state
returns-clause-state c =
    rw (c.down.ensures, c.first_num-num.ensures.place, c.first_bits-set.ensures.place) at c.read_state.ensures
    ∙ sym (row_down c.args.layout.now c.args.store.now.content c.args.row c.requires.kept c.requires.row)

pub returns-clause-shape : goal.returns-clause-shape
returns-clause-shape c =
    let content = c.args.store.now.content in
    subst (HasShape c.args.layout.now.shape.down) (sym (rw c.down.ensures at c.read_state.ensures))
    (state_fits c.args.layout.now.shape.down c.first_num-num.result (c.first_bits-set.result + 2) content.nums content.bits c.requires.kept.limits c.requires.kept.sets)
