use Rattle.std.proofs.Common.{◌≡◌, ◌+◌, ◌*◌, length, get_or, Some, ◌∙◌, ap, arith}
use Rattle.std.proofs.lemmas.Result.{on_ok_weaker}
use Rattle.hk_arena.proofs.Framing.{there}
use Rattle.hk_arena.proofs.Places.{words_within}
use Rattle.hk_arena.proofs.RowWrites.{row_becomes, row_room, row_written, up_both, up_inside, up_spans, up_word, up_written}
use Rattle.hk_arena.proofs.Writing.{HasRoom-touched}
use Rattle.hk_arena.specs.Changes.{with_up}
use Rattle.hk_arena.specs.Forms.{nums_in, sets_in, words_at}
use Rattle.hk_arena.specs.inside.Writes.{state_spans, word_spans}
use Rattle.hk_arena.proofs.row_states.write_up.Goals as goal

pub first_num-requires : goal.first_num-requires
first_num-requires g c = (there c.args.layout.now c.args.store.now.content c.args.row c.requires.kept c.requires.row).place

pub first_bits-requires : goal.first_bits-requires
first_bits-requires g c = (there c.args.layout.now c.args.store.now.content c.args.row c.requires.kept c.requires.row).place

pub first_word-requires : goal.first_word-requires
first_word-requires g c = (there c.args.layout.now c.args.store.now.content c.args.row c.requires.kept c.requires.row).place

pub write_word-requires : goal.write_word-requires
write_word-requires g c =
    let form = c.args.layout.now in
    let within = words_within form c.args.row.layer c.args.row.at (there form c.args.store.now.content c.args.row c.requires.kept c.requires.row).place in
    omega (arith, c.requires.kept.words, c.first_word.ensures.place)

pub returns-in_err-write_word-clause-written : goal.returns-in_err-write_word-clause-written
returns-in_err-write_word-clause-written g c =
    let form = c.args.layout.now in
    let row = c.args.row in
    let most = 1 + 2 * length c.args.value.now in
    row_written form row (up_spans form row.layer row.at) most c.args.store.now c.write_word.new.store c.requires.kept c.requires.row (up_inside form row.layer row.at)
    (up_word form row.layer row.at most c.args.store.now c.write_word.new.store (omega arith) (rw c.first_word.ensures.place at c.write_word.ensures.written))

pub write_state-requires-clause-room : goal.write_state-requires-clause-room
write_state-requires-clause-room g c =
    let form = c.args.layout.now in
    let content = c.args.store.now.content in
    let nums = ap nums_in c.up.ensures in
    let sets = ap sets_in c.up.ensures in
    let spans = state_spans (c.first_num.result + c.up_num.result) (nums_in c.up.result.now) (c.first_bits.result + c.up_set.result) (sets_in c.up.result.now) in
    HasRoom-touched spans (word_spans c.first_word.result) content c.write_word.new.store.content
    (row_room form content c.args.row.layer c.args.row.at spans c.know.ensures c.requires.kept (there form content c.args.row c.requires.kept c.requires.row).place
    (omega (arith, c.first_num.ensures.place, c.up_num.ensures)) (omega (arith, c.first_bits.ensures.place, c.up_set.ensures)))
    c.write_word.ensures.written.touched

pub returns-clause-ok : goal.returns-clause-ok
returns-clause-ok g c =
    let form = c.args.layout.now in
    let row = c.args.row in
    let old = c.args.store.now in
    let middle = c.write_word.new.store in
    let new = c.write_state.new.store in
    let wrote = rw (c.up.ensures, c.first_num.ensures.place, c.up_num.ensures, c.first_bits.ensures.place, c.up_set.ensures) at c.write_state.ensures.written in
    let ok = rw (c.up.ensures, c.first_num.ensures.place, c.up_num.ensures, c.first_bits.ensures.place, c.up_set.ensures) at c.write_state.ensures.ok in
    let written = up_both form row.layer row.at (2 * length c.args.value.now) old middle new (rw c.first_word.ensures.place at c.write_word.ensures.written) wrote in
    let first : get_or new.content.words (words_at form row.layer row.at) 0 ≡ 1 = wrote.touched.words.others (words_at form row.layer row.at) 0 (λ above under. omega arith) ∙ rw c.first_word.ensures.place at c.in_ok-write_word.ensures.ok in
    on_ok_weaker c.write_state.result (λ held. row_becomes form row (up_spans form row.layer row.at) (with_up (Some c.args.value.now)) old.content new.content c.requires.kept c.requires.row (up_inside form row.layer row.at) written.touched
    (up_written form row.layer row.at old.content new.content c.args.value.now written.touched first held)) ok

pub returns-clause-written : goal.returns-clause-written
returns-clause-written g c =
    let form = c.args.layout.now in
    let row = c.args.row in
    let old = c.args.store.now in
    let middle = c.write_word.new.store in
    let new = c.write_state.new.store in
    row_written form row (up_spans form row.layer row.at) (1 + 2 * length c.args.value.now) old new c.requires.kept c.requires.row (up_inside form row.layer row.at)
    (up_both form row.layer row.at (2 * length c.args.value.now) old middle new (rw c.first_word.ensures.place at c.write_word.ensures.written)
    (rw (c.up.ensures, c.first_num.ensures.place, c.up_num.ensures, c.first_bits.ensures.place, c.up_set.ensures) at c.write_state.ensures.written))
