use Rattle.std.proofs.Common.{None, arith}
use Rattle.std.proofs.lemmas.Result.{on_ok_weaker}
use Rattle.hk_arena.proofs.Framing.{there}
use Rattle.hk_arena.proofs.Places.{words_within}
use Rattle.hk_arena.proofs.RowWrites.{row_becomes, row_written, up_erased, up_inside, up_spans, up_word}
use Rattle.hk_arena.specs.Changes.{with_up}
use Rattle.hk_arena.proofs.row_states.erase_up.Goals as goal

pub first_word-requires : goal.first_word-requires
first_word-requires g c = (there c.args.layout.now c.args.store.now.content c.args.row c.requires.kept c.requires.row).place

pub write_word-requires : goal.write_word-requires
write_word-requires g c =
    let form = c.args.layout.now in
    let within = words_within form c.args.row.layer c.args.row.at (there form c.args.store.now.content c.args.row c.requires.kept c.requires.row).place in
    omega (arith, c.requires.kept.words, c.first_word.ensures.place)

pub returns-clause-ok : goal.returns-clause-ok
returns-clause-ok g c =
    let form = c.args.layout.now in
    let row = c.args.row in
    let old = c.args.store.now in
    let new = c.write_word.new.store in
    let written = up_word form row.layer row.at 1 old new (omega arith) (rw c.first_word.ensures.place at c.write_word.ensures.written) in
    on_ok_weaker c.write_word.result (λ first. row_becomes form row (up_spans form row.layer row.at) (with_up None) old.content new.content c.requires.kept c.requires.row (up_inside form row.layer row.at) written.touched
    (up_erased form row.layer row.at old.content new.content written.touched first)) (rw c.first_word.ensures.place at c.write_word.ensures.ok)

pub returns-clause-written : goal.returns-clause-written
returns-clause-written g c =
    let form = c.args.layout.now in
    let row = c.args.row in
    row_written form row (up_spans form row.layer row.at) 1 c.args.store.now c.write_word.new.store c.requires.kept c.requires.row (up_inside form row.layer row.at)
    (up_word form row.layer row.at 1 c.args.store.now c.write_word.new.store (omega arith) (rw c.first_word.ensures.place at c.write_word.ensures.written))
