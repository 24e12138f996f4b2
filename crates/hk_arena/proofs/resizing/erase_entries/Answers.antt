use Rattle.std.proofs.Common.{◌≡◌, ◌+◌, ◌<◌, [], length, subst, sym, arith}
use Rattle.hk_arena.proofs.Framing.{there}
use Rattle.hk_arena.proofs.Places.{words_within}
use Rattle.hk_arena.proofs.RowChanges.{IsRow-with_row}
use Rattle.hk_arena.proofs.RowErasing.{row_empty}
use Rattle.hk_arena.proofs.RowWrites.{entries_inside, entries_spans, row_written}
use Rattle.hk_arena.proofs.WholeRows.{HoldEntries, HoldEntries-more, entries_more}
use Rattle.hk_arena.specs.Diagrams.{IsRow, values_of}
use Rattle.hk_arena.specs.Cells.{table_of}
use Rattle.hk_arena.specs.Forms.{words_at}
use Rattle.hk_arena.specs.inside.Writes.{IsWritten}
use Rattle.hk_arena.proofs.resizing.erase_entries.Goals as goal

pub first_word-first-requires : goal.first_word-first-requires
first_word-first-requires g c = (there c.args.layout.now c.args.store.now.content c.args.row c.requires.kept c.requires.row).place

pub value_count-at-end-requires : goal.value_count-at-end-requires
value_count-at-end-requires g c = (there c.args.layout.now c.args.store.now.content c.args.row c.requires.kept c.requires.row).place.layer_within

pub write_word-requires : goal.write_word-requires
write_word-requires g c =
    let form = c.args.layout.now in
    let within = words_within form c.args.row.layer c.args.row.at (there form c.args.store.now.content c.args.row c.requires.kept c.requires.row).place in
    omega (arith, c.requires.kept.words, c.value_count-at-end.ensures, c.first_word-first.ensures.place, c.loop-at.invariant.written.touched.words.long, c.loop-at-test.true)

pub returns-in_err-write_word-clause-written : goal.returns-in_err-write_word-clause-written
returns-in_err-write_word-clause-written g c =
    let form = c.args.layout.now in
    let row = c.args.row in
    let most = length (values_of form.shape row.layer) in
    let below : c.loop-at.at < most = omega (arith, c.value_count-at-end.ensures, c.loop-at-test.true) in
    row_written form row (entries_spans form row.layer row.at) most c.args.store.now c.write_word.new.store c.requires.kept c.requires.row (entries_inside form row.layer row.at)
    (entries_more form row.layer row.at c.loop-at.at c.loop-at.at most c.args.store.now c.loop-at.store c.write_word.new.store below (omega arith) c.loop-at.invariant.written (rw c.first_word-first.ensures.place at c.write_word.ensures.written))

pub returns-in_err-write_word-clause-ticks : goal.returns-in_err-write_word-clause-ticks
returns-in_err-write_word-clause-ticks g c = omega (arith, c.loop-at.invariant.ticks, c.write_word.ensures.ticks, c.value_count-at-end.ensures, c.loop-at-test.true)

pub loop-at-preserved : goal.loop-at-preserved
loop-at-preserved g c =
    let form = c.args.layout.now in
    let row = c.args.row in
    let l = c.loop-at in
    let place = words_at form row.layer row.at in
    let new = c.write_word.new.store in
    let written = rw c.first_word-first.ensures.place at c.write_word.ensures.written in record {
      held = HoldEntries-more (place + 1) l.at c.word_of.result [] l.store.content.words new.content.words written.touched.words (rw c.first_word-first.ensures.place at c.in_ok-write_word.ensures.ok) c.word_of.ensures l.invariant.held;
      written = entries_more form row.layer row.at l.at l.at (l.at + 1) c.args.store.now l.store new (omega (arith, c.value_count-at-end.ensures, c.loop-at-test.true)) (omega arith) l.invariant.written written;
      ticks = omega (arith, l.invariant.ticks, c.write_word.ensures.ticks);
    }

pub returns-clause-written : goal.returns-clause-written
returns-clause-written g c =
    let form = c.args.layout.now in
    let row = c.args.row in
    let l = c.loop-at in
    let all : l.at ≡ length (values_of form.shape row.layer) = omega (arith, l.auto.at-end, c.value_count-at-end.ensures, c.loop-at-test.false) in
    row_written form row (entries_spans form row.layer row.at) (length (values_of form.shape row.layer)) c.args.store.now l.store c.requires.kept c.requires.row (entries_inside form row.layer row.at)
    (subst (λ n. IsWritten (entries_spans form row.layer row.at) n c.args.store.now l.store) all l.invariant.written)

pub returns-clause-empty : goal.returns-clause-empty
returns-clause-empty g c =
    let form = c.args.layout.now in
    let row = c.args.row in
    let l = c.loop-at in
    let old = table_of form c.args.store.now.content in
    let new = l.store.content in
    let all : l.at ≡ length (values_of form.shape row.layer) = omega (arith, l.auto.at-end, c.value_count-at-end.ensures, c.loop-at-test.false) in
    let written = row_written form row (entries_spans form row.layer row.at) l.at c.args.store.now l.store c.requires.kept c.requires.row (entries_inside form row.layer row.at) l.invariant.written in
    let is = subst (λ table. IsRow table row) (sym written.changed.table) (IsRow-with_row row old (λ _. written.changed.now) c.requires.row) in
    row_empty form new row written.kept is (subst (λ count. HoldEntries (words_at form row.layer row.at + 1) [] count new.words) all l.invariant.held)
