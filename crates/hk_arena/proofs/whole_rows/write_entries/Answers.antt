use Rattle.std.proofs.Common.{◌≡◌, ◌+◌, length, subst, arith}
use Rattle.hk_arena.proofs.Framing.{there}
use Rattle.hk_arena.proofs.Places.{words_within}
use Rattle.hk_arena.proofs.RowWrites.{entries_inside, entries_spans, entries_written, row_becomes, row_written}
use Rattle.hk_arena.proofs.WholeRows.{HoldEntries, HoldEntries-more, entries_held, entries_more}
use Rattle.hk_arena.specs.inside.Writes.{with_entries, IsWritten}
use Rattle.hk_arena.specs.Forms.{words_at}
use Rattle.hk_arena.proofs.whole_rows.write_entries.Goals as goal

pub first_word-first-requires : goal.first_word-first-requires
first_word-first-requires g c = (there c.args.layout.now c.args.store.now.content c.args.row c.requires.kept c.requires.row).place

pub write_word-requires : goal.write_word-requires
write_word-requires g c =
    let form = c.args.layout.now in
    let within = words_within form c.args.row.layer c.args.row.at (there form c.args.store.now.content c.args.row c.requires.kept c.requires.row).place in
    omega (arith, c.requires.kept.words, c.requires.entries, c.first_word-first.ensures.place, c.loop-at.invariant.written.touched.words.long, c.loop-at-test.true)

pub returns-in_err-write_word-clause-written : goal.returns-in_err-write_word-clause-written
returns-in_err-write_word-clause-written g c =
    let form = c.args.layout.now in
    let row = c.args.row in
    let most = length c.args.entries.now in
    row_written form row (entries_spans form row.layer row.at) most c.args.store.now c.write_word.new.store c.requires.kept c.requires.row (entries_inside form row.layer row.at)
    (entries_more form row.layer row.at c.loop-at.at c.loop-at.at most c.args.store.now c.loop-at.store c.write_word.new.store (omega (arith, c.requires.entries, c.loop-at-test.true)) (omega (arith, c.loop-at-test.true)) c.loop-at.invariant.written (rw c.first_word-first.ensures.place at c.write_word.ensures.written))

pub returns-in_err-write_word-clause-ticks : goal.returns-in_err-write_word-clause-ticks
returns-in_err-write_word-clause-ticks g c = omega (arith, c.loop-at.invariant.ticks, c.write_word.ensures.ticks, c.loop-at-test.true)

pub loop-at-preserved : goal.loop-at-preserved
loop-at-preserved g c =
    let form = c.args.layout.now in
    let row = c.args.row in
    let l = c.loop-at in
    let place = words_at form row.layer row.at in
    let new = c.write_word.new.store in
    let written = rw c.first_word-first.ensures.place at c.write_word.ensures.written in record {
      held = HoldEntries-more (place + 1) l.at c.word_of.result c.args.entries.now l.store.content.words new.content.words written.touched.words (rw c.first_word-first.ensures.place at c.in_ok-write_word.ensures.ok) c.word_of.ensures l.invariant.held;
      written = entries_more form row.layer row.at l.at l.at (l.at + 1) c.args.store.now l.store new (omega (arith, c.requires.entries, c.loop-at-test.true)) (omega arith) l.invariant.written written;
      ticks = omega (arith, l.invariant.ticks, c.write_word.ensures.ticks);
    }

pub returns-clause-ok : goal.returns-clause-ok
returns-clause-ok g c =
    let form = c.args.layout.now in
    let row = c.args.row in
    let entries = c.args.entries.now in
    let spans = entries_spans form row.layer row.at in
    let l = c.loop-at in
    let old = c.args.store.now in
    let new = l.store in
    let inside = entries_inside form row.layer row.at in
    let kept = (row_written form row spans l.at old new c.requires.kept c.requires.row inside l.invariant.written).kept in
    let place = (there form old.content row c.requires.kept c.requires.row).place in
    let all : l.at ≡ length entries = omega (arith, l.auto.at-end, c.loop-at-test.false) in
    let held = subst (λ count. HoldEntries (words_at form row.layer row.at + 1) entries count new.content.words) all l.invariant.held in
    row_becomes form row spans (with_entries entries) old.content new.content c.requires.kept c.requires.row inside l.invariant.written.touched
    (entries_written form row.layer row.at old.content new.content entries l.invariant.written.touched (entries_held form new.content row.layer row.at entries kept place c.requires.entries held))

pub returns-clause-written : goal.returns-clause-written
returns-clause-written g c =
    let form = c.args.layout.now in
    let row = c.args.row in
    let l = c.loop-at in
    let all : l.at ≡ length c.args.entries.now = omega (arith, l.auto.at-end, c.loop-at-test.false) in
    row_written form row (entries_spans form row.layer row.at) (length c.args.entries.now) c.args.store.now l.store c.requires.kept c.requires.row (entries_inside form row.layer row.at)
    (subst (λ n. IsWritten (entries_spans form row.layer row.at) n c.args.store.now l.store) all l.invariant.written)

pub returns-clause-ticks : goal.returns-clause-ticks
returns-clause-ticks g c = omega (arith, c.loop-at.invariant.ticks, c.loop-at.auto.at-end)
