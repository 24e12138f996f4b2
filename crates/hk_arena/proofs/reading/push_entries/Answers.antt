use Rattle.std.proofs.Common.{◌≡◌, ◌+◌, ◌<◌, ◌++◌, length, drop, get_or, sym, ◌∙◌, ap, arith, append-nil}
use Rattle.std.proofs.lemmas.List.{drop_all}
use Rattle.hk_table.specs.declared.entries.Entry.TheVariants.{Gone}
use Rattle.hk_arena.proofs.Framing.{there}
use Rattle.hk_arena.proofs.EntryReads.{entry_read, moved, word_read}
use Rattle.hk_arena.proofs.SupportSteps.{row_long}
use Rattle.hk_arena.specs.Diagrams.{row_in, values_of}
use Rattle.hk_arena.specs.Cells.{entry_of, table_of}
use Rattle.hk_arena.specs.Forms.{words_at}
use Rattle.hk_arena.proofs.reading.push_entries.Goals as goal

pub first_word-first-requires : goal.first_word-first-requires
first_word-first-requires c = (there c.args.layout.now c.args.store.now.content c.args.row c.requires.kept c.requires.row).place

pub value_count-at-end-requires : goal.value_count-at-end-requires
value_count-at-end-requires c = (there c.args.layout.now c.args.store.now.content c.args.row c.requires.kept c.requires.row).place.layer_within

pub word_id-requires : goal.word_id-requires
word_id-requires c =
    let within = word_read c.args.layout.now c.args.store.now.content c.args.row c.loop-at.at c.requires.kept c.requires.row (omega (arith, c.value_count-at-end.ensures)) in
    omega (arith, c.first_word-first.ensures.place)

pub get_word-requires : goal.get_word-requires
get_word-requires c =
    let within = word_read c.args.layout.now c.args.store.now.content c.args.row c.loop-at.at c.requires.kept c.requires.row (omega (arith, c.value_count-at-end.ensures)) in
    omega (arith, c.first_word-first.ensures.place, c.word_id.ensures)

pub loop-at-preserved : goal.loop-at-preserved
loop-at-preserved c =
    let form = c.args.layout.now in
    let content = c.args.store.now.content in
    let row = c.args.row in
    let at = c.loop-at.at in
    let entries = (row_in (table_of form content) row).entries in
    let within : at < length (values_of form.shape row.layer) = omega (arith, c.value_count-at-end.ensures) in
    let long = row_long form content row c.requires.kept c.requires.row in
    let place : c.word_id.result ≡ words_at form row.layer row.at + 1 + at = omega (arith, c.word_id.ensures, c.first_word-first.ensures.place) in
    let read : c.entry_of.result ≡ get_or entries at Gone =
    c.entry_of.ensures ∙ ap entry_of (c.get_word.ensures 0 ∙ ap (λ k. get_or content.words k 0) place) ∙ entry_read form content row at c.requires.kept c.requires.row within in
    c.loop-at.invariant
    ∙ moved c.loop-at.to.items entries at Gone c.entry_of.result (omega arith) read
    ∙ ap (λ items. items ++ drop (at + 1) entries) (sym c.in_ok-push.ensures.items)

pub returns : goal.returns
returns c =
    let form = c.args.layout.now in
    let content = c.args.store.now.content in
    let entries = (row_in (table_of form content) c.args.row).entries in
    let none = drop_all c.loop-at.at entries (omega (arith, row_long form content c.args.row c.requires.kept c.requires.row, c.value_count-at-end.ensures)) in
    sym (c.loop-at.invariant ∙ ap (λ left. c.loop-at.to.items ++ left) none ∙ append-nil c.loop-at.to.items)
