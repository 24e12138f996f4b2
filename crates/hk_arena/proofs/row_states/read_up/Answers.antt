use Rattle.std.proofs.Common.{◌≡◌, ◌+◌, get_or, Some, refl, sym, ◌∙◌, ap, subst, arith}
use Rattle.std.proofs.lemmas.Bool.{ne_eqb}
use Rattle.hk_kinds.specs.Shapes.{HasShape}
use Rattle.hk_arena.proofs.Framing.{there}
use Rattle.hk_arena.proofs.Places.{words_within}
use Rattle.hk_arena.proofs.Properties.{state_fits}
use Rattle.hk_arena.proofs.RowWrites.{row_room, row_up}
use Rattle.hk_arena.specs.Forms.{nums_in, sets_in, words_at}
use Rattle.hk_arena.specs.inside.Writes.{state_spans}
use Rattle.hk_arena.proofs.row_states.read_up.Goals as goal

pub first_word-word-requires : goal.first_word-word-requires
first_word-word-requires c = (there c.args.layout.now c.args.store.now.content c.args.row c.requires.kept c.requires.row).place

pub word_id-requires : goal.word_id-requires
word_id-requires c =
    let form = c.args.layout.now in
    let within = words_within form c.args.row.layer c.args.row.at (there form c.args.store.now.content c.args.row c.requires.kept c.requires.row).place in
    omega (arith, c.requires.kept.words, c.first_word-word.ensures.place)

pub get_word-requires : goal.get_word-requires
get_word-requires c =
    let form = c.args.layout.now in
    let within = words_within form c.args.row.layer c.args.row.at (there form c.args.store.now.content c.args.row c.requires.kept c.requires.row).place in
    omega (arith, c.requires.kept.words, c.first_word-word.ensures.place, c.word_id.ensures)

pub returns-then-get_word-eq0-clause-none : goal.returns-then-get_word-eq0-clause-none
returns-then-get_word-eq0-clause-none c =
    let form = c.args.layout.now in
    let content = c.args.store.now.content in
    λ no. (row_up form content c.args.row 0 c.requires.kept c.requires.row (ap (λ n. get_or content.words n 0) (sym (c.word_id.ensures ∙ c.first_word-word.ensures.place)) ∙ sym (c.get_word.ensures 0) ∙ c.if-get_word-eq0.true), refl)

pub first_num-requires : goal.first_num-requires
first_num-requires c = (there c.args.layout.now c.args.store.now.content c.args.row c.requires.kept c.requires.row).place

pub first_bits-requires : goal.first_bits-requires
first_bits-requires c = (there c.args.layout.now c.args.store.now.content c.args.row c.requires.kept c.requires.row).place

pub read_state-requires-clause-room : goal.read_state-requires-clause-room
read_state-requires-clause-room c =
    let form = c.args.layout.now in
    let content = c.args.store.now.content in
    let nums = ap nums_in c.up.ensures in
    let sets = ap sets_in c.up.ensures in
    row_room form content c.args.row.layer c.args.row.at (state_spans (c.first_num.result + c.up_num.result) (nums_in c.up.result.now) (c.first_bits.result + c.up_set.result) (sets_in c.up.result.now)) c.know.ensures c.requires.kept
    (there form content c.args.row c.requires.kept c.requires.row).place (omega (arith, c.first_num.ensures.place, c.up_num.ensures)) (omega (arith, c.first_bits.ensures.place, c.up_set.ensures))

pub returns-clause-some : goal.returns-clause-some
returns-clause-some c =
    let form = c.args.layout.now in
    let content = c.args.store.now.content in
    let word = c.get_word.result in
    let read = rw (c.up.ensures, c.first_num.ensures.place, c.up_num.ensures, c.first_bits.ensures.place, c.up_set.ensures) at c.read_state.ensures in
    let first : get_or content.words (words_at form c.args.row.layer c.args.row.at) 0 ≡ word = ap (λ n. get_or content.words n 0) (sym (c.word_id.ensures ∙ c.first_word-word.ensures.place)) ∙ sym (c.get_word.ensures 0) in
    let up = row_up form content c.args.row word c.requires.kept c.requires.row first in
    λ yes. rw (ne_eqb word 0 c.if-get_word-eq0.false) at up ∙ ap Some (sym read)

pub returns-clause-shape : goal.returns-clause-shape
returns-clause-shape c =
    let content = c.args.store.now.content in
    subst (HasShape c.args.layout.now.shape.up) (sym (rw c.up.ensures at c.read_state.ensures))
    (state_fits c.args.layout.now.shape.up (c.first_num.result + c.up_num.result) (c.first_bits.result + c.up_set.result) content.nums content.bits c.requires.kept.limits c.requires.kept.sets)
