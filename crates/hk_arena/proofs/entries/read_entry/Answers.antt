use Rattle.std.proofs.Common.{get_or, sym, ◌∙◌, ap, arith}
use Rattle.hk_arena.proofs.Entering.{entry_in, entry_lies}
use Rattle.hk_arena.proofs.Framing.{there}
use Rattle.hk_arena.specs.Cells.{entry_of}
use Rattle.hk_arena.proofs.entries.read_entry.Goals as goal

pub entry_word-requires-clause-row : goal.entry_word-requires-clause-row
entry_word-requires-clause-row c = (there _ _ _ c.requires.kept c.requires.entry.row).place

pub word_id-word-requires : goal.word_id-word-requires
word_id-word-requires c = omega (arith, entry_lies _ _ _ c.requires.kept c.requires.entry)

pub get_word-requires : goal.get_word-requires
get_word-requires c = omega (arith, entry_lies _ _ _ c.requires.kept c.requires.entry)

pub returns : goal.returns
returns c =
    let words = c.args.store.now.content.words in
    let at = c.word_id-word.ensures ∙ c.entry_word.ensures in
    c.entry_of.ensures
    ∙ ap entry_of (c.get_word.ensures 0 ∙ ap (λ k. get_or words k 0) at)
    ∙ sym (entry_in _ _ _ c.requires.kept c.requires.entry)
