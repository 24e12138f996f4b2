use Rattle.std.proofs.Common.{set, sym, ◌∙◌, ap, subst, arith}
use Rattle.hk_arena.proofs.Entering.{entry_lies, entry_written}
use Rattle.hk_arena.proofs.Framing.{there}
use Rattle.hk_arena.specs.Changes.{with_row, with_entry}
use Rattle.hk_arena.specs.Cells.{table_of}
use Rattle.hk_arena.specs.Kept.{IsKept}
use Rattle.hk_arena.proofs.entries.write_entry.Goals as goal

pub entry_word-requires-clause-row : goal.entry_word-requires-clause-row
entry_word-requires-clause-row g c = (there _ _ _ c.requires.kept c.requires.entry.row).place

pub word_id-word-requires : goal.word_id-word-requires
word_id-word-requires g c = omega (arith, entry_lies _ _ _ c.requires.kept c.requires.entry)

pub set_word-requires : goal.set_word-requires
set_word-requires g c = omega (arith, entry_lies _ _ _ c.requires.kept c.requires.entry)

pub returns-clause-kept : goal.returns-clause-kept
returns-clause-kept g c =
    let old = c.args.store.now.content in
    let at = c.word_id-word.ensures ∙ c.entry_word.ensures in
    let content = c.in_ok-set_word.ensures.content ∙ ap (λ k. record old { words = set old.words k c.word_of.result }) at in
    subst (IsKept c.args.layout.now) (sym content) (entry_written _ _ _ c.word_of.result c.requires.kept c.requires.entry).kept

pub returns-clause-table : goal.returns-clause-table
returns-clause-table g c =
    let old = c.args.store.now.content in
    let at = c.word_id-word.ensures ∙ c.entry_word.ensures in
    let content = c.in_ok-set_word.ensures.content ∙ ap (λ k. record old { words = set old.words k c.word_of.result }) at in
    ap (table_of c.args.layout.now) content
    ∙ (entry_written _ _ _ c.word_of.result c.requires.kept c.requires.entry).table
    ∙ ap (λ entry. with_row c.args.id.row (with_entry c.args.id.at entry) (table_of c.args.layout.now old)) c.word_of.ensures
