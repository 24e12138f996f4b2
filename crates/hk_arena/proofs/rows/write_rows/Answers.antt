use Rattle.std.proofs.Common.{set, sym, ◌∙◌, ap, subst}
use Rattle.hk_arena.proofs.Counting.{IsKept-counted, IsResized-counted}
use Rattle.hk_arena.specs.Changes.{IsResized}
use Rattle.hk_arena.specs.Cells.{table_of}
use Rattle.hk_arena.specs.Kept.{IsKept}
use Rattle.hk_arena.proofs.rows.write_rows.Goals as goal

pub returns-clause-kept : goal.returns-clause-kept
returns-clause-kept g c =
    let old = c.args.store.now.content in
    let content = c.in_ok-set_word.ensures.content ∙ ap (λ k. record old { words = set old.words k c.args.rows }) c.word_id-word.ensures in
    subst (IsKept c.args.layout.now) (sym content) (IsKept-counted _ _ _ _ c.requires.kept c.requires.layer c.requires.width c.requires.empty)

pub returns-clause-table : goal.returns-clause-table
returns-clause-table g c =
    let form = c.args.layout.now in
    let old = c.args.store.now.content in
    let content = c.in_ok-set_word.ensures.content ∙ ap (λ k. record old { words = set old.words k c.args.rows }) c.word_id-word.ensures in
    subst (λ new. IsResized form.shape c.args.layer c.args.rows (table_of form old) (table_of form new)) (sym content)
    (IsResized-counted _ _ _ _ c.requires.kept c.requires.layer c.requires.width c.requires.empty)
