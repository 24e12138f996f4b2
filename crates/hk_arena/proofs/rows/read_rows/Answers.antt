use Rattle.std.proofs.Common.{get_or, sym, ◌∙◌, ap}
use Rattle.hk_arena.proofs.Framing.{length-rows_of}
use Rattle.hk_arena.proofs.rows.read_rows.Goals as goal

pub returns : goal.returns
returns c =
    let words = c.args.store.now.content.words in
    c.get_word.ensures 0
    ∙ ap (λ k. get_or words k 0) c.word_id-word.ensures
    ∙ sym (length-rows_of c.args.layout.now c.args.store.now.content c.args.layer c.requires.layer)
