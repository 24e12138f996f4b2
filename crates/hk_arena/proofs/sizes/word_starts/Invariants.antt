use Rattle.std.proofs.Common.{◌≡◌}
use Rattle.hk_arena.specs.Cells.{listed}
use Rattle.hk_arena.specs.Forms.{words_at}
use Rattle.hk_arena.proofs.sizes.word_starts.Given as goal

-- the layers up to here have their places, and the next one begins here
abbrev pub invariant-loop-set : goal.invariant-loop-set
invariant-loop-set l = record {
  starts : l.starts.items ≡ listed l.set-index (λ layer. words_at (record { shape = l.fn.shape; width = l.fn.width }) layer 0);
  next : l.next ≡ words_at (record { shape = l.fn.shape; width = l.fn.width }) l.set-index 0;
}
