use Rattle.std.proofs.Common.{arith}
use Rattle.hk_arena.proofs.layout.Layout.entry_word.Goals as goal

pub overflow_add-result-2 : goal.overflow_add-result-2
overflow_add-result-2 c = omega (arith, c.first_word.ensures.fits, c.requires.place)
