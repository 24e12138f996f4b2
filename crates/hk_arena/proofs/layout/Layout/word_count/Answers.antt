use Rattle.std.proofs.Common.{ap, arith}
use Rattle.hk_arena.proofs.Layouts.{layers_of, seen}
use Rattle.hk_arena.proofs.PoolSizes.{word_count_is}
use Rattle.hk_arena.specs.Forms.{Form}
use Rattle.hk_arena.proofs.layout.Layout.word_count.Goals as goal

pub index-requires : goal.index-requires
index-requires c =
    let is = seen c.self.invariant c.self.view_is in
    omega (arith, layers_of is, c.self.inside.words.ok)

pub overflow_add-result : goal.overflow_add-result
overflow_add-result c =
    let is = seen c.self.invariant c.self.view_is in
    omega (arith, is.small.words, word_count_is is (omega arith) c.index.ensures, ap (λ (f : Form). f.width) c.self.view_is)

pub returns : goal.returns
returns c =
    let is = seen c.self.invariant c.self.view_is in
    omega (arith, word_count_is is (omega arith) c.index.ensures, ap (λ (f : Form). f.width) c.self.view_is)
