use Rattle.std.proofs.Common.{arith}
use Rattle.hk_arena.proofs.Layouts.{layers_of, seen}
use Rattle.hk_arena.proofs.layout.Layout.layers.Goals as goal

pub overflow_cast-result : goal.overflow_cast-result
overflow_cast-result c =
    let is = seen c.self.invariant c.self.view_is in
    omega (arith, layers_of is, is.small.layers, c.self.inside.values.ok)

pub returns : goal.returns
returns c =
    let is = seen c.self.invariant c.self.view_is in
    omega (arith, layers_of is, c.self.inside.values.ok)
