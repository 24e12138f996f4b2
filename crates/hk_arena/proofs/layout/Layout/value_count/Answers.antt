use Rattle.std.proofs.Common.{length, arith}
use Rattle.hk_arena.proofs.Layouts.{layers_of, seen, listed_read}
use Rattle.hk_arena.specs.Diagrams.{values_of}
use Rattle.hk_arena.specs.Forms.{layer_count}
use Rattle.hk_arena.proofs.layout.Layout.value_count.Goals as goal

pub index-requires : goal.index-requires
index-requires c =
    let is = seen c.self.invariant c.self.view_is in
    omega (arith, layers_of is, c.self.inside.values.ok)

pub returns : goal.returns
returns c =
    let is = seen c.self.invariant c.self.view_is in
    listed_read (layer_count c.args.self.now) (λ layer. length (values_of c.args.self.now.shape layer)) c.self.inside.values.items c.args.layer c.index.result.now is.all_values c.requires c.index.ensures
