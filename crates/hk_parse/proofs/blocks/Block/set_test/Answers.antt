use Rattle.std.proofs.Common.{Option, subst, sym}
use Rattle.hk_spec.specs.declared.expressions.Cond.{Cond}
use Rattle.hk_parse.specs.Blocks.{FitsTest, IsPart}
use Rattle.hk_parse.proofs.PartsGrow.{test_kept}
use Rattle.hk_parse.proofs.blocks.Block.set_test.Goals as goal

pub invariant_of-self : goal.invariant_of-self
invariant_of-self c =
    let inside = c.self.inside in
    subst (λ (test : Option Cond). IsPart (record { name = inside.name; params = inside.params; down = inside.down; up = inside.up; test = test; down_step = inside.down_step; up_step = inside.up_step })) (sym c.replace.ensures.after)
    (test_kept _ c.args.test c.self.invariant (subst (λ part. FitsTest part c.args.test) (sym c.self.view_is) c.requires))
