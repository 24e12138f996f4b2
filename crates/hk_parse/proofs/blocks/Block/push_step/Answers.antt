use Rattle.std.proofs.Common.{length, subst, sym, ap, arith}
use Rattle.hk_parse.specs.Blocks.{FitsStep}
use Rattle.hk_parse.proofs.StepsGrow.{down_step_pushed, up_step_pushed}
use Rattle.hk_parse.proofs.blocks.Block.push_step.Goals as goal

pub invariant_of-self : goal.invariant_of-self
invariant_of-self c =
    down_step_pushed _ c.self.invariant c.args.step c.push.new.self c.push.result c.push.ensures.ok c.push.ensures.err (subst (λ part. FitsStep part c.args.step) (sym c.self.view_is) c.requires)
    (omega (arith, c.if-as_slice.true, ap (λ xs. length xs) c.as_slice.ensures, ap (λ xs. length xs) c.as_slice-2.ensures))

pub invariant_of-self-2 : goal.invariant_of-self-2
invariant_of-self-2 c =
    up_step_pushed _ c.self.invariant c.args.step c.push-2.new.self c.push-2.result c.push-2.ensures.ok c.push-2.ensures.err (subst (λ part. FitsStep part c.args.step) (sym c.self.view_is) c.requires)
    (omega (arith, c.if-as_slice.false, ap (λ xs. length xs) c.as_slice.ensures, ap (λ xs. length xs) c.as_slice-2.ensures))
