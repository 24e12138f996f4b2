use Rattle.std.proofs.Common.{subst, sym}
use Rattle.hk_parse.specs.Blocks.{FitsProperty}
use Rattle.hk_parse.proofs.PartsGrow.{down_pushed, up_pushed}
use Rattle.hk_parse.proofs.blocks.Block.push_property.Goals as goal

pub invariant_of-self : goal.invariant_of-self
invariant_of-self c =
    down_pushed _ c.args.property c.push.new.self c.push.result c.push.ensures.ok c.push.ensures.err c.self.invariant
    (subst (λ part. FitsProperty part _ c.args.property) (sym c.self.view_is) (subst (λ side. FitsProperty c.args.self.now side c.args.property) c.in-Down.is c.requires))

pub invariant_of-self-in-Up : goal.invariant_of-self-in-Up
invariant_of-self-in-Up c =
    up_pushed _ c.args.property c.push-in-Up.new.self c.push-in-Up.result c.push-in-Up.ensures.ok c.push-in-Up.ensures.err c.self.invariant
    (subst (λ part. FitsProperty part _ c.args.property) (sym c.self.view_is) (subst (λ side. FitsProperty c.args.self.now side c.args.property) c.in-Up.is c.requires))
