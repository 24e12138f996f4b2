use Rattle.std.proofs.Common.{length, refl, sym, ◌∙◌, ap}
use Rattle.hk_group.specs.Groups.{group_up_shape}
use Rattle.hk_kinds.proofs.StateLaws.{length-HasShape}
use Rattle.hk_layers.proofs.Risings.{rises_with, risen_wide}
use Rattle.hk_layers.specs.Spots.{PlainSpot}
use Rattle.hk_layers.proofs.rising.Rising.take_in.Goals as goal

pub invariant_of-self : goal.invariant_of-self
invariant_of-self c = length-HasShape c.write_up.ensures.shape ∙ (ap length (sym c.shapes.ensures.up) ∙ sym (length-HasShape c.join_into.ensures.shape))

pub invariant_of-self-else-self : goal.invariant_of-self-else-self
invariant_of-self-else-self c =
    let kinds = ap (λ (s : PlainSpot). length (group_up_shape s.group)) c.spot.view_is in
    c.self.invariant ∙ (risen_wide _ _ _ _ c.self.view_is c.requires.rises ∙ (sym kinds ∙ sym (length-HasShape c.write_up-else-self.ensures.shape)))

pub returns-then-self-clause-rises : goal.returns-then-self-clause-rises
returns-then-self-clause-rises c = rises_with _ _ _ _ (c.shapes.ensures.up ∙ ap (λ (s : PlainSpot). group_up_shape s.group) c.spot.view_is) c.if-self.true c.join_into.ensures.shape

pub returns-else-self-clause-rises : goal.returns-else-self-clause-rises
returns-else-self-clause-rises c = rises_with _ _ _ _ (ap (λ (s : PlainSpot). group_up_shape s.group) c.spot.view_is) refl c.write_up-else-self.ensures.shape
