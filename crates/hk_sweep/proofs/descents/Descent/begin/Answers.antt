use Rattle.std.proofs.Common.{◌≡◌, length, sym, ◌∙◌, ap}
use Rattle.hk_kinds.proofs.StateLaws.{length-HasShape}
use Rattle.hk_sweep.specs.Views.{DescentView}
use Rattle.hk_sweep.proofs.descents.Descent.begin.Goals as goal

pub begin-requires : goal.begin-requires
begin-requires c =
    let width : c.self.inside.buffers ≡ c.args.self.now.width = ap (λ (d : DescentView). d.width) c.self.view_is in
    ap length c.view.ensures ∙ length-HasShape c.init_down.ensures.shape ∙ sym c.requires ∙ sym width ∙ sym c.self.invariant.1

pub invariant_of-self : goal.invariant_of-self
invariant_of-self c =
    let width : c.self.inside.buffers ≡ c.args.self.now.width = ap (λ (d : DescentView). d.width) c.self.view_is in
    (length-HasShape c.init_down.ensures.shape ∙ sym c.requires ∙ sym width, c.begin.ensures.width ∙ c.self.invariant.1, c.self.invariant.2, c.self.invariant.3)
