use Rattle.std.proofs.Common.{◌≡◌, ap, sym, ◌∙◌, subst}
use Rattle.hk_kinds.specs.Shapes.{HasShape}
use Rattle.hk_group.specs.Groups.{PlainGroup, IsGroup, group_up_shape, group_initial_up, initial_up_of}
use Rattle.hk_group.proofs.PartsRevised.{initial_up_shape}
use Rattle.hk_group.proofs.group.Group.init_up.Goals as goal

pub returns-clause-shape : goal.returns-clause-shape
returns-clause-shape c =
    let rules : IsGroup c.args.self.now = subst IsGroup c.self.view_is c.self.invariant.rules in
    let state : c.begin_ups.new.to ≡ group_initial_up c.args.self.now = c.begin_ups.ensures ∙ (ap initial_up_of c.as_slice.ensures ∙ ap (λ (g : PlainGroup). initial_up_of g.parts) c.self.view_is) in
    subst (HasShape (group_up_shape c.args.self.now)) (sym state) (initial_up_shape c.args.self.now.parts rules.parts)
