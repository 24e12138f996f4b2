use Rattle.std.proofs.Common.{◌≡◌, ap, sym, ◌∙◌, subst}
use Rattle.hk_kinds.specs.Shapes.{HasShape}
use Rattle.hk_group.specs.Groups.{PlainGroup, IsGroup, group_down_shape, group_initial_down, initial_down_of}
use Rattle.hk_group.proofs.PartsRevised.{initial_down_shape}
use Rattle.hk_group.proofs.group.Group.init_down.Goals as goal

pub returns-clause-shape : goal.returns-clause-shape
returns-clause-shape c =
    let rules : IsGroup c.args.self.now = subst IsGroup c.self.view_is c.self.invariant.rules in
    let state : c.begin_downs.new.to ≡ group_initial_down c.args.self.now = c.begin_downs.ensures ∙ (ap initial_down_of c.as_slice.ensures ∙ ap (λ (g : PlainGroup). initial_down_of g.parts) c.self.view_is) in
    subst (HasShape (group_down_shape c.args.self.now)) (sym state) (initial_down_shape c.args.self.now.parts rules.parts)
