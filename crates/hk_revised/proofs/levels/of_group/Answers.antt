use Rattle.std.proofs.Common.{rules, ◌≡◌, ◌∙◌}
use Rattle.hk_sweep.specs.Loose.{group_shape}
use Rattle.hk_revised.proofs.levels.of_group.Goals as goal

pub are_given_back-requires-clause-made : goal.are_given_back-requires-clause-made
are_given_back-requires-clause-made c =
    let made : (c.in_ok-diagram.diagram.shape ≡ c.in_ok-shape.shape) × (c.in_ok-diagram.diagram.width ≡ c.args.width) = search rules in
    let shaped : c.in_ok-shape.shape ≡ group_shape c.args.group.now c.args.sets.now = search rules in
    record { sets = c.args.sets.now; shape = made.0 ∙ shaped; wide = made.1 }
