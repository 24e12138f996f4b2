use Rattle.std.proofs.Common.{rules, ◌≡◌, ◌∙◌}
use Rattle.hk_sweep.specs.Loose.{group_shape}
use Rattle.hk_revised.proofs.running.are_shaped.Goals as goal

pub are_made-requires-clause-made : goal.are_made-requires-clause-made
are_made-requires-clause-made c =
    let made : (c.in_ok-diagram.diagram.shape ≡ c.in_ok-shape.shape) × (c.in_ok-diagram.diagram.width ≡ c.args.case.now.width) = search rules in
    let shaped : c.in_ok-shape.shape ≡ group_shape c.args.group.now c.args.case.now.sets.now = search rules in
    record { sets = c.args.case.now.sets.now; shape = made.0 ∙ shaped; wide = made.1 }
