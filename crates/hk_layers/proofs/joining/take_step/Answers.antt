use Rattle.std.proofs.Common.{sym, ◌∙◌}
use Rattle.hk_kinds.proofs.StateLaws.{length-HasShape}
use Rattle.hk_layers.proofs.joining.take_step.Goals as goal

pub join_row-requires-clause-width : goal.join_row-requires-clause-width
join_row-requires-clause-width c = length-HasShape c.requires.step ∙ sym c.requires.width

pub push-requires-clause-width : goal.push-requires-clause-width
push-requires-clause-width c = length-HasShape c.requires.step ∙ sym c.requires.width
