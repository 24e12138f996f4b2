use Rattle.std.proofs.Common.{sym, ◌∙◌}
use Rattle.hk_kinds.proofs.StateLaws.{length-HasShape}
use Rattle.hk_group.proofs.GroupCalls.{standing_places, stepped_up, up_step_shape}
use Rattle.hk_group.proofs.group.Group.write_up.Goals as goal

pub write_ups-requires-clause-places : goal.write_ups-requires-clause-places
write_ups-requires-clause-places c = standing_places c.args.self.now c.args.layer _ _ c.standing.ensures.parts c.standing.ensures.places c.standing.ensures.rules

pub write_ups-requires-clause-to : goal.write_ups-requires-clause-to
write_ups-requires-clause-to c = c.requires.to ∙ sym (length-HasShape c.requires.from)

pub returns-clause-step : goal.returns-clause-step
returns-clause-step c = stepped_up c.args.self.now c.args.layer _ _ c.standing.ensures.parts c.standing.ensures.places c.args.value c.args.from.now c.write_ups.new.to c.write_ups.ensures

pub returns-clause-shape : goal.returns-clause-shape
returns-clause-shape c = up_step_shape c.args.self.now c.args.layer c.args.value c.args.from.now c.write_ups.new.to c.standing.ensures.rules c.requires.value c.requires.from (returns-clause-step c)
