use Rattle.std.specs.Int.{w64}
use Rattle.std.proofs.lemmas.Int.{to_z-of_z}
use Rattle.hk_group.proofs.GroupCalls.{standing_places, tested}
use Rattle.hk_group.proofs.group.Group.passes_view.Goals as goal

pub parts_pass-requires-clause-places : goal.parts_pass-requires-clause-places
parts_pass-requires-clause-places c = standing_places c.args.self.now c.args.layer _ _ c.standing.ensures.parts c.standing.ensures.places c.standing.ensures.rules

pub returns : goal.returns
returns c = tested c.args.self.now c.args.layer _ _ c.standing.ensures.parts c.standing.ensures.places c.args.value c.args.best _ c.args.down.now c.args.up.now c.parts_pass.result (to_z-of_z w64 c.args.best c.ranges.best) c.parts_pass.ensures
