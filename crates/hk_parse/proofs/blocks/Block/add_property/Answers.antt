use Rattle.hk_parse.specs.Blocks.{AwaitsProperty}
use Rattle.hk_parse.proofs.LinesAdded.{property_answer, property_added}
use Rattle.hk_parse.proofs.blocks.Block.add_property.Goals as goal

pub returns-clause-ok : goal.returns-clause-ok
returns-clause-ok c =
    let awaited : AwaitsProperty c.args.self.now c.args.side = c.awaits_property.ensures.0 c.if-not-awaits_property.false in
    property_added c.args.self.now c.args.side c.declare_property.new.self c.declare_property.result awaited c.in-Some.ensures.some c.declare_property.ensures.ok

pub returns-clause-err : goal.returns-clause-err
returns-clause-err c =
    let awaited : AwaitsProperty c.args.self.now c.args.side = c.awaits_property.ensures.0 c.if-not-awaits_property.false in
    property_answer c.args.self.now c.args.side c.declare_property.result awaited c.in-Some.ensures.some c.declare_property.ensures.err
