use Rattle.std.proofs.Common.{ap, ◌∙◌}
use Rattle.hk_parse.specs.BlockLines.{due}
use Rattle.hk_parse.proofs.StepsGrow.{whole}
use Rattle.hk_parse.proofs.blocks.Block.finish.Goals as goal

pub invariant_of-result : goal.invariant_of-result
invariant_of-result c = whole _ c.self.invariant c.in-Some.test c.in-Some.is (ap due c.self.view_is ∙ c.requires.1)
