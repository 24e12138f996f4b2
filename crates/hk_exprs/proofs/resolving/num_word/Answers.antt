use Rattle.std.proofs.Common.{refl}
use Rattle.hk_exprs.proofs.MakingLeaves.{num_leaf, num_misnamed}
use Rattle.hk_terms.specs.NumTexts as nums
use Rattle.hk_exprs.proofs.resolving.num_word.Goals as goal

pub returns-in-None : goal.returns-in-None
returns-in-None c = num_misnamed c.args.names.now c.args.word.now (c.in-None.ensures.none refl)

pub returns-in-Some : goal.returns-in-Some
returns-in-Some c = num_leaf c.args.names.now (nums.Named c.args.word.now) c.in-Some.root refl c.in-Some.ensures.some c.leaf.ensures
