use Rattle.std.proofs.Common.{refl}
use Rattle.hk_exprs.proofs.MakingLeaves.{set_leaf, set_misnamed}
use Rattle.hk_terms.specs.SetTexts as sets
use Rattle.hk_exprs.proofs.resolving.set_word.Goals as goal

pub returns-in-None : goal.returns-in-None
returns-in-None c = set_misnamed c.args.names.now c.args.word.now (c.in-None.ensures.none refl)

pub returns-in-Some : goal.returns-in-Some
returns-in-Some c = set_leaf c.args.names.now (sets.Named c.args.word.now) c.in-Some.root refl c.in-Some.ensures.some c.leaf.ensures
