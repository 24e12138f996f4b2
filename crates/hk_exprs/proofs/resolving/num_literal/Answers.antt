use Rattle.std.proofs.Common.{refl}
use Rattle.hk_exprs.proofs.MakingLeaves.{num_leaf, num_flawed}
use Rattle.hk_terms.specs.NumTexts as nums
use Rattle.hk_exprs.proofs.resolving.num_literal.Goals as goal

pub returns-in-Err : goal.returns-in-Err
returns-in-Err c = λ names. num_flawed names (nums.Number c.args.negative c.args.digits.now) c.in-Err.flaw (c.in-Err.ensures names)

pub returns-in-Ok : goal.returns-in-Ok
returns-in-Ok c = λ names. num_leaf names (nums.Number c.args.negative c.args.digits.now) c.in-Ok.root refl (c.in-Ok.ensures names) c.leaf.ensures
