use Rattle.std.proofs.Common.{sym, subst}
use Rattle.hk_exprs.proofs.KeepingBoth.{no_first, no_second, both_made}
use Rattle.hk_exprs.proofs.MakingConds.{sets_subset}
use Rattle.hk_exprs.specs.inside.Machines as machine
use Rattle.hk_terms.specs.CondTexts as conds
use Rattle.hk_exprs.specs.inside.Standing.{IsMadeCond, kept_cond}
use Rattle.hk_exprs.proofs.joining.subset_between.Goals as goal

pub returns-in_default : goal.returns-in_default
returns-in_default c = λ x y h k. no_first _ (machine.as_set x) (machine.as_set y) (c.in_default.ensures x h)

pub returns-in_default-as_set : goal.returns-in_default-as_set
returns-in_default-as_set c = λ x y h k. no_second _ (machine.as_set x) (machine.as_set y) (c.in_default-as_set.ensures y k)

pub returns : goal.returns
returns c = λ x y h k. both_made _ (machine.as_set x) (machine.as_set y) (c.in-Some.ensures x h) (c.in-Some-as_set.ensures y k) (λ p q m n. kept_cond (subst (IsMadeCond c.args.names.now (conds.Subset p q)) (sym c.in_ok-ask_subset.ensures) (sets_subset c.args.names.now p q c.in-Some.a c.in-Some-as_set.b m n)))
