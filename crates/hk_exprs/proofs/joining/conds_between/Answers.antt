use Rattle.std.proofs.Common.{sym, subst}
use Rattle.hk_exprs.proofs.KeepingBoth.{no_first, no_second, both_made}
use Rattle.hk_exprs.proofs.MakingConds.{conds_joined}
use Rattle.hk_exprs.specs.inside.Making.{asks_both}
use Rattle.hk_exprs.specs.inside.Machines as machine
use Rattle.hk_terms.specs.CondTexts as conds
use Rattle.hk_exprs.specs.inside.Standing.{IsMadeCond, kept_cond}
use Rattle.hk_exprs.proofs.joining.conds_between.Goals as goal

pub returns-in_default : goal.returns-in_default
returns-in_default c = λ names x y h k. no_first _ (machine.as_cond x) (machine.as_cond y) (c.in_default.ensures names x h)

pub returns-in_default-as_cond : goal.returns-in_default-as_cond
returns-in_default-as_cond c = λ names x y h k. no_second _ (machine.as_cond x) (machine.as_cond y) (c.in_default-as_cond.ensures names y k)

pub returns : goal.returns
returns c = λ names x y h k. both_made _ (machine.as_cond x) (machine.as_cond y) (c.in-Some.ensures names x h) (c.in-Some-as_cond.ensures names y k) (λ p q m n. kept_cond (subst (IsMadeCond names (conds.Joined (asks_both c.args.mark) p q)) (sym c.in_ok-join_conds.ensures) (conds_joined names c.args.mark p q c.in-Some.a c.in-Some-as_cond.b m n)))
