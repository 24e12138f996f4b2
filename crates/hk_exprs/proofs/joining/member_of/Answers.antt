use Rattle.std.proofs.Common.{codes, sym, subst, ◌∙◌}
use Rattle.hk_exprs.proofs.KeepingWords.{word_there, word_none, member_no_value, member_no_set, member_made}
use Rattle.hk_exprs.proofs.MakingConds.{set_member}
use Rattle.hk_terms.specs.CondTexts as conds
use Rattle.hk_exprs.specs.inside.Machines as machine
use Rattle.hk_exprs.specs.inside.Standing.{IsMadeCond, kept_cond}
use Rattle.hk_exprs.proofs.joining.member_of.Goals as goal

pub returns-in_default : goal.returns-in_default
returns-in_default c = λ x y h k. member_no_set c.args.inside x (machine.as_set y) (c.in_default.ensures y k)

pub returns-in_default-word_of : goal.returns-in_default-word_of
returns-in_default-word_of c = λ x y h k. member_no_value c.args.inside x (machine.as_set y) (word_none x (codes "v") (c.in_default-word_of.ensures c.args.names.now x h))

pub returns-then-not-is_text : goal.returns-then-not-is_text
returns-then-not-is_text c = λ x y h k. member_no_value c.args.inside x (machine.as_set y) (word_there x (codes "v") (c.in-Some-word_of.ensures c.args.names.now x h) (sym c.if-not-is_text.true ∙ c.is_text.ensures))

pub returns : goal.returns
returns c = λ x y h k. member_made c.args.inside x (machine.as_set y) (word_there x (codes "v") (c.in-Some-word_of.ensures c.args.names.now x h) (sym c.if-not-is_text.false ∙ c.is_text.ensures)) (c.in-Some.ensures y k) (λ p m. kept_cond (subst (IsMadeCond c.args.names.now (conds.Member c.args.inside p)) (sym c.in_ok-ask_member.ensures) (set_member c.args.names.now c.args.inside p c.in-Some.set m)))
