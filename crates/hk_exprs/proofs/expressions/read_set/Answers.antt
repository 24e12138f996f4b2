use Rattle.std.proofs.Common.{rules, subst}
use Rattle.std.specs.Prelude.{IfSome}
use Rattle.hk_text.specs.Texts.{texts_of}
use Rattle.hk_exprs.proofs.RunsEnded.{ToOne, NotToOne}
use Rattle.hk_exprs.proofs.ExpressionsRead.{set_read, no_set_read, no_set_run}
use Rattle.hk_exprs.proofs.expressions.read_set.Goals as goal

pub returns-in_default-clause-none : goal.returns-in_default-clause-none
returns-in_default-clause-none c =
    let none : NotToOne (texts_of c.args.line.now c.args.tokens.now) = c.in_ok-operand.ensures.none (search rules) in
    λ _. no_set_run none

pub returns-in-None-clause-none : goal.returns-in-None-clause-none
returns-in-None-clause-none c =
    let a : ToOne c.args.names.now (texts_of c.args.line.now c.args.tokens.now) c.in-Some.operand = subst (λ read. IfSome read (ToOne c.args.names.now (texts_of c.args.line.now c.args.tokens.now))) c.in-Some.is c.in_ok-operand.ensures.some in
    λ _. no_set_read a.1 (c.in-None.ensures a.0 a.2)

pub returns-in-Some-as_set-clause-some : goal.returns-in-Some-as_set-clause-some
returns-in-Some-as_set-clause-some c =
    let a : ToOne c.args.names.now (texts_of c.args.line.now c.args.tokens.now) c.in-Some.operand = subst (λ read. IfSome read (ToOne c.args.names.now (texts_of c.args.line.now c.args.tokens.now))) c.in-Some.is c.in_ok-operand.ensures.some in
    set_read a.1 (c.in-Some-as_set.ensures a.0 a.2) c.root_of.ensures
