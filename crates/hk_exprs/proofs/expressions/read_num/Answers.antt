use Rattle.std.proofs.Common.{rules, subst}
use Rattle.std.specs.Prelude.{IfSome}
use Rattle.hk_text.specs.Texts.{texts_of}
use Rattle.hk_exprs.proofs.RunsEnded.{ToOne, NotToOne}
use Rattle.hk_exprs.proofs.ExpressionsRead.{num_read, no_num_read, no_num_run}
use Rattle.hk_exprs.proofs.expressions.read_num.Goals as goal

pub as_num-requires-clause-kept : goal.as_num-requires-clause-kept
as_num-requires-clause-kept c =
    let a : ToOne c.args.names.now (texts_of c.args.line.now c.args.tokens.now) c.in-Some.operand = subst (λ read. IfSome read (ToOne c.args.names.now (texts_of c.args.line.now c.args.tokens.now))) c.in-Some.is c.in_ok-operand.ensures.some in
    (a.0, a.2)

pub returns-in_default-clause-none : goal.returns-in_default-clause-none
returns-in_default-clause-none c =
    let none : NotToOne (texts_of c.args.line.now c.args.tokens.now) = c.in_ok-operand.ensures.none (search rules) in
    λ _. no_num_run none

pub returns-in-None-clause-none : goal.returns-in-None-clause-none
returns-in-None-clause-none c =
    let a : ToOne c.args.names.now (texts_of c.args.line.now c.args.tokens.now) c.in-Some.operand = subst (λ read. IfSome read (ToOne c.args.names.now (texts_of c.args.line.now c.args.tokens.now))) c.in-Some.is c.in_ok-operand.ensures.some in
    λ _. no_num_read a.1 (c.in-None.ensures a.0 a.2)

pub returns-in-Some-as_num-clause-some : goal.returns-in-Some-as_num-clause-some
returns-in-Some-as_num-clause-some c =
    let a : ToOne c.args.names.now (texts_of c.args.line.now c.args.tokens.now) c.in-Some.operand = subst (λ read. IfSome read (ToOne c.args.names.now (texts_of c.args.line.now c.args.tokens.now))) c.in-Some.is c.in_ok-operand.ensures.some in
    num_read a.1 (c.in-Some-as_num.ensures a.0 a.2) c.root_of.ensures
