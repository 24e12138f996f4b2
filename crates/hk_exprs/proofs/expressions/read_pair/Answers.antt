use Rattle.std.proofs.Common.{rules, subst}
use Rattle.std.specs.Prelude.{IfSome}
use Rattle.hk_text.specs.Texts.{texts_of}
use Rattle.hk_exprs.proofs.RunsEnded.{ToTwo, NotToTwo}
use Rattle.hk_exprs.proofs.ExpressionsRead.{pair_read, no_low_read, no_high_read, no_pair_run}
use Rattle.hk_exprs.proofs.expressions.read_pair.Goals as goal

pub returns-in_default-clause-none : goal.returns-in_default-clause-none
returns-in_default-clause-none c =
    let none : NotToTwo (texts_of c.args.line.now c.args.tokens.now) = c.in_ok-low.ensures.none (search rules) in
    λ _. no_pair_run none

pub returns-in_default-as_num-clause-none : goal.returns-in_default-as_num-clause-none
returns-in_default-as_num-clause-none c =
    let two : ToTwo c.args.names.now (texts_of c.args.line.now c.args.tokens.now) (c.in-Some.low, c.in-Some.high) = subst (λ read. IfSome read (ToTwo c.args.names.now (texts_of c.args.line.now c.args.tokens.now))) c.in-Some.is c.in_ok-low.ensures.some in
    λ _. no_low_read two.2 (c.in_default-as_num.ensures two.0 two.3)

pub returns-in_default-as_num-2-clause-none : goal.returns-in_default-as_num-2-clause-none
returns-in_default-as_num-2-clause-none c =
    let two : ToTwo c.args.names.now (texts_of c.args.line.now c.args.tokens.now) (c.in-Some.low, c.in-Some.high) = subst (λ read. IfSome read (ToTwo c.args.names.now (texts_of c.args.line.now c.args.tokens.now))) c.in-Some.is c.in_ok-low.ensures.some in
    λ _. no_high_read two.2 (c.in_default-as_num-2.ensures two.1 two.4)

pub returns-clause-some : goal.returns-clause-some
returns-clause-some c =
    let two : ToTwo c.args.names.now (texts_of c.args.line.now c.args.tokens.now) (c.in-Some.low, c.in-Some.high) = subst (λ read. IfSome read (ToTwo c.args.names.now (texts_of c.args.line.now c.args.tokens.now))) c.in-Some.is c.in_ok-low.ensures.some in
    pair_read two.2 (c.in-Some-as_num.ensures two.0 two.3) (c.in-Some-as_num-2.ensures two.1 two.4) c.root_of.ensures c.root_of-2.ensures c.both_of.ensures
