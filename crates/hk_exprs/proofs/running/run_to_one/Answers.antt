use Rattle.std.proofs.Common.{rules, subst}
use Rattle.std.specs.Prelude.{IfSome}
use Rattle.hk_text.specs.Texts.{texts_of}
use Rattle.hk_exprs.specs.inside.Machines as machine
use Rattle.hk_exprs.specs.inside.Standing.{kept_empty}
use Rattle.hk_exprs.specs.declared.frames.Frame.TheVariants as frame
use Rattle.hk_exprs.proofs.RunsEnded.{Ended, NotEnded, one_some, one_none}
use Rattle.hk_exprs.proofs.running.run_to_one.Goals as goal

pub run_steps-requires-clause-kept : goal.run_steps-requires-clause-kept
run_steps-requires-clause-kept c = (machine.Empty, kept_empty)

pub returns-in_default-clause-none : goal.returns-in_default-clause-none
returns-in_default-clause-none c =
    let none : NotEnded c.args.names.now frame.Empty (texts_of c.args.line.now c.args.tokens.now) = c.in_ok-inner.ensures.none (search rules) in
    λ _ x. none machine.Empty (machine.One x) kept_empty

pub returns-clause-some : goal.returns-clause-some
returns-clause-some c =
    let ended : Ended c.args.names.now frame.Empty (texts_of c.args.line.now c.args.tokens.now) c.in-Some.inner =
    subst (λ read. IfSome read (Ended c.args.names.now frame.Empty (texts_of c.args.line.now c.args.tokens.now))) c.in-Some.is c.in_ok-inner.ensures.some
    in
    one_some c.only_operand.result ended c.only_operand.ensures.some

pub returns-clause-none : goal.returns-clause-none
returns-clause-none c =
    let ended : Ended c.args.names.now frame.Empty (texts_of c.args.line.now c.args.tokens.now) c.in-Some.inner =
    subst (λ read. IfSome read (Ended c.args.names.now frame.Empty (texts_of c.args.line.now c.args.tokens.now))) c.in-Some.is c.in_ok-inner.ensures.some
    in
    λ none. one_none ended (c.only_operand.ensures.none none)
