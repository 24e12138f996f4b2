use Rattle.std.proofs.Common.{rules, subst}
use Rattle.std.specs.Prelude.{IfSome}
use Rattle.hk_text.specs.Texts.{texts_of}
use Rattle.hk_exprs.specs.inside.Machines as machine
use Rattle.hk_exprs.specs.inside.Standing.{kept_first}
use Rattle.hk_exprs.specs.declared.frames.Frame.TheVariants as frame
use Rattle.hk_exprs.proofs.RunsEnded.{Ended, NotEnded, two_some, two_none}
use Rattle.hk_exprs.proofs.running.run_to_two.Goals as goal

pub run_steps-requires-clause-kept : goal.run_steps-requires-clause-kept
run_steps-requires-clause-kept c = (machine.First, kept_first)

pub returns-in_default-clause-none : goal.returns-in_default-clause-none
returns-in_default-clause-none c =
    let none : NotEnded c.args.names.now frame.First (texts_of c.args.line.now c.args.tokens.now) = c.in_ok-inner.ensures.none (search rules) in
    λ _ x y. none machine.First (machine.Both x y) kept_first

pub returns-clause-some : goal.returns-clause-some
returns-clause-some c =
    let ended : Ended c.args.names.now frame.First (texts_of c.args.line.now c.args.tokens.now) c.in-Some.inner =
    subst (λ read. IfSome read (Ended c.args.names.now frame.First (texts_of c.args.line.now c.args.tokens.now))) c.in-Some.is c.in_ok-inner.ensures.some
    in
    two_some c.only_operands.result ended c.only_operands.ensures.some

pub returns-clause-none : goal.returns-clause-none
returns-clause-none c =
    let ended : Ended c.args.names.now frame.First (texts_of c.args.line.now c.args.tokens.now) c.in-Some.inner =
    subst (λ read. IfSome read (Ended c.args.names.now frame.First (texts_of c.args.line.now c.args.tokens.now))) c.in-Some.is c.in_ok-inner.ensures.some
    in
    λ none. two_none ended (c.only_operands.ensures.none none)
