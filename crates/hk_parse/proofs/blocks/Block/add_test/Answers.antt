use Rattle.std.proofs.Common.{Ok, subst}
use Rattle.hk_text.specs.Texts.{texts_of}
use Rattle.hk_parse.specs.inside.LineParts.{IsTestFault}
use Rattle.hk_exprs.specs.Reads.{ReadsCond}
use Rattle.hk_parse.proofs.TestsAdded.{test_fits, test_goes_on, test_fault}
use Rattle.hk_parse.proofs.blocks.Block.add_test.Goals as goal

pub returns-in-Err-clause-err : goal.returns-in-Err-clause-err
returns-in-Err-clause-err c =
    test_fault c.args.self.now c.in-Err.fault (texts_of c.args.line.now c.args.tokens.now) (c.awaits_test.ensures.0 c.if-not-awaits_test.false)
    (subst (λ names. IsTestFault names (texts_of c.args.line.now c.args.tokens.now) c.in-Err.fault) c.test_names.ensures.names c.in-Err.ensures.err)

pub set_test-requires : goal.set_test-requires
set_test-requires c =
    test_fits c.args.self.now c.in-Ok.test (c.awaits_test.ensures.0 c.if-not-awaits_test.false)
    (subst (λ names. ReadsCond names (texts_of c.args.line.now c.args.tokens.now) (Ok c.in-Ok.test)) c.test_names.ensures.names c.in-Ok.ensures.ok)

pub returns-in-Ok-clause-ok : goal.returns-in-Ok-clause-ok
returns-in-Ok-clause-ok c =
    test_goes_on c.args.self.now c.set_test.new.self c.in-Ok.test (c.awaits_test.ensures.0 c.if-not-awaits_test.false)
    (subst (λ names. ReadsCond names (texts_of c.args.line.now c.args.tokens.now) (Ok c.in-Ok.test)) c.test_names.ensures.names c.in-Ok.ensures.ok) c.set_test.ensures
