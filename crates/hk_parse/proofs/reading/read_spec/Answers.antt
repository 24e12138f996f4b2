use Rattle.std.proofs.Common.{[], refl, sym, subst, arith}
use Rattle.hk_parse.specs.SpecTexts.{IsSpecFault, no_line}
use Rattle.hk_parse.proofs.ReadSpecs.{reached_more, stopped_at, whole_answer, wanting_answer}
use Rattle.hk_parse.proofs.reading.read_spec.Goals as goal

pub lines-init : goal.lines-init
lines-init c = record { done = []; parts = refl; good = no_line; counted = refl; room = omega (arith, c.requires) }

pub lines-preserved : goal.lines-preserved
lines-preserved c = reached_more c.lines.invariant c.split_line.ensures.first c.split_line.ensures.shorter c.in-Ok.ensures.ok

pub returns-in-Err-clause-fault : goal.returns-in-Err-clause-fault
returns-in-Err-clause-fault c = subst (IsSpecFault c.args.bytes.now) (sym c.fault_at.ensures)
    (stopped_at c.split_line.result.1.now c.in-Err.fault c.lines.invariant c.split_line.ensures.first c.in-Err.ensures.err)

pub returns-clause-spec : goal.returns-clause-spec
returns-clause-spec c = whole_answer c.whole_of.result c.lines.invariant (sym c.lines-test.ensures) c.whole_of.ensures.spec

pub returns-clause-fault : goal.returns-clause-fault
returns-clause-fault c = wanting_answer c.whole_of.result c.lines.invariant (sym c.lines-test.ensures) c.whole_of.ensures.fault
