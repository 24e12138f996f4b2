use Rattle.std.proofs.Common.{sym, subst}
use Rattle.hk_parse.specs.inside.Stages.{StopsAt, stage_of}
use Rattle.hk_parse.proofs.ReadSpecs.{byte_stops}
use Rattle.hk_parse.proofs.reading.read_line.Goals as goal

pub returns-in-Err-clause-err : goal.returns-in-Err-clause-err
returns-in-Err-clause-err c = subst (StopsAt (stage_of c.args.reading) c.args.line.now) (sym c.text_fault.ensures)
    (byte_stops c.args.line.now (stage_of c.args.reading) c.in-Err.fault c.in-Err.ensures.err)
