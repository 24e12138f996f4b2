use Rattle.hk_parse.proofs.ReadSpecs.{line_added, line_ended}
use Rattle.hk_parse.proofs.reading.read_later.Goals as goal

pub returns-in-Ok-true-clause-ok : goal.returns-in-Ok-true-clause-ok
returns-in-Ok-true-clause-ok c = line_ended c.args.line.now c.args.tokens.now c.requires.split c.in-Ok-true.ensures.ok c.in-Ok-true.field-0-test c.finish.ensures

pub returns-in-Ok-false-clause-ok : goal.returns-in-Ok-false-clause-ok
returns-in-Ok-false-clause-ok c = line_added c.args.line.now c.args.tokens.now c.requires.split c.in-Ok-false.ensures.ok c.in-Ok-false.field-0-test
