use Rattle.std.proofs.Common.{sym, subst, IfErr}
use Rattle.hk_parse.specs.SpecTexts.{Before, Within}
use Rattle.hk_parse.specs.inside.Stages.{StopsAt, stage_of}
use Rattle.hk_parse.specs.declared.faults.BlockFault.TheVariants.{Syntax}
use Rattle.hk_parse.proofs.ReadSpecs.{line_empty, made_stops, whole_stops}
use Rattle.hk_parse.proofs.reading.read_tokens.Goals as goal

pub returns-then-is_empty-clause-ok : goal.returns-then-is_empty-clause-ok
returns-then-is_empty-clause-ok c = line_empty c.args.line.now c.args.tokens.now _ c.requires.split (sym c.if-is_empty.ensures)

pub returns-in-Before-clause-err : goal.returns-in-Before-clause-err
returns-in-Before-clause-err c = subst (λ r. IfErr c.read_first.result (StopsAt (stage_of r) c.args.line.now)) (sym c.in-Before.is)
    (made_stops c.args.line.now c.args.tokens.now Before c.read_first.result c.requires.split (sym c.if-is_empty.ensures) c.read_first.ensures.err)

pub returns-in-Within-clause-err : goal.returns-in-Within-clause-err
returns-in-Within-clause-err c = subst (λ r. IfErr c.read_later.result (StopsAt (stage_of r) c.args.line.now)) (sym c.in-Within.is)
    (made_stops c.args.line.now c.args.tokens.now (Within c.in-Within.block) c.read_later.result c.requires.split (sym c.if-is_empty.ensures) c.read_later.ensures.err)

pub returns-in-Whole-clause-err : goal.returns-in-Whole-clause-err
returns-in-Whole-clause-err c = subst (λ r. StopsAt (stage_of r) c.args.line.now Syntax) (sym c.in-Whole.is)
    (whole_stops c.args.line.now c.args.tokens.now c.in-Whole.spec c.requires.split (sym c.if-is_empty.ensures))
