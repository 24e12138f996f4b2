use Rattle.std.proofs.Common.{refl, sym, ◌∙◌}
use Rattle.std.proofs.lemmas.Result.{on_ok_weaker, IfErr-weaker}
use Rattle.hk_text.specs.Texts.{texts_of}
use Rattle.hk_lines.specs.Plain.{statement_of}
use Rattle.hk_model.specs.inside.Faults.{IsLineFault}
use Rattle.hk_draft.specs.Faults.{IsStatementFault}
use Rattle.hk_lines.specs.Shapes.{IsShapeOf}
use Rattle.hk_model.proofs.FirstFaults.{first_of_statement}
use Rattle.hk_model.proofs.OutsideLines.{silent_line, effect_after}
use Rattle.hk_model.proofs.declared.Declared.read_outside.Goals as goal
use Rattle.hk_model.proofs.declared.Declared.read_outside.Goals.{In-Ok-Some}

-- the shape is that of a statement which the line says
shaped : (c : In-Ok-Some) → IsShapeOf (texts_of c.args.line.now c.args.tokens.now) c.in-Ok-Some.shape
shaped c = rw c.in-Ok-Some.field-0-is at c.in-Ok-Some.ensures.shape

pub returns-in-Ok-Some-clause-ok : goal.returns-in-Ok-Some-clause-ok
returns-in-Ok-Some-clause-ok c = on_ok_weaker c.declare.result
    (effect_after c.args.self.now c.requires.has c.requires.outside c.in-Ok-Some.shape (shaped (goal.at.returns-in-Ok-Some-clause-ok c).In-Ok-Some) c.declare.new.self)
    c.declare.ensures.ok

pub returns-in-Ok-Some-clause-err : goal.returns-in-Ok-Some-clause-err
returns-in-Ok-Some-clause-err c = IfErr-weaker c.declare.result
    (IsStatementFault c.args.self.now.problem (statement_of c.in-Ok-Some.shape))
    (IsLineFault c.args.self.now c.args.line.now)
    (first_of_statement c.requires.has c.in-Ok-Some.shape (shaped (goal.at.returns-in-Ok-Some-clause-err c).In-Ok-Some) c.args.self.now c.requires.outside)
    c.declare.ensures.err

pub returns-in-Ok-None-clause-err : goal.returns-in-Ok-None-clause-err
returns-in-Ok-None-clause-err c =
    let silent = rw c.in-Ok-None.field-0-is at c.in-Ok-None.ensures.none in
    silent_line c.args.self.now c.requires.has c.requires.some c.requires.outside (silent refl)
    (c.in_default.ensures.none refl)
    (c.after_text-2.ensures.none (sym c.is_some.ensures ∙ c.if-is_some.false))
