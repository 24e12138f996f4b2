use Rattle.std.proofs.Common.{◌∷◌, refl}
use Rattle.std.proofs.lemmas.Result.{on_ok_weaker, IfErr-weaker}
use Rattle.std.specs.Prelude.{codes}
use Rattle.hk_text.specs.Texts.{texts_of}
use Rattle.hk_model.specs.inside.Faults.{IsLineFault, IsPostFaultAfter}
use Rattle.hk_lines.specs.PostShapes.{plain_post, IsPostShapeOf}
use Rattle.hk_model.proofs.OutsideLines.{post_syntax, first_of_post, effect_of_post}
use Rattle.hk_model.proofs.declared.Declared.read_post.Goals as goal
use Rattle.hk_model.proofs.declared.Declared.read_post.Goals.{In-Ok-Some}

-- the shape is that of a post which the line says
shaped : (c : In-Ok-Some) → IsPostShapeOf (codes "post" ∷ texts_of c.args.line.now c.args.tokens.now) c.in-Ok-Some.shape
shaped c = rw c.in-Ok-Some.field-0-is at c.in-Ok-Some.ensures.shape

pub returns-in-Ok-Some-clause-ok : goal.returns-in-Ok-Some-clause-ok
returns-in-Ok-Some-clause-ok c = on_ok_weaker c.post.result
    (effect_of_post c.args.self.now c.requires.has c.requires.outside c.in-Ok-Some.shape (shaped (goal.at.returns-in-Ok-Some-clause-ok c).In-Ok-Some) c.post.new.self)
    c.post.ensures.ok

pub returns-in-Ok-Some-clause-err : goal.returns-in-Ok-Some-clause-err
returns-in-Ok-Some-clause-err c = IfErr-weaker c.post.result
    (IsPostFaultAfter c.args.self.now (plain_post c.in-Ok-Some.shape))
    (IsLineFault c.args.self.now c.args.line.now)
    (first_of_post c.args.self.now c.requires.has c.requires.outside c.in-Ok-Some.shape (shaped (goal.at.returns-in-Ok-Some-clause-err c).In-Ok-Some))
    c.post.ensures.err

pub returns-in-Ok-None-clause-err : goal.returns-in-Ok-None-clause-err
returns-in-Ok-None-clause-err c =
    let silent = rw c.in-Ok-None.field-0-is at c.in-Ok-None.ensures.none in
    post_syntax c.args.self.now c.requires.has c.requires.outside (λ post some says. silent refl post says)
