use Rattle.std.proofs.Common.{sym, ◌∙◌, true≢false}
use Rattle.hk_model.proofs.Openings.{opening_syntax}
use Rattle.hk_model.proofs.declared.Declared.open.Goals as goal

pub returns-then-not-is_started-clause-err : goal.returns-then-not-is_started-clause-err
returns-then-not-is_started-clause-err c = opening_syntax c.args.self.now c.requires.has c.requires.begins.1 c.requires.outside
    (λ name params some says. true≢false (sym (c.is_started.ensures.1 some) ∙ c.if-not-is_started.true))
