use Rattle.std.proofs.Common.{ap, ◌∙◌}
use Rattle.hk_kinds.specs.Rows.{Rows}
use Rattle.hk_kinds.proofs.LastStates.{insert_last, insert_after, not_true}
use Rattle.hk_kinds.proofs.places.take_step.Goals as goal

pub returns-then-is_last-clause-rows : goal.returns-then-is_last-clause-rows
returns-then-is_last-clause-rows c = insert_last _ _ c.requires.ascend (c.is_last.ensures.0 c.if-is_last.true)

pub returns-clause-rows : goal.returns-clause-rows
returns-clause-rows c = ap (λ (r : Rows). r.rows) c.in_ok-push.ensures.ok ∙ insert_after _ _ c.requires.ascend c.requires.after (λ last. not_true _ c.if-is_last.false (c.is_last.ensures.1 last))
