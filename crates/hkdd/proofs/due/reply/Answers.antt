use Rattle.hkdd.proofs.Replies.{answered, refuses, too_large}
use Rattle.hkdd.proofs.due.reply.Goals as goal

pub returns-then-model-gt-MODEL_BYTES : goal.returns-then-model-gt-MODEL_BYTES
returns-then-model-gt-MODEL_BYTES c = too_large _ _ _ c.if-model-gt-MODEL_BYTES.true c.in_ok-due.ensures.status c.in_ok-due.ensures.text

pub returns-in-Ok : goal.returns-in-Ok
returns-in-Ok c = answered _ _ _ c.if-model-gt-MODEL_BYTES.false c.in-Ok.ensures.spells c.answered-answer.ensures.status c.answered-answer.ensures.text

pub returns-in_ok-due-in-Err-Refused : goal.returns-in_ok-due-in-Err-Refused
returns-in_ok-due-in-Err-Refused c = refuses _ _ _ _ _ c.if-model-gt-MODEL_BYTES.false (rw c.in-Err-Refused.field-0-is at c.in-Err-Refused.ensures.refused) c.in_ok-due-in-Err-Refused.ensures.status c.in_ok-due-in-Err-Refused.ensures.text
