use Rattle.std.proofs.Common.{subst}
use Rattle.std.proofs.lemmas.Result.{IfOk-weaker}
use Rattle.hkdd.specs.Runs.{IsReply, due_reply}
use Rattle.hkdd.proofs.Endings.{usage_due, read_fault_due}
use Rattle.hkdd.proofs.run.decide.Goals as goal

pub returns-in_default-clause-due : goal.returns-in_default-clause-due
returns-in_default-clause-due g c = usage_due _ _ c.in_default.ensures.none c.in_ok-due.ensures.status c.in_ok-due.ensures.text

pub returns-in-Ok-clause-due : goal.returns-in-Ok-clause-due
returns-in-Ok-clause-due g c = IfOk-weaker c.reply-answer.result _ _
    (λ due is. due_reply c.in-Some.ensures.solve c.in-Ok.ensures.read (subst (λ bytes. IsReply bytes due.status due.text) c.as_slice.ensures is))
    c.reply-answer.ensures

pub returns-in_ok-due-in-Err-Failed-clause-due : goal.returns-in_ok-due-in-Err-Failed-clause-due
returns-in_ok-due-in-Err-Failed-clause-due g c =
    let stopped = rw c.in-Err-Failed.field-0-is at c.in-Err-Failed.ensures.stopped in
    read_fault_due _ _ c.in-Some.ensures.solve stopped c.in_ok-due-in-Err-Failed.ensures.status c.in_ok-due-in-Err-Failed.ensures.text
