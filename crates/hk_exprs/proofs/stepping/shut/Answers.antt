use Rattle.hk_exprs.proofs.FramesKept.{ok_then}
use Rattle.hk_exprs.proofs.StepsTaken.{shut_outmost, shut_none, shut_read, shut_unread}
use Rattle.hk_exprs.proofs.stepping.shut.Goals as goal

pub closed-requires : goal.closed-requires
closed-requires c = record { few = c.requires.few; kept = c.requires.kept }

pub received-requires : goal.received-requires
received-requires c = record { few = c.requires.few }

pub returns-in_default : goal.returns-in_default
returns-in_default c = record { some = tt; none = λ _ f frames texts rest kept are is. shut_outmost are c.in_default.ensures.none.0 is }

pub returns-in-Ok-Some : goal.returns-in-Ok-Some
returns-in-Ok-Some c = record {
  some = ok_then c.received.result (λ next got. shut_read _ c.in-Some.ensures.some c.in-Ok-Some.ensures c.in-Ok-Some.field-0-is next got) c.received.ensures;
  none = ok_then c.received.result (λ next got none. shut_unread _ c.in-Some.ensures.some c.in-Ok-Some.ensures c.in-Ok-Some.field-0-is next got none) c.received.ensures;
}

pub returns-in-Ok-None : goal.returns-in-Ok-None
returns-in-Ok-None c = record { some = tt; none = λ _ f frames texts rest kept are is. shut_none (c.in-Ok-None.ensures f kept) c.in-Ok-None.field-0-is is }
