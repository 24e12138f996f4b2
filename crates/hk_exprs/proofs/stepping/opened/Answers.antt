use Rattle.std.proofs.Common.{sym, subst}
use Rattle.hk_exprs.specs.inside.Standing.{AreKept, kept_empty, one_frame}
use Rattle.hk_exprs.proofs.stepping.opened.Goals as goal

pub returns : goal.returns
returns c = λ names f frames kept more. (kept_empty, subst (AreKept names _) (sym (c.in_ok-push.ensures.ok)) (one_frame kept more))
