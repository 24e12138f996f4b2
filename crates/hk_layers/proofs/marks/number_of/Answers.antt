use Rattle.std.proofs.Common.{refl, ap}
use Rattle.hk_kinds.specs.Rows.{Rows}
use Rattle.hk_layers.specs.inside.Marked.{again, added}
use Rattle.hk_layers.proofs.marks.number_of.Goals as goal

pub returns-in-Some-clause-number : goal.returns-in-Some-clause-number
returns-in-Some-clause-number c = again c.in-Some.ensures.found refl

pub returns-in_ok-push-in-None-clause-number : goal.returns-in_ok-push-in-None-clause-number
returns-in_ok-push-in-None-clause-number c = added c.in-None.ensures.alone c.len-number.ensures (ap (λ (r : Rows). r.rows) c.in_ok-push-in-None.ensures.ok)
