use Rattle.std.proofs.Common.{refl}
use Rattle.hk_lines.proofs.Capping.{range_item_said, number_item_said, no_item}
use Rattle.hk_lines.proofs.phrases.item_of.Goals as goal

pub returns-in-Some-clause-some : goal.returns-in-Some-clause-some
returns-in-Some-clause-some c = range_item_said c.in-Some.ensures.some

pub returns-in_err-value-clause-none : goal.returns-in_err-value-clause-none
returns-in_err-value-clause-none c = λ _. no_item (c.in_default.ensures.none refl) (c.in_err-value.ensures.none refl)

pub returns-clause-some : goal.returns-clause-some
returns-clause-some c = number_item_said (c.in_default.ensures.none refl) c.in_ok-value.ensures.some
