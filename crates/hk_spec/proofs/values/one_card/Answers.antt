use Rattle.std.proofs.Common.{sym, ◌∙◌}
use Rattle.hk_spec.proofs.CommonBits.{ones_of_common}
use Rattle.hk_spec.proofs.values.one_card.Goals as goal

pub returns : goal.returns
returns c = c.bit_of.ensures ∙ sym (ones_of_common c.args.set c.args.value)
