use Rattle.hk_kinds.proofs.StateLaws.{StateCovers-test}
use Rattle.hk_kinds.proofs.laws.test_of_covering.Goals as goal

pub returns : goal.returns
returns c = StateCovers-test
