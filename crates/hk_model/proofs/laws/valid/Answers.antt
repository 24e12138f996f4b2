use Rattle.hk_model.proofs.GoodLines.{spelled_valid}
use Rattle.hk_model.proofs.laws.valid.Goals as goal

pub returns : goal.returns
returns c = spelled_valid
