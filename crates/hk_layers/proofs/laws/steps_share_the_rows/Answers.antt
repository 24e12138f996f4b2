use Rattle.hk_layers.proofs.Shares.{row_below, row_reached}
use Rattle.hk_layers.proofs.laws.steps_share_the_rows.Goals as goal

pub returns-clause-within : goal.returns-clause-within
returns-clause-within c = λ width count place some below. row_below width count place some below

pub returns-clause-reached : goal.returns-clause-reached
returns-clause-reached c = λ width count row some below. row_reached width count row some below
