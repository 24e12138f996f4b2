use Rattle.hk_model.proofs.Outcomes.{one_problem, no_refusal, one_refusal, some_outcome}
use Rattle.hk_model.proofs.laws.one_outcome.Goals as goal

pub returns : goal.returns
returns c = record {
  problem = one_problem;
  apart = no_refusal;
  refusal = one_refusal;
  some = some_outcome;
}
