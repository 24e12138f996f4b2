use Rattle.hk_lib.proofs.WeightedSums.{sum_is_small}
use Rattle.hk_lib.proofs.states.sums_are_small.Goals as goal

pub returns-clause-least : goal.returns-clause-least
returns-clause-least c = λ coefs values each few small. (sum_is_small coefs values each few small).0

pub returns-clause-most : goal.returns-clause-most
returns-clause-most c = λ coefs values each few small. (sum_is_small coefs values each few small).1
