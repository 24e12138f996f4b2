use Rattle.std.proofs.lemmas.List.{get_or-replicate}
use Rattle.hk_group.proofs.counting.no_counts.Goals as goal

pub returns-clause-none : goal.returns-clause-none
returns-clause-none c = λ value small. get_or-replicate 128 value 0 0 small
