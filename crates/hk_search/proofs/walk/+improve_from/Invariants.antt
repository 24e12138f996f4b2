use Rattle.std.proofs.Common.{◌≡◌, ◌-◌, length}
use Rattle.hk_search.specs.inside.Walks.{IsBestAfter}
use Rattle.hk_search.proofs.Walking.{BeginsBelow}
use Rattle.hk_search.proofs.walk.+improve_from.Given as goal

abbrev pub decreases-improve_from : goal.decreases-improve_from
decreases-improve_from l = length l.problem.now.domains - length l.values.now.items

abbrev pub invariant-loop-value : goal.invariant-loop-value
invariant-loop-value l = record {
  same : l.values.items ≡ l.fn.values.items;
  tried : IsBestAfter l.problem (BeginsBelow l.fn.values.items l.value) l.fn.best l.best;
}
