use Rattle.hk_kinds.proofs.KeyLaws.{keys_sort}
use Rattle.hk_kinds.proofs.keys.sorted_keys.Goals as goal

pub returns : goal.returns
returns c = keys_sort _ _ _ c.in_ok-keys.ensures c.sort_unstable.ensures.permutation c.sort_unstable.ensures.sorted
