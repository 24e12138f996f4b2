use Rattle.hk_lib.proofs.LibraryRules.{sum_rules}
use Rattle.hk_lib.proofs.Specified.{made, halves_specified}
use Rattle.hk_lib.proofs.sums.sum_spec.Goals as goal

pub spec_of-requires : goal.spec_of-requires
spec_of-requires c = halves_specified _ _ _ _ (made _ c.sum_names.ensures c.in-Ok.ensures.first) (made _ c.sum_rules.ensures c.in-Ok.ensures.second) sum_rules
