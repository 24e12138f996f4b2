use Rattle.hk_lib.proofs.LibraryRules.{alldifferent_rules}
use Rattle.hk_lib.proofs.Specified.{made, halves_specified}
use Rattle.hk_lib.proofs.distinct.spec.Goals as goal

pub spec_of-requires : goal.spec_of-requires
spec_of-requires c = halves_specified _ _ _ _ (made _ c.names.ensures c.in-Ok.ensures.first) (made _ c.rules.ensures c.in-Ok.ensures.second) alldifferent_rules
