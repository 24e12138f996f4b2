use Rattle.hk_lib.proofs.LibraryRules.{objective_rules}
use Rattle.hk_lib.proofs.Specified.{made, halves_specified}
use Rattle.hk_lib.proofs.sums.objective_spec.Goals as goal

pub spec_of-requires : goal.spec_of-requires
spec_of-requires c = halves_specified _ _ _ _ (made _ c.objective_names.ensures c.in-Ok.ensures.first) (made _ c.objective_rules.ensures c.in-Ok.ensures.second) objective_rules
