use Rattle.std.proofs.Common.{arith}
use Rattle.hk_lib.proofs.LibraryBounds.{objective_fits}
use Rattle.hk_lib.proofs.LibrarySenses.{objective_graded}
use Rattle.hk_lib.proofs.Specified.{made, parts_fit, made_graded}
use Rattle.hk_lib.proofs.sums.objective.Goals as goal

pub new-requires : goal.new-requires
new-requires c = parts_fit _ _ _ _ _ (made _ c.objective_spec.ensures c.in-Ok.ensures.first) (made _ c.objective_args.ensures c.in-Ok.ensures.second) (objective_fits _ (omega arith) c.requires.coefs)

pub returns-in-Ok-clause-graded : goal.returns-in-Ok-clause-graded
returns-in-Ok-clause-graded c = made_graded _ _ _ _ _ c.new.ensures (made _ c.objective_spec.ensures c.in-Ok.ensures.first) objective_graded
