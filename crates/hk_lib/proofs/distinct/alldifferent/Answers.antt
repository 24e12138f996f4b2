use Rattle.std.proofs.Common.{arith}
use Rattle.hk_lib.proofs.LibraryBounds.{alldifferent_fits}
use Rattle.hk_lib.proofs.LibrarySenses.{alldifferent_graded}
use Rattle.hk_lib.proofs.Specified.{parts_fit, made_graded}
use Rattle.hk_lib.proofs.distinct.alldifferent.Goals as goal

pub new-requires-in-Ok : goal.new-requires-in-Ok
new-requires-in-Ok c = parts_fit _ _ _ _ _ c.in-Ok.ensures c.new.ensures (alldifferent_fits _ (omega arith))

pub returns-in-Ok-clause-graded : goal.returns-in-Ok-clause-graded
returns-in-Ok-clause-graded c = made_graded _ _ _ _ _ c.new-in-Ok.ensures c.in-Ok.ensures alldifferent_graded
