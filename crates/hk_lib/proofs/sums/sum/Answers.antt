use Rattle.std.proofs.Common.{arith}
use Rattle.hk_lib.proofs.LibraryBounds.{sum_fits, word_within}
use Rattle.hk_lib.proofs.LibrarySenses.{sum_graded}
use Rattle.hk_lib.proofs.Specified.{made, parts_fit, made_graded}
use Rattle.hk_lib.proofs.sums.sum.Goals as goal

pub new-requires : goal.new-requires
new-requires c = parts_fit _ _ _ _ _ (made _ c.sum_spec.ensures c.in-Ok.ensures.first) (made _ c.sum_args.ensures c.in-Ok.ensures.second) (sum_fits _ _ _ (omega arith) c.requires.coefs (word_within c.args.least c.requires.least) (word_within c.args.most c.requires.most))

pub returns-in-Ok-clause-graded : goal.returns-in-Ok-clause-graded
returns-in-Ok-clause-graded c = made_graded _ _ _ _ _ c.new.ensures (made _ c.sum_spec.ensures c.in-Ok.ensures.first) sum_graded
