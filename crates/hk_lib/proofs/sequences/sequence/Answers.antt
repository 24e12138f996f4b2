use Rattle.std.proofs.Common.{arith}
use Rattle.hk_lib.proofs.LibraryBounds.{sequence_fits, word_within}
use Rattle.hk_lib.proofs.LibrarySenses.{sequence_graded}
use Rattle.hk_lib.proofs.Specified.{made, parts_fit, made_graded}
use Rattle.hk_lib.proofs.sequences.sequence.Goals as goal

pub new-requires : goal.new-requires
new-requires c = parts_fit _ _ _ _ _ (made _ c.spec.ensures c.in-Ok.ensures.first) (made _ c.counting_args.ensures c.in-Ok.ensures.second) (sequence_fits _ _ _ _ _ (omega arith) c.requires.some c.requires.few (omega arith) (word_within c.args.least c.requires.least) (word_within c.args.most c.requires.most))

pub returns-in-Ok-clause-graded : goal.returns-in-Ok-clause-graded
returns-in-Ok-clause-graded c = made_graded _ _ _ _ _ c.new.ensures (made _ c.spec.ensures c.in-Ok.ensures.first) (sequence_graded c.args.window)
