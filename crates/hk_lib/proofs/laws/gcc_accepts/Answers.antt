use Rattle.std.proofs.Common.{length}
use Rattle.hk_lib.proofs.Counts.{gcc_by_occurrences}
use Rattle.hk_lib.proofs.laws.gcc_accepts.Goals as goal

pub returns : goal.returns
returns c = λ rows best values. gcc_by_occurrences (length values) rows best values
