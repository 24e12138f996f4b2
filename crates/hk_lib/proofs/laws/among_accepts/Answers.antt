use Rattle.std.proofs.Common.{length}
use Rattle.hk_lib.proofs.Counts.{among_by_count}
use Rattle.hk_lib.proofs.laws.among_accepts.Goals as goal

pub returns : goal.returns
returns c = λ set least most best values. among_by_count (length values) set least most best values
