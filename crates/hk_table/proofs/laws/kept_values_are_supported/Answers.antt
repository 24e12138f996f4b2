use Rattle.hk_table.proofs.KeptValues.{kept_supported}
use Rattle.hk_table.proofs.laws.kept_values_are_supported.Goals as goal

pub returns : goal.returns
returns c = λ shape table assignment keeps level below. kept_supported keeps level below
