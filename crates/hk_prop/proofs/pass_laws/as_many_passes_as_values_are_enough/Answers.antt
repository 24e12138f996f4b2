use Rattle.hk_prop.proofs.Fuel.{same_fuel}
use Rattle.hk_prop.proofs.pass_laws.as_many_passes_as_values_are_enough.Goals as goal

pub returns : goal.returns
returns c = same_fuel
