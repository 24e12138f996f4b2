use Rattle.hk_group.proofs.laws.fitting_widths_fit_each_group.Goals as goal
use Rattle.hk_group.proofs.WidthSizes.{properties_fit_each}

pub returns-clause-entries : goal.returns-clause-entries
returns-clause-entries c = λ p width fits. fits.each

pub returns-clause-properties : goal.returns-clause-properties
returns-clause-properties c = properties_fit_each
