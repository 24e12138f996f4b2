use Rattle.hk_sweep.proofs.TightGroups.{group_comes, group_fits, group_names_rows, group_within}
use Rattle.hk_sweep.proofs.tight_laws.tight_revision_fits.Goals as goal

pub returns-clause-fits : goal.returns-clause-fits
returns-clause-fits c = group_fits

pub returns-clause-within : goal.returns-clause-within
returns-clause-within c = group_within

pub returns-clause-names : goal.returns-clause-names
returns-clause-names c = group_names_rows

pub returns-clause-comes : goal.returns-clause-comes
returns-clause-comes c = group_comes
