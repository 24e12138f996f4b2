use Rattle.hk_group.proofs.GroupScopes.{valid_few_of}
use Rattle.hk_group.proofs.widths.properties_fit.Goals as goal

pub all_properties-requires-clause-short : goal.all_properties-requires-clause-short
all_properties-requires-clause-short c = valid_few_of c.args.problem.now c.groups.result.now c.groups.ensures.valid c.groups.ensures.groups
