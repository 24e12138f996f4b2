use Rattle.hk_group.proofs.GroupScopes.{valid_scopes_of}
use Rattle.hk_group.proofs.widths.entries_fit.Goals as goal

pub each_fits-requires-clause-scopes : goal.each_fits-requires-clause-scopes
each_fits-requires-clause-scopes c = valid_scopes_of c.args.problem.now c.groups-groups.result.now c.domains-domains.result.now c.groups-groups.ensures.valid c.groups-groups.ensures.groups c.domains-domains.ensures.domains

pub all_values-requires-clause-scopes : goal.all_values-requires-clause-scopes
all_values-requires-clause-scopes c = valid_scopes_of c.args.problem.now c.groups-groups.result.now c.domains-domains.result.now c.groups-groups.ensures.valid c.groups-groups.ensures.groups c.domains-domains.ensures.domains
