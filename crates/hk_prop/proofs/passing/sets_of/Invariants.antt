use Rattle.std.proofs.Common.{◌≡◌, take}
use Rattle.hk_prop.proofs.passing.sets_of.Given as goal

-- the sets of the domains before this one
abbrev pub invariant-domains : goal.invariant-domains
invariant-domains l = l.sets.items ≡ take l.variable l.domains.sets
