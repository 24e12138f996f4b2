use Rattle.std.proofs.Common.{◌≡◌, ◌++◌, map, drop}
use Rattle.hk_layers.specs.inside.Uniting.{lead_of_fate}
use Rattle.hk_layers.proofs.uniting.lead_fates.Given as goal

-- all leads are those so far and those of the fates that are left
abbrev pub invariant-loop-i : goal.invariant-loop-i
invariant-loop-i l = map (lead_of_fate l.width l.count l.places) l.fates ≡ l.leads.items ++ map (lead_of_fate l.width l.count l.places) (drop l.i l.fates)
