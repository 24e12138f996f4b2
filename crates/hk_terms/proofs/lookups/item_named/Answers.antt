use Rattle.hk_terms.proofs.lookups.item_named.Goals as goal
use Rattle.hk_terms.proofs.NamePlaces.{param_at, item_param}

pub returns-clause-some : goal.returns-clause-some
returns-clause-some c =
    let found = c.in_ok-place.ensures in
    item_param (param_at c.args.names.now c.in_ok-place.place found.within found.name found.kind)
