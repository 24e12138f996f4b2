use Rattle.hk_terms.proofs.lookups.high_named.Goals as goal
use Rattle.hk_terms.proofs.NamePlaces.{property_at, high_property}

pub returns-clause-some : goal.returns-clause-some
returns-clause-some c =
    let found = c.in_ok-side.ensures in
    high_property (property_at c.args.names.now c.in_ok-side.side c.in_ok-side.place found.within found.name found.form)
