use Rattle.hk_terms.proofs.lookups.set_named.Goals as goal
use Rattle.hk_terms.proofs.NamePlaces.{param_at, set_param, property_at, set_property}

pub returns-in-Some-clause-some : goal.returns-in-Some-clause-some
returns-in-Some-clause-some c =
    let found = c.in-Some.ensures in
    set_param (param_at c.args.names.now c.in-Some.place found.within found.name found.kind)

pub returns-clause-some : goal.returns-clause-some
returns-clause-some c =
    let found = c.in_ok-side.ensures in
    set_property (property_at c.args.names.now c.in_ok-side.side c.in_ok-side.place found.within found.name found.form)
