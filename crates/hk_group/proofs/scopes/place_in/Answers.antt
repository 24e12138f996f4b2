use Rattle.hk_group.proofs.Places.{place_searched, missing_searched}
use Rattle.hk_group.proofs.scopes.place_in.Goals as goal

pub returns-in-Ok : goal.returns-in-Ok
returns-in-Ok c = place_searched c.args.scope.now c.args.variable c.in-Ok.place c.requires.rising c.in-Ok.ensures.position

pub returns-in-Err : goal.returns-in-Err
returns-in-Err c = missing_searched c.args.scope.now c.args.variable c.in-Err.field-0 c.requires.rising c.in-Err.ensures.position
