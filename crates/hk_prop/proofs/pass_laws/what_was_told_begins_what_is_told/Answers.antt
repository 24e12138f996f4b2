use Rattle.hk_prop.proofs.Fronts.{front_further, front_more, front_of_items}
use Rattle.hk_prop.proofs.pass_laws.what_was_told_begins_what_is_told.Goals as goal

pub returns-clause-more : goal.returns-clause-more
returns-clause-more c = front_more

pub returns-clause-front : goal.returns-clause-front
returns-clause-front c = front_of_items

pub returns-clause-further : goal.returns-clause-further
returns-clause-further c = front_further
