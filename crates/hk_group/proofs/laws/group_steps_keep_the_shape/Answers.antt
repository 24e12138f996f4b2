use Rattle.std.proofs.Common.{slice_index}
use Rattle.hk_group.proofs.PartsRevised.{down_of_shape, up_of_shape, initial_down_shape, initial_up_shape}
use Rattle.hk_group.proofs.laws.group_steps_keep_the_shape.Goals as goal

pub returns-clause-initial_down : goal.returns-clause-initial_down
returns-clause-initial_down c = λ g rules. initial_down_shape g.parts rules.parts

pub returns-clause-initial_up : goal.returns-clause-initial_up
returns-clause-initial_up c = λ g rules. initial_up_shape g.parts rules.parts

pub returns-clause-down : goal.returns-clause-down
returns-clause-down c = λ g layer value state rules small h. down_of_shape (slice_index g.vars layer) value small g.parts rules.parts state h

pub returns-clause-up : goal.returns-clause-up
returns-clause-up c = λ g layer value state rules small h. up_of_shape (slice_index g.vars layer) value small g.parts rules.parts state h
