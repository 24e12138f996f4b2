use Rattle.hk_table.specs.inside.Reaching.{LayerLeads}
use Rattle.hk_table.specs.TakenIn.{TakesIn}
use Rattle.hk_table.proofs.support.layer_support.Given as goal
use Rattle.hk_text.specs.Sets.{members}

-- the steps of the reached rows before this one are taken in
abbrev pub invariant-loop-at : goal.invariant-loop-at
invariant-loop-at l = TakesIn (LayerLeads (members l.domain) l.rows l.reached l.at) 0 0 l.found.values l.found.rows
