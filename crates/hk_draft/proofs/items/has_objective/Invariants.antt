use Rattle.std.proofs.Common.{◌≡◌, drop}
use Rattle.hk_draft.specs.Items.{objective_of}
use Rattle.hk_draft.proofs.items.has_objective.Given as goal

-- the objective is among what is left, where there is one
abbrev pub invariant-loop-item : goal.invariant-loop-item
invariant-loop-item l = objective_of l.items ≡ objective_of (drop l.item-index l.items)
