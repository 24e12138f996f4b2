use Rattle.std.proofs.Common.{◌≡◌}
use Rattle.hk_draft.specs.Items.{constraints_of, objective_of}
use Rattle.hk_draft.proofs.items.sort_out.Given as goal

-- the items so far are sorted out
abbrev pub invariant-loop-item : goal.invariant-loop-item
invariant-loop-item l = record {
  constraints : l.constraints ≡ constraints_of l.yielded;
  objective : l.objective ≡ objective_of l.yielded;
}
