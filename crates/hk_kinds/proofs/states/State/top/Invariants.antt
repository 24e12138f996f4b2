use Rattle.std.proofs.Common.{◌≡◌, ◌++◌, drop}
use Rattle.hk_kinds.specs.Tops.{top_state}
use Rattle.hk_kinds.proofs.states.State.top.Given as goal

-- the top state is what is pushed so far, and then that of the rest
abbrev pub invariant-loop-kind : goal.invariant-loop-kind
invariant-loop-kind l = top_state l.kind-items ≡ l.state ++ top_state (drop l.kind-index l.kind-items)
