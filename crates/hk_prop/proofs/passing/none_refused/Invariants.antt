use Rattle.std.proofs.Common.{ℕ, ◌<◌}
use Rattle.std.specs.Prelude.{slice_index_or, IsFalse}
use Rattle.hk_prop.specs.Works.{WorkView}
use Rattle.hk_prop.proofs.passing.none_refused.Given as goal

-- no diagram before this one was refused
abbrev pub invariant-diagrams : goal.invariant-diagrams
invariant-diagrams l = (k : ℕ) (w : WorkView) → k < l.at → IsFalse (slice_index_or l.work k w).refused
