use Rattle.std.proofs.Common.{◌≡◌, ℕ, ◌<◌, ◌≤◌, length}
use Rattle.std.specs.Prelude.{slice_index_or}
use Rattle.hk_group.specs.Groups.{PlainGroup}
use Rattle.hk_prop.specs.Works.{WorkView}
use Rattle.hk_prop.specs.inside.Revised.{IsRevised}
use Rattle.hk_prop.proofs.revising.revise_all.Given as goal

-- the diagrams before this one are revised, and all others are as they were
abbrev pub invariant-diagrams : goal.invariant-diagrams
invariant-diagrams g l = record {
  long : length l.work ≡ length l.fn.work;
  done : (k : ℕ) (group : PlainGroup) (w : WorkView) → k < l.at → IsRevised (slice_index_or l.round.problem.groups k group) l.round (slice_index_or l.fn.work k w) (slice_index_or l.work k w);
  left : (k : ℕ) (w : WorkView) → l.at ≤ k → k < length l.work → slice_index_or l.work k w ≡ slice_index_or l.fn.work k w;
}
