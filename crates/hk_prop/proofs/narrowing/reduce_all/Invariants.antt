use Rattle.std.proofs.Common.{◌≡◌, ℕ, ◌<◌, ◌≤◌, length, slice_index}
use Rattle.hk_prop.proofs.narrowing.reduce_all.Given as goal

-- the domains before this one are the sets, and the others are as they were
abbrev pub invariant-variables : goal.invariant-variables
invariant-variables l = record {
  long : length l.domains.sets ≡ length l.sets;
  done : (k : ℕ) → k < l.variable → slice_index l.domains.sets k ≡ slice_index l.sets k;
  left : (k : ℕ) → l.variable ≤ k → slice_index l.domains.sets k ≡ slice_index l.fn.domains.sets k;
  stack : l.domains.stack ≡ l.fn.domains.stack;
}
