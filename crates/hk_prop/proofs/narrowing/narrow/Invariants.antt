use Rattle.std.proofs.Common.{◌≡◌, ◌↔◌, ℕ, ◌<◌, ◌^◌, true, length, drop, All, slice_index}
use Rattle.hk_base.specs.Sets.{Has}
use Rattle.hk_prop.specs.Supports.{all_allow}
use Rattle.hk_prop.specs.Works.{tables_of}
use Rattle.hk_prop.proofs.narrowing.narrow.Given as goal

-- what the tables allow of the sets as they were, those from this one on allow of the sets
abbrev pub invariant-groups : goal.invariant-groups
invariant-groups l = record {
  long : length l.sets ≡ length l.fn.sets;
  small : All (λ set. set < 2 ^ 128) l.sets;
  same : (variable value : ℕ) → variable < length l.fn.sets
      → (Has (slice_index l.fn.sets variable) value × (all_allow l.problem.domains l.problem.groups (tables_of l.work) variable value ≡ true))
      ↔ (Has (slice_index l.sets variable) value × (all_allow l.problem.domains (drop l.at l.problem.groups) (drop l.at (tables_of l.work)) variable value ≡ true));
}
