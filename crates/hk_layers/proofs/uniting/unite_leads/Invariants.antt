use Rattle.std.proofs.Common.{◌≡◌, ℕ, ◌<◌, ◌⊎◌, ◌↔◌, length, drop, slice_index_or}
use Rattle.hk_base.specs.Sets.{Has}
use Rattle.hk_layers.specs.inside.Uniting.{IsUnited}
use Rattle.hk_layers.proofs.uniting.unite_leads.Given as goal

-- what the old sets and all values make together is what the sets so far and the values that are left do
abbrev pub invariant-loop-i : goal.invariant-loop-i
invariant-loop-i l = record {
  long : length l.froms ≡ length l.initial.froms;
  united : (c : ℕ) → c < length l.initial.froms → (row : ℕ) → (Has (slice_index_or l.initial.froms c 0) row ⊎ IsUnited c l.leads l.sets row) ↔ (Has (slice_index_or l.froms c 0) row ⊎ IsUnited c (drop l.i l.leads) (drop l.i l.sets) row);
}
