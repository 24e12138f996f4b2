use Rattle.std.proofs.Common.{◌≡◌, ◌+◌, ◌<◌, ◌≤◌, All, length, take, drop, reverse, vec_len, vec_capacity}
use Rattle.hk_trail.specs.Log.{undone}
use Rattle.hk_trail.proofs.replay.replay.Given as goal

abbrev pub invariant-entries : goal.invariant-entries
invariant-entries g l = record {
  counted : l.left ≤ length l.log.items;
  within : All (λ entry. entry.id < length l.cells) l.log.items;
  stamped : length l.cells ≤ length l.stamps.items;
  size : length l.cells ≡ length l.initial.cells;
  cells : undone (λ entry. entry.value) (take l.left (reverse l.log.items)) l.cells ≡ undone (λ entry. entry.value) (take l.count (reverse l.initial.log.items)) l.initial.cells;
  stamps : undone (λ entry. entry.stamp) (take l.left (reverse l.log.items)) l.stamps.items ≡ undone (λ entry. entry.stamp) (take l.count (reverse l.initial.log.items)) l.initial.stamps.items;
  log : drop l.left (reverse l.log.items) ≡ drop l.count (reverse l.initial.log.items);
  capacity : vec_capacity l.log ≡ vec_capacity l.initial.log;
  shorter : vec_len l.log ≤ vec_len l.initial.log;
  ticks : l.steps + l.left ≡ l.initial.steps + l.count;
}

abbrev pub decreases-entries : goal.decreases-entries
decreases-entries g l = l.left
