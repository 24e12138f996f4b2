-- The counts of faults of a host in memory.
use Rattle.std.specs.Prelude.{◌≡◌, ◌↔◌, ℕ, ◌+◌, ◌<◌, ◌≤◌, ◌⊎◌, [], ◌∷◌, ◌++◌}
use Rattle.hk_base.specs.Hosts.{largest_count}
use Rattle.hk_base.specs.Memory.{Memory}

-- the counts of faults are within the largest count
abbrev pub FaultsFit : Memory → Type 0
FaultsFit m = (m.read_faults ≤ largest_count) × (m.write_faults ≤ largest_count)
