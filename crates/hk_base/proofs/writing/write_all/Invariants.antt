use Rattle.std.proofs.Common.{◌≡◌, ℕ, List, ◌++◌, length}
use Rattle.hk_base.specs.Hosts.{Wrote}
use Rattle.hk_base.proofs.writing.write_all.Given as goal

-- the bytes are those that went out, and then the rest, and no write has failed
abbrev pub invariant-pieces : goal.invariant-pieces
invariant-pieces g l = (front : List ℕ) × (l.fn.bytes ≡ front ++ l.rest) × Wrote l.fn.slot front (g.H.Host.view l.fn.host) (g.H.Host.view l.host) × ((g.H.Host.view l.host).write_faults ≡ (g.H.Host.view l.fn.host).write_faults)

abbrev pub decreases-pieces : goal.decreases-pieces
decreases-pieces g l = length l.rest
