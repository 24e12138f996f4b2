use Rattle.std.proofs.Common.{ℕ, ◌<◌}
use Rattle.std.specs.Prelude.{slice_index}
use Rattle.hk_domains.specs.Values.{HasSeveral}
use Rattle.hk_domains.proofs.domains.Domains.first_unfixed.Given as goal

abbrev pub invariant-loop-var : goal.invariant-loop-var
invariant-loop-var l = (earlier : ℕ) → earlier < l.var → HasSeveral (slice_index l.self-inside.store.content.bits earlier) → ⊥
