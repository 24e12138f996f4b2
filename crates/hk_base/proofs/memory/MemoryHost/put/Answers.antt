use Rattle.std.proofs.Common.{refl}
use Rattle.std.proofs.lemmas.List.{reverse-append}
use Rattle.hk_base.proofs.InputLaws.{IsWithin-append, left_of-append}
use Rattle.hk_base.proofs.memory.MemoryHost.put.Goals as goal

pub invariant_of-self-2 : goal.invariant_of-self-2
invariant_of-self-2 c = rw c.in_ok-push.ensures.ok (IsWithin-append _ _ _ c.self.invariant.0, IsWithin-append _ _ _ c.self.invariant.1)

pub returns-clause-ok : goal.returns-clause-ok
returns-clause-ok c =
    rw (c.in_ok-push.ensures.ok, reverse-append, left_of-append _ _ c.self.inside.model c.self.invariant.0, left_of-append _ _ c.self.inside.cert_in c.self.invariant.1, c.in_ok-input.ensures, c.as_bytes.ensures.value, ← c.self.view_is) refl
