use Rattle.std.proofs.Common.{sym, ◌∙◌}
use Rattle.std.proofs.lemmas.List.Elements.{All-head, All-rest, All-same}
use Rattle.hk_trail.specs.Pools.{Content}
use Rattle.hk_domains.specs.Domains.{AreSets}
use Rattle.hk_domains.proofs.domains.Domains.pop.Goals as goal

pub invariant_of-self : goal.invariant_of-self
invariant_of-self c =
    let P : Content → Type 0 = λ content. AreSets content.bits in
    record {
      size = c.pop.ensures.sizes.bits ∙ c.self.invariant.size;
      sets = All-head P _ _ (All-same P _ _ (sym c.pop.ensures.stack) c.self.invariant.saved);
      saved = All-rest P _ _ _ c.pop.ensures.stack c.self.invariant.saved;
    }
