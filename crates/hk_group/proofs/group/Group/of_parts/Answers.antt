use Rattle.std.proofs.Common.{◌↔◌, ℕ, List, Any, Contains, subst}
use Rattle.hk_group.specs.Groups.{Part}
use Rattle.hk_group.proofs.PartsMade.{group_of}
use Rattle.hk_group.proofs.group.Group.of_parts.Goals as goal

pub with_vars-requires : goal.with_vars-requires
with_vars-requires c =
    group_of c.args.parts c.in-Ok.vars c.requires.some c.requires.rules c.in-Ok.ensures.rising
    (subst (λ (parts : List Part). (variable : ℕ) → Contains c.in-Ok.vars variable ↔ Any (λ (part : Part). Contains part.scope variable) parts) c.as_slice.ensures c.in-Ok.ensures.union)
