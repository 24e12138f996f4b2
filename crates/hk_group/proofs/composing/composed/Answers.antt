use Rattle.std.proofs.Common.{◌<◌, length, sym, subst}
use Rattle.hk_group.proofs.PartsMade.{some_parts}
use Rattle.hk_group.proofs.composing.composed.Goals as goal

pub of_parts-requires-clause-some : goal.of_parts-requires-clause-some
of_parts-requires-clause-some c = subst (λ parts. 0 < length parts) (sym c.in_ok-parts.ensures.parts) (some_parts c.args.specs.now c.args.scopes.now c.requires.some c.requires.lengths)
