use Rattle.std.proofs.Common.{get_or, sym, ◌∙◌, ap}
use Rattle.hk_text.specs.Sets.{members}
use Rattle.hk_arena.proofs.CellCounts.{values_of-set}
use Rattle.hk_arena.proofs.layout.Layout.domain.Goals as goal

pub returns-clause-values : goal.returns-clause-values
returns-clause-values c =
    ap (λ sets. members (get_or sets c.args.layer 0)) c.domains.ensures ∙ sym (values_of-set c.args.self.now.shape c.args.layer 0 c.requires)
