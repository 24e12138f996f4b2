use Rattle.std.proofs.Common.{◌*◌, length, ap, ◌∙◌}
use Rattle.hk_kinds.specs.Parts.{part_at}
use Rattle.hk_kinds.proofs.RowLists.{laid_within, laid_at, laid_wide}
use Rattle.hk_kinds.proofs.rows.States.at.Goals as goal

pub row_at-requires : goal.row_at-requires
row_at-requires c = laid_within _ _ _ _ _ _ c.self.view_is c.self.invariant c.requires (ap length c.as_slice.ensures.value)

pub returns-clause-row : goal.returns-clause-row
returns-clause-row c = c.of.ensures ∙ (c.row_at.ensures ∙ (ap (part_at (c.args.i * c.self.inside.width) c.self.inside.width) c.as_slice.ensures.value ∙ laid_at _ _ _ _ _ c.self.view_is c.requires))

pub returns-clause-width : goal.returns-clause-width
returns-clause-width c = ap length (returns-clause-row c) ∙ laid_wide _ _ _ _ _ c.self.view_is c.self.invariant c.requires
