use Rattle.std.proofs.Common.{length, ◌≤◌, subst}
use Rattle.hk_table.specs.Fits.{Fits}
use Rattle.hk_arena.proofs.Fitting.{few_rows, table_fits}
use Rattle.hk_arena.specs.Diagrams.{DiagramLevels, rows_of}
use Rattle.hk_arena.proofs.diagram.Diagram.fits.Goals as goal

pub returns-clause-fits : goal.returns-clause-fits
returns-clause-fits c =
    subst (λ (v : DiagramLevels). Fits v.shape v.table) c.self.view_is (table_fits c.self.inside.layout c.self.inside.store.content c.self.invariant.0)

pub returns-clause-few : goal.returns-clause-few
returns-clause-few c = λ layer.
    subst (λ (v : DiagramLevels). length (rows_of v.table layer) ≤ v.width) c.self.view_is (few_rows c.self.inside.layout c.self.inside.store.content layer c.self.invariant.0)
