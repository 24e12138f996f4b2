use Rattle.std.proofs.Common.{map, sym, ◌∙◌, ap}
use Rattle.hk_trail.specs.Places.{cell_count}
use Rattle.hk_arena.specs.Diagrams.{DiagramLevels}
use Rattle.hk_arena.proofs.diagram.Diagram.pop.Goals as goal

pub returns-clause-ticks : goal.returns-clause-ticks
returns-clause-ticks g c =
    let written = c.pop.ensures.written in
    (cell_count written.0, ap (λ (v : DiagramLevels). v.numbers) (sym c.self.view_is) ∙ ap (map cell_count) written.1, written.3)
