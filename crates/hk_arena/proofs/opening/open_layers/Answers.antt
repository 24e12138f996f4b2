use Rattle.std.proofs.Common.{◌≡◌, suc, length, ◌∙◌, ap, subst, arith}
use Rattle.hk_table.specs.Opening.{opening_table}
use Rattle.hk_table.specs.Tables.{PlainShape}
use Rattle.hk_arena.proofs.OpeningSteps.{opening_all}
use Rattle.hk_arena.specs.Diagrams.{DiagramLevels}
use Rattle.hk_arena.specs.inside.Openings.{IsOpening}
use Rattle.hk_arena.proofs.opening.open_layers.Goals as goal

pub returns-clause-table : goal.returns-clause-table
returns-clause-table g c =
    let diagram = c.loop-layer.diagram in
    let shapes : diagram.shape ≡ c.args.diagram.now.shape = ap (λ (d : DiagramLevels). d.shape) c.loop-layer.invariant.others in
    let all : c.loop-layer.layer ≡ suc (length diagram.shape.domains) = omega (arith, c.layers-layer-end.ensures, ap (λ (s : PlainShape). length s.domains) shapes) in
    opening_all diagram (subst (λ n. IsOpening n diagram) all c.loop-layer.invariant.opening) ∙ ap opening_table shapes
