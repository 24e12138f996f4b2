use Rattle.std.proofs.Common.{◌<◌, length, arith}
use Rattle.hk_table.proofs.Supported.{support_more}
use Rattle.hk_table.specs.Tables.{layer_values}
use Rattle.hk_arena.proofs.SupportSteps.{rows_first, values_first}
use Rattle.hk_arena.specs.Diagrams.{rows_of, values_of}
use Rattle.hk_arena.specs.Cells.{table_of}
use Rattle.hk_arena.proofs.support.support.Goals as goal

pub loop-layer-preserved : goal.loop-layer-preserved
loop-layer-preserved c =
    let form = c.args.layout.now in
    let content = c.args.store.now.content in
    let table = table_of form content in
    let layer = c.loop-layer.layer in
    let found = c.layer_support-found.result in
    let within : layer < length form.shape.domains = omega (arith, c.layers-layer-end.ensures) in
    support_more (layer_values form.shape) table c.loop-layer.out layer c.loop-layer.reached found.values found.rows (values_of form.shape layer) (rows_of table layer) (omega (arith, c.requires.places)) (values_first form.shape layer within) (rows_first form content layer (omega arith)) c.layer_support-found.ensures
    c.loop-layer.invariant
