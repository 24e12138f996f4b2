use Rattle.std.proofs.Common.{◌≡◌, ◌≤◌, ◌<◌, ◌+◌, List, [], ◌++◌, length, drop, arith, ap, subst}
use Rattle.std.specs.List.{flat_map}
use Rattle.std.proofs.lemmas.List.{drop_all, drop_more}
use Rattle.hk_arena.specs.Diagrams.{rows_of}
use Rattle.hk_table.specs.Items.{table_line}
use Rattle.hk_table.specs.Tables.{PlainRow}
use Rattle.hk_table.specs.declared.items.TraceItem.{TraceItem}
use Rattle.hk_prop.specs.Telling.{Telling}
use Rattle.hk_prop.specs.Told.{layer_items, table_items}
use Rattle.hk_prop.proofs.TableRows.{table_long}
use Rattle.hk_prop.proofs.Tellings.{telling_starts, told_all, told_one, told_some, refused_one, refused_some}
use Rattle.hk_prop.proofs.telling.tell_table.Goals as goal

pub returns-in_err-table-clause-tells : goal.returns-in_err-table-clause-tells
returns-in_err-table-clause-tells g c =
    let table = c.args.diagram.now.table in
    let v = g.T.Trace.view c.args.trace.now in
    refused_one (flat_map layer_items table) c.from_residual.result (telling_starts v (table_items c.args.number table)) c.in_err-table.ensures.tells c.from_residual.ensures.1

pub layers-init : goal.layers-init
layers-init g c =
    let v = g.T.Trace.view c.args.trace.now in
    record { telling = told_one (telling_starts v (table_items c.args.number c.args.diagram.now.table)) c.in_ok-table.ensures.tells; whole = c.in_ok-table.ensures.whole }

pub table-requires-clause-line : goal.table-requires-clause-line
table-requires-clause-line g c = table_line (omega (arith, c.ranges.number.fits))

pub returns-in_err-tell_layer-clause-tells : goal.returns-in_err-tell_layer-clause-tells
returns-in_err-tell_layer-clause-tells g c =
    let table = c.args.diagram.now.table in
    let layer = c.layers.layer in
    let v = g.T.Trace.view c.args.trace.now in
    let now = g.T.Trace.view c.layers.trace in
    let within : layer < length table = omega (arith, c.layers-test.true, table_long c.args.diagram.now.shape table c.fits.ensures.fits, c.requires.layers, ap length c.vars.ensures.vars) in
    let left : flat_map layer_items (drop layer table) ≡ layer_items (rows_of table layer) ++ flat_map layer_items (drop (layer + 1) table) = ap (λ (t : List (List PlainRow)). flat_map layer_items t) (drop_more table layer [] within) in
    let before = subst (λ (items : List TraceItem). Telling v (table_items c.args.number table) now items) left c.layers.invariant.telling in
    refused_some (flat_map layer_items (drop (layer + 1) table)) c.from_residual-in_err-tell_layer.result before c.in_err-tell_layer.ensures.tells c.from_residual-in_err-tell_layer.ensures.1

pub layers-preserved : goal.layers-preserved
layers-preserved g c =
    let table = c.args.diagram.now.table in
    let layer = c.layers.layer in
    let v = g.T.Trace.view c.args.trace.now in
    let now = g.T.Trace.view c.layers.trace in
    let within : layer < length table = omega (arith, c.layers-test.true, table_long c.args.diagram.now.shape table c.fits.ensures.fits, c.requires.layers, ap length c.vars.ensures.vars) in
    let left : flat_map layer_items (drop layer table) ≡ layer_items (rows_of table layer) ++ flat_map layer_items (drop (layer + 1) table) = ap (λ (t : List (List PlainRow)). flat_map layer_items t) (drop_more table layer [] within) in
    let before = subst (λ (items : List TraceItem). Telling v (table_items c.args.number table) now items) left c.layers.invariant.telling in
    record { telling = told_some before c.in_ok-tell_layer.ensures.tells; whole = c.in_ok-tell_layer.ensures.whole }

pub returns-clause-tells : goal.returns-clause-tells
returns-clause-tells g c =
    let table = c.args.diagram.now.table in
    let v = g.T.Trace.view c.args.trace.now in
    let past : length table ≤ c.layers.layer = omega (arith, c.layers-test.false, table_long c.args.diagram.now.shape table c.fits.ensures.fits, c.requires.layers, ap length c.vars.ensures.vars) in
    let none : flat_map layer_items (drop c.layers.layer table) ≡ [] = ap (λ (t : List (List PlainRow)). flat_map layer_items t) (drop_all c.layers.layer table past) in
    told_all (subst (λ (items : List TraceItem). Telling v (table_items c.args.number table) (g.T.Trace.view c.layers.trace) items) none c.layers.invariant.telling)
