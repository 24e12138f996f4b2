use Rattle.std.proofs.Common.{◌≡◌, ◌<◌, ◌+◌, List, ◌∷◌, length, map, drop, get_or, arith, sym, ap, subst}
use Rattle.std.proofs.lemmas.List.{drop_more}
use Rattle.hk_arena.specs.Diagrams.{row_in, rows_of}
use Rattle.hk_arena.specs.declared.ids.RowId.{RowId}
use Rattle.hk_table.specs.Items.{layer_line}
use Rattle.hk_table.specs.Tables.{PlainRow}
use Rattle.hk_table.specs.declared.items.TraceItem.{TraceItem}
use Rattle.hk_table.specs.declared.items.TraceItem.TheVariants as item
use Rattle.hk_prop.specs.Telling.{Telling}
use Rattle.hk_prop.specs.Told.{layer_items}
use Rattle.hk_prop.proofs.TableRows.{no_row}
use Rattle.hk_prop.proofs.Tellings.{telling_starts, told_one, refused_one}
use Rattle.hk_prop.proofs.telling.tell_layer.Goals as goal

abbrev as_row : PlainRow → TraceItem
as_row row = item.Row row

pub layer-requires-clause-line : goal.layer-requires-clause-line
layer-requires-clause-line g c = let few = c.fits.ensures.few c.args.layer in layer_line (omega (arith, few, c.fits.ensures.width, c.rows-count.ensures))

pub returns-in_err-layer-clause-tells : goal.returns-in_err-layer-clause-tells
returns-in_err-layer-clause-tells g c =
    let rows = rows_of c.args.diagram.now.table c.args.layer in
    let v = g.T.Trace.view c.args.trace.now in
    let started = subst (λ n. Telling v (layer_items rows) v (item.Layer n ∷ map as_row rows)) (sym c.rows-count.ensures) (telling_starts v (layer_items rows)) in
    refused_one (map as_row rows) c.from_residual.result started c.in_err-layer.ensures.tells c.from_residual.ensures.1

pub each-init : goal.each-init
each-init g c =
    let rows = rows_of c.args.diagram.now.table c.args.layer in
    let v = g.T.Trace.view c.args.trace.now in
    let started = subst (λ n. Telling v (layer_items rows) v (item.Layer n ∷ map as_row rows)) (sym c.rows-count.ensures) (telling_starts v (layer_items rows)) in
    record { telling = told_one started c.in_ok-layer.ensures.tells; whole = c.in_ok-layer.ensures.whole }

pub returns-in_err-tell_row-clause-tells : goal.returns-in_err-tell_row-clause-tells
returns-in_err-tell_row-clause-tells g c =
    let table = c.args.diagram.now.table in
    let rows = rows_of table c.args.layer in
    let at = c.each.at in
    let v = g.T.Trace.view c.args.trace.now in
    let now = g.T.Trace.view c.each.trace in
    let within : at < length rows = omega (arith, c.each-test.true, c.each.auto.at-end, c.rows-count.ensures) in
    let left : map as_row (drop at rows) ≡ as_row (get_or rows at no_row) ∷ map as_row (drop (at + 1) rows) = ap (λ (rs : List PlainRow). map as_row rs) (drop_more rows at no_row within) in
    let row_is : as_row (get_or rows at no_row) ≡ as_row (row_in table c.row.result) = ap (λ (id : RowId). as_row (row_in table id)) (sym c.row.ensures) in
    let before = subst (λ (first : TraceItem). Telling v (layer_items rows) now (first ∷ map as_row (drop (at + 1) rows))) row_is (subst (λ (items : List TraceItem). Telling v (layer_items rows) now items) left c.each.invariant.telling) in
    refused_one (map as_row (drop (at + 1) rows)) c.from_residual-in_err-tell_row.result before c.in_err-tell_row.ensures.tells c.from_residual-in_err-tell_row.ensures.1

pub each-preserved : goal.each-preserved
each-preserved g c =
    let table = c.args.diagram.now.table in
    let rows = rows_of table c.args.layer in
    let at = c.each.at in
    let v = g.T.Trace.view c.args.trace.now in
    let now = g.T.Trace.view c.each.trace in
    let within : at < length rows = omega (arith, c.each-test.true, c.each.auto.at-end, c.rows-count.ensures) in
    let left : map as_row (drop at rows) ≡ as_row (get_or rows at no_row) ∷ map as_row (drop (at + 1) rows) = ap (λ (rs : List PlainRow). map as_row rs) (drop_more rows at no_row within) in
    let row_is : as_row (get_or rows at no_row) ≡ as_row (row_in table c.row.result) = ap (λ (id : RowId). as_row (row_in table id)) (sym c.row.ensures) in
    let before = subst (λ (first : TraceItem). Telling v (layer_items rows) now (first ∷ map as_row (drop (at + 1) rows))) row_is (subst (λ (items : List TraceItem). Telling v (layer_items rows) now items) left c.each.invariant.telling) in
    record { telling = told_one before c.in_ok-tell_row.ensures.tells; whole = c.in_ok-tell_row.ensures.whole }
