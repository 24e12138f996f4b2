use Rattle.std.proofs.Common.{◌≡◌, ◌+◌, ◌<◌, List, length, get_or, drop, arith, sym, ap, ◌∙◌, subst}
use Rattle.hk_group.specs.Groups.{PlainGroup}
use Rattle.hk_sweep.specs.Loose.{group_shape}
use Rattle.hk_sweep.proofs.Shapes.{layer_sets_long}
use Rattle.hk_table.specs.Tables.{PlainShape}
use Rattle.hk_prop.specs.Contents.{PlainTable}
use Rattle.hk_prop.specs.Telling.{Telling}
use Rattle.hk_prop.specs.Told.{tables_items}
use Rattle.hk_prop.specs.Works.{WorkView, tables_of}
use Rattle.hk_prop.proofs.WorkTables.{tables_first}
use Rattle.hk_prop.proofs.Tellings.{told_some, refused_some}
use Rattle.hk_prop.proofs.telling.tell_tables.Goals as goal

pub tell_table-requires-clause-up : goal.tell_table-requires-clause-up
tell_table-requires-clause-up g c =
    let p = c.args.problem.now in
    let at = c.tables.at in
    let own = c.index-groups-at.result in
    let w = c.index-work-at.result in
    let inside : at < length c.args.work.now = omega (arith, c.tables-test.true, c.tables.auto.at-end) in
    let group_is : own ≡ get_or p.groups at own = c.index-groups-at.is ∙ ap (λ (gs : List PlainGroup). get_or gs at own) c.groups-groups.ensures.groups in
    let shape : c.work.inside.diagram.shape ≡ group_shape own p.domains =
    ap (λ (v : WorkView). v.diagram.shape) (c.work.view_is ∙ c.index-work-at.is) ∙ (c.requires.shapes at own w inside ∙ ap (λ (group : PlainGroup). group_shape group p.domains) (sym group_is)) in
    ap (λ (s : PlainShape). s.up) shape

pub tell_table-requires-clause-layers : goal.tell_table-requires-clause-layers
tell_table-requires-clause-layers g c =
    let p = c.args.problem.now in
    let at = c.tables.at in
    let own = c.index-groups-at.result in
    let w = c.index-work-at.result in
    let inside : at < length c.args.work.now = omega (arith, c.tables-test.true, c.tables.auto.at-end) in
    let group_is : own ≡ get_or p.groups at own = c.index-groups-at.is ∙ ap (λ (gs : List PlainGroup). get_or gs at own) c.groups-groups.ensures.groups in
    let shape : c.work.inside.diagram.shape ≡ group_shape own p.domains =
    ap (λ (v : WorkView). v.diagram.shape) (c.work.view_is ∙ c.index-work-at.is) ∙ (c.requires.shapes at own w inside ∙ ap (λ (group : PlainGroup). group_shape group p.domains) (sym group_is)) in
    ap (λ (s : PlainShape). length s.domains) shape ∙ layer_sets_long own p.domains

pub returns-in_err-tell_table-clause-tells : goal.returns-in_err-tell_table-clause-tells
returns-in_err-tell_table-clause-tells g c =
    let works = c.args.work.now in
    let at = c.tables.at in
    let w = c.index-work-at.result in
    let v = g.T.Trace.view c.args.trace.now in
    let now = g.T.Trace.view c.tables.trace in
    let table : PlainTable = c.work.inside.diagram.table in
    let inside : at < length works = omega (arith, c.tables-test.true, c.tables.auto.at-end) in
    let first = tables_first works at w table inside c.index-work-at.is (ap (λ (x : WorkView). x.diagram.table) c.work.view_is) in
    let before = subst (λ (tables : List PlainTable). Telling v (tables_items 1 (tables_of works)) now (tables_items (at + 1) tables)) first c.tables.invariant.telling in
    refused_some (tables_items (at + 1 + 1) (drop (at + 1) (tables_of works))) c.from_residual.result before c.in_err-tell_table.ensures.tells c.from_residual.ensures.1

pub tables-preserved : goal.tables-preserved
tables-preserved g c =
    let works = c.args.work.now in
    let at = c.tables.at in
    let w = c.index-work-at.result in
    let v = g.T.Trace.view c.args.trace.now in
    let now = g.T.Trace.view c.tables.trace in
    let table : PlainTable = c.work.inside.diagram.table in
    let inside : at < length works = omega (arith, c.tables-test.true, c.tables.auto.at-end) in
    let first = tables_first works at w table inside c.index-work-at.is (ap (λ (x : WorkView). x.diagram.table) c.work.view_is) in
    let before = subst (λ (tables : List PlainTable). Telling v (tables_items 1 (tables_of works)) now (tables_items (at + 1) tables)) first c.tables.invariant.telling in
    record { telling = told_some before c.in_ok-tell_table.ensures.tells; whole = c.in_ok-tell_table.ensures.whole }
