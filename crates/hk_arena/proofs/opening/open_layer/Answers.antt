use Rattle.std.proofs.Common.{◌≡◌, [], ◌∷◌, Some, length, refl, replicate, sym, ◌∙◌, ap, subst, arith}
use Rattle.hk_table.specs.Tables.{PlainRow}
use Rattle.hk_table.specs.declared.entries.Entry.TheVariants.{Live}
use Rattle.hk_arena.proofs.OpeningSteps.{layer_opened, opening_more, opening_row_is, top_fits, table_alone, table_alone-trans}
use Rattle.hk_arena.proofs.RowChanges.{IsRow-with_row, row_in-with_row}
use Rattle.hk_arena.specs.Diagrams.{DiagramLevels, IsRow, row_in, values_of}
use Rattle.hk_arena.specs.declared.ids.RowId.{RowId}
use Rattle.hk_arena.specs.inside.Openings.{opened_row}
use Rattle.hk_arena.proofs.opening.open_layer.Goals as goal

pub open_row-requires-clause-down : goal.open_row-requires-clause-down
open_row-requires-clause-down g c =
    let same = ap (λ (d : DiagramLevels). d.shape.down) c.set_rows.ensures.others in
    top_fits c.args.diagram.now.shape.down c.set_rows.new.self.shape.down c.args.down.now same c.requires.down

pub open_row-requires-clause-up : goal.open_row-requires-clause-up
open_row-requires-clause-up g c =
    let same = ap (λ (d : DiagramLevels). d.shape.up) c.set_rows.ensures.others in
    top_fits c.args.diagram.now.shape.up c.set_rows.new.self.shape.up c.args.up.now same c.requires.up

pub open_entries-requires-clause-row : goal.open_entries-requires-clause-row
open_entries-requires-clause-row g c =
    let row : RowId = record { layer = c.args.layer; at = 0 } in
    let there : IsRow c.set_rows.new.self.table row = omega (arith, c.in_ok-set_rows.ensures.ok.count) in
    subst (λ t. IsRow t row) (sym c.in_ok-open_row.ensures.table) (IsRow-with_row row c.set_rows.new.self.table (opened_row c.args.down.now c.args.up.now) there)

pub open_entries-requires-clause-long : goal.open_entries-requires-clause-long
open_entries-requires-clause-long g c =
    let layer = c.args.layer in
    let row : RowId = record { layer = layer; at = 0 } in
    let one = c.set_rows.new.self in
    let there : IsRow one.table row = omega (arith, c.in_ok-set_rows.ensures.ok.count) in
    let same : row_in c.open_row.new.diagram.table row ≡ opened_row c.args.down.now c.args.up.now (row_in one.table row) = ap (λ t. row_in t row) c.in_ok-open_row.ensures.table ∙ row_in-with_row row one.table (opened_row c.args.down.now c.args.up.now) there in
    let added = c.in_ok-set_rows.ensures.ok.added row refl (omega arith) (omega (arith, ap length (c.requires.opening.empty layer (omega arith)))) in
    let shapes = ap (λ (d : DiagramLevels). d.shape) (c.open_row.ensures.others) ∙ ap (λ (d : DiagramLevels). d.shape) c.set_rows.ensures.others in
    ap (λ (r : PlainRow). length r.entries) same ∙ added.fits.long ∙ ap (λ s. length (values_of s layer)) (sym shapes)

pub returns-clause-opening : goal.returns-clause-opening
returns-clause-opening g c =
    let layer = c.args.layer in
    let old = c.args.diagram.now in
    let one = c.set_rows.new.self in
    let two = c.open_row.new.diagram in
    let new = c.open_entries.new.diagram in
    let shapes : two.shape ≡ old.shape = ap (λ (d : DiagramLevels). d.shape) (c.open_row.ensures.others) ∙ ap (λ (d : DiagramLevels). d.shape) c.set_rows.ensures.others in
    let count = length (values_of two.shape layer) in
    let first = table_alone 1 old one c.set_rows.ensures.raised c.requires.opening.closed c.set_rows.ensures.others in
    let others = table_alone-trans old two new (table_alone-trans old one two first c.open_row.ensures.others) c.open_entries.ensures.others in
    let has = layer_opened old.shape layer count c.args.down.now c.args.up.now old.table one.table two.table new.table c.in_ok-set_rows.ensures.ok c.in_ok-open_row.ensures.table c.in_ok-open_entries.ensures.table in
    let is = opening_row_is old.shape two.shape layer c.args.down.now c.args.up.now shapes c.requires.down c.requires.up in
    opening_more layer (record { down = c.args.down.now; up = Some c.args.up.now; from = 0 ∷ []; entries = replicate count (Live 0) }) old new c.requires.opening is has others
