use Rattle.std.proofs.Common.{◌≡◌, ◌<◌, [], length, refl, sym, ◌∙◌, ap, subst, arith}
use Rattle.hk_arena.proofs.CellCounts.{values_of-some}
use Rattle.hk_arena.proofs.OpeningSteps.{filled, filled_all, filled_more, filled_none, table_alone, table_alone-trans}
use Rattle.hk_arena.proofs.RowChanges.{IsRow-with_row}
use Rattle.hk_arena.specs.Changes.{with_row}
use Rattle.hk_arena.specs.Diagrams.{DiagramLevels, IsEntry, IsRow, values_of}
use Rattle.hk_arena.proofs.opening.open_entries.Goals as goal

pub loop-at-init : goal.loop-at-init
loop-at-init g c = record { table = filled_none c.args.row c.args.diagram.now.table; others = refl }

pub set_entry-requires : goal.set_entry-requires
set_entry-requires g c =
    let old = c.args.diagram.now in
    let row = c.args.row in
    let at = c.loop-at.at in
    let within : at < length (values_of old.shape row.layer) = omega (arith, c.values-at-end.ensures) in
    let same : c.loop-at.diagram.shape ≡ old.shape = ap (λ (d : DiagramLevels). d.shape) c.loop-at.invariant.others in
    subst (λ shape. IsEntry shape c.loop-at.diagram.table (record { row = row; at = at })) (sym same)
    (record {
      row = subst (λ t. IsRow t row) (sym c.loop-at.invariant.table) (IsRow-with_row row old.table (filled at) c.requires.row);
      layer = values_of-some old.shape row.layer at within;
      place = within;
    })

pub loop-at-preserved : goal.loop-at-preserved
loop-at-preserved g c =
    let first = c.args.diagram.now in
    let old = c.loop-at.diagram in
    let new = c.set_entry.new.self in
    let closed : old.numbers ≡ [] = ap (λ (d : DiagramLevels). d.numbers) c.loop-at.invariant.others ∙ c.requires.closed in
    let entry = ap (λ (d : DiagramLevels). d.table) c.in_ok-set_entry.ensures.ok in
    let others : new ≡ record old { table = new.table; numbers = new.numbers } = c.in_ok-set_entry.ensures.ok ∙ ap (λ t. record old { table = t; numbers = new.numbers }) (sym entry) in record {
      table = filled_more c.args.row first.table c.loop-at.at old.table new.table (omega (arith, c.requires.long, c.values-at-end.ensures)) c.loop-at.invariant.table entry;
      others = table_alone-trans first old new c.loop-at.invariant.others (table_alone 1 old new c.set_entry.ensures.raised closed others);
    }

pub returns-clause-table : goal.returns-clause-table
returns-clause-table g c =
    let old = c.args.diagram.now in
    let row = c.args.row in
    let count = length (values_of old.shape row.layer) in
    let all : c.loop-at.at ≡ count = omega (arith, c.values-at-end.ensures) in
    c.loop-at.invariant.table ∙ ap (λ n. with_row row (filled n) old.table) all ∙ filled_all row old.table count (omega (arith, c.requires.long))
