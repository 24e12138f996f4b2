use Rattle.std.proofs.Common.{◌≡◌, ◌<◌, ◌++◌, ◌∷◌, [], List, length, get_or, arith, sym, ap, ap₂, ◌∙◌}
use Rattle.std.specs.Prelude.{slice_index_or}
use Rattle.std.proofs.lemmas.List.{take_all, take_more}
use Rattle.hk_arena.specs.Diagrams.{row_in}
use Rattle.hk_arena.specs.declared.ids.EntryId.{EntryId}
use Rattle.hk_table.specs.declared.entries.Entry.{Entry}
use Rattle.hk_table.specs.declared.entries.Entry.TheVariants.{Gone}
use Rattle.hk_prop.proofs.TableRows.{row_fits}
use Rattle.hk_prop.proofs.telling.entries_of.Goals as goal

pub entries-preserved : goal.entries-preserved
entries-preserved c =
    let table = c.args.diagram.now.table in
    let row = c.args.row in
    let at = c.entries.at in
    let entries = (row_in table row).entries in
    let long = (row_fits c.args.diagram.now.shape table row c.fits.ensures.fits c.requires.row).long in
    let within : at < length entries = omega (arith, c.entries-test.true, c.entries.auto.at-end, c.values-at-end.ensures, long) in
    let item : c.entry.result ≡ get_or entries at Gone = c.entry.ensures ∙ ap (λ (id : EntryId). slice_index_or (row_in table id.row).entries id.at Gone) c.entry_id.ensures in
    c.in_ok-push.ensures.ok ∙ (ap₂ (λ (xs : List Entry) x. xs ++ x ∷ []) c.entries.invariant item ∙ sym (take_more entries at Gone within))

pub returns : goal.returns
returns c =
    let table = c.args.diagram.now.table in
    let row = c.args.row in
    let entries = (row_in table row).entries in
    let long = (row_fits c.args.diagram.now.shape table row c.fits.ensures.fits c.requires.row).long in
    c.entries.invariant ∙ take_all c.entries.at entries (omega (arith, c.entries-test.false, c.values-at-end.ensures, long))
