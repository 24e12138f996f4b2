-- The words of entries, read one after the other.
use Rattle.std.proofs.Common.{◌≡◌, ℕ, ◌+◌, ◌<◌, ◌++◌, List, [], ◌∷◌, length, drop, get_or, sym, ◌∙◌, ap, arith, append_assoc}
use Rattle.std.proofs.lemmas.List.{drop_more}
use Rattle.hk_table.specs.Tables.{PlainRow, flat_entries}
use Rattle.hk_table.specs.declared.entries.Entry.{Entry}
use Rattle.hk_table.specs.declared.entries.Entry.TheVariants.{Gone}
use Rattle.hk_trail.specs.Pools.{Content}
use Rattle.hk_arena.proofs.Entering.{entry_at}
use Rattle.hk_arena.proofs.Framing.{there, row_in-table_of}
use Rattle.hk_arena.proofs.Places.{words_within}
use Rattle.hk_arena.specs.Diagrams.{IsRow, row_in, values_of}
use Rattle.hk_arena.specs.declared.ids.RowId.{RowId}
use Rattle.hk_arena.specs.Cells.{entry_of, table_of}
use Rattle.hk_arena.specs.Forms.{Form, words_at}
use Rattle.hk_arena.specs.Kept.{IsKept}

-- an item more is taken from those that are left
pub moved : {X : Type 0} (done left : List X) (at : ℕ) (d item : X) → at < length left → item ≡ get_or left at d → done ++ drop at left ≡ (done ++ item ∷ []) ++ drop (at + 1) left
moved done left at d item within is =
    ap (λ items. done ++ items) (drop_more left at d within ∙ ap (λ x. x ∷ drop (at + 1) left) (sym is)) ∙ sym (append_assoc done (item ∷ []) (drop (at + 1) left))

-- the entries of a row more are taken from those that are left
pub row_moved : (done : List Entry) (left : List PlainRow) (at : ℕ) (d : PlainRow) → at < length left → done ++ flat_entries (drop at left) ≡ (done ++ (get_or left at d).entries) ++ flat_entries (drop (at + 1) left)
row_moved done left at d within =
    ap (λ rows. done ++ flat_entries rows) (drop_more left at d within) ∙ sym (append_assoc done (get_or left at d).entries (flat_entries (drop (at + 1) left)))

-- an entry of a row that is there is in its word
pub entry_read : (form : Form) (content : Content) (row : RowId) (at : ℕ) → IsKept form content → IsRow (table_of form content) row → at < length (values_of form.shape row.layer) → entry_of (get_or content.words (words_at form row.layer row.at + 1 + at) 0) ≡ get_or (row_in (table_of form content) row).entries at Gone
entry_read form content row at kept is within =
    let same : words_at form row.layer row.at + 1 + at ≡ words_at form row.layer row.at + (1 + at) = omega arith in
    ap (λ k. entry_of (get_or content.words k 0)) same
    ∙ sym (entry_at form content row.layer row.at at within)
    ∙ sym (ap (λ (r : PlainRow). get_or r.entries at Gone) (row_in-table_of form content row (there form content row kept is)))

-- the word of such an entry is there
pub word_read : (form : Form) (content : Content) (row : RowId) (at : ℕ) → IsKept form content → IsRow (table_of form content) row → at < length (values_of form.shape row.layer) → words_at form row.layer row.at + 1 + at < length content.words
word_read form content row at kept is within =
    let rows = words_within form row.layer row.at (there form content row kept is).place in
    omega (arith, kept.words)
