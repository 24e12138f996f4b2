-- The items of a pass are read as its tables.
use Rattle.std.proofs.Common.{◌≡◌, ℕ, ◌+◌, List, [], ◌∷◌, ◌++◌, map, refl, sym, ap, ◌∙◌, append_assoc, ℤ, zero, suc, Bool, true, false, subst}
use Rattle.std.specs.List.{flat_map}
use Rattle.std.proofs.lemmas.List.{append-nil}
use Rattle.hk_table.specs.OpenBranches.{OpenBranch, Reading, on_last, read_item, read_items}
use Rattle.hk_table.specs.Tables.{PlainRow}
use Rattle.hk_table.specs.declared.items.TraceItem.{TraceItem}
use Rattle.hk_table.specs.declared.items.TraceItem.TheVariants as item
use Rattle.hk_group.specs.Problems.{PlainProblem}
use Rattle.hk_prop.specs.Contents.{PlainTable, Content, values_left}
use Rattle.hk_prop.specs.Passes.{pass, ends_with, NodePasses, passes_from, node_passes}
use Rattle.hk_prop.proofs.Fuel.{passes_end, passes_go_on}
use Rattle.hk_prop.specs.Told.{layer_items, table_items, tables_items, pass_items, passes_items}

on_last_push : {A : Type 0} (change : A → A) (xs : List A) (x : A) → on_last change (xs ++ x ∷ []) ≡ xs ++ change x ∷ []
on_last_push change [] x = refl
on_last_push change (y ∷ []) x = refl
on_last_push change (y ∷ (z ∷ zs)) x = ap (λ rest. y ∷ rest) (on_last_push change (z ∷ zs) x)

pub read_twice : (so_far : Reading) (xs ys : List TraceItem) → read_items so_far (xs ++ ys) ≡ read_items (read_items so_far xs) ys
read_twice so_far [] ys = refl
read_twice so_far (x ∷ xs) ys = read_twice (read_item so_far x) xs ys

push_again : {A : Type 0} (xs : List A) (x : A) (ys : List A) → (xs ++ x ∷ []) ++ ys ≡ xs ++ x ∷ ys
push_again xs x ys = append_assoc xs (x ∷ []) ys

module _ (branches : List OpenBranch) where
  abbrev read : List PlainTable → Reading
  read tables = record { tables = tables; open_ones = branches }

  rows_read : (before : List PlainTable) (layers : PlainTable) (done rows : List PlainRow) → read_items (read (before ++ (layers ++ done ∷ []) ∷ [])) (map (λ row. item.Row row) rows) ≡ read (before ++ (layers ++ (done ++ rows) ∷ []) ∷ [])
  rows_read before layers done [] = ap (λ all. read (before ++ (layers ++ all ∷ []) ∷ [])) (sym (append-nil done))
  rows_read before layers done (row ∷ rows) =
      ap (λ tables. read_items (read tables) (map (λ r. item.Row r) rows))
      (on_last_push (λ table. on_last (λ layer. layer ++ row ∷ []) table) before (layers ++ done ∷ []) ∙ ap (λ table. before ++ table ∷ []) (on_last_push (λ layer. layer ++ row ∷ []) layers done))
      ∙ (rows_read before layers (done ++ row ∷ []) rows
      ∙ ap (λ all. read (before ++ (layers ++ all ∷ []) ∷ [])) (push_again done row rows))

  layers_read : (before : List PlainTable) (done layers : PlainTable) → read_items (read (before ++ done ∷ [])) (flat_map layer_items layers) ≡ read (before ++ (done ++ layers) ∷ [])
  layers_read before done [] = ap (λ all. read (before ++ all ∷ [])) (sym (append-nil done))
  layers_read before done (rows ∷ layers) =
      read_twice (read (before ++ done ∷ [])) (layer_items rows) (flat_map layer_items layers)
      ∙ (ap (λ so_far. read_items so_far (flat_map layer_items layers))
      (ap (λ tables. read_items (read tables) (map (λ row. item.Row row) rows)) (on_last_push (λ table. table ++ [] ∷ []) before done) ∙ rows_read before done [] rows)
      ∙ (layers_read before (done ++ rows ∷ []) layers
      ∙ ap (λ all. read (before ++ all ∷ [])) (push_again done rows layers)))

  tables_read : (group : ℕ) (before tables : List PlainTable) → read_items (read before) (tables_items group tables) ≡ read (before ++ tables)
  tables_read group before [] = ap read (sym (append-nil before))
  tables_read group before (table ∷ tables) =
      read_twice (read before) (table_items group table) (tables_items (group + 1) tables)
      ∙ (ap (λ so_far. read_items so_far (tables_items (group + 1) tables)) (layers_read before [] table)
      ∙ (tables_read (group + 1) (before ++ table ∷ []) tables ∙ ap read (push_again before table tables)))

-- a pass is read as its tables, and opens no branch
pub pass_read : (so_far : Reading) (tables : List PlainTable) → read_items so_far (pass_items tables) ≡ record { tables = tables; open_ones = so_far.open_ones }
pass_read so_far tables = tables_read so_far.open_ones 1 [] tables

-- the passes of a node are read as the tables that they leave
module _ (p : PlainProblem) (width : ℕ) (best : ℤ) where
  last_read : (so_far : Reading) (tables : List PlainTable) → read_items so_far (passes_items (tables ∷ [])) ≡ record { tables = tables; open_ones = so_far.open_ones }
  last_read so_far tables = read_twice so_far (pass_items tables) [] ∙ pass_read so_far tables

  passes_read : (more : ℕ) (so_far : Reading) (at : Content) → read_items so_far (passes_items (passes_from p width best more at).each) ≡ record { tables = (passes_from p width best more at).last.tables; open_ones = so_far.open_ones }
  passes_read zero so_far at = last_read so_far (pass p width best at).tables
  passes_read (suc more) so_far at = by (ends_with at (pass p width best at)) refl (λ s. passes_read more s (pass p width best at))
    where
      by : (b : Bool) → ends_with at (pass p width best at) ≡ b
          → ((s : Reading) → read_items s (passes_items (passes_from p width best more (pass p width best at)).each) ≡ record { tables = (passes_from p width best more (pass p width best at)).last.tables; open_ones = s.open_ones })
          → read_items so_far (passes_items (passes_from p width best (suc more) at).each) ≡ record { tables = (passes_from p width best (suc more) at).last.tables; open_ones = so_far.open_ones }
      by true ends rest =
          subst (λ (n : NodePasses). read_items so_far (passes_items n.each) ≡ record { tables = n.last.tables; open_ones = so_far.open_ones }) (sym (passes_end p width best (suc more) at ends)) (last_read so_far (pass p width best at).tables)
      by false goes rest =
          let later : NodePasses = passes_from p width best more (pass p width best at) in
          subst (λ (n : NodePasses). read_items so_far (passes_items n.each) ≡ record { tables = n.last.tables; open_ones = so_far.open_ones }) (sym (passes_go_on p width best more at goes))
          (read_twice so_far (pass_items (pass p width best at).tables) (passes_items later.each)
          ∙ (ap (λ s. read_items s (passes_items later.each)) (pass_read so_far (pass p width best at).tables) ∙ rest (record { tables = (pass p width best at).tables; open_ones = so_far.open_ones })))

  pub node_read : (so_far : Reading) (at : Content) → read_items so_far (passes_items (node_passes p width best at).each) ≡ record { tables = (node_passes p width best at).last.tables; open_ones = so_far.open_ones }
  node_read so_far at = passes_read (values_left at.domains) so_far at
