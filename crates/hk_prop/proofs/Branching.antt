-- Which branches a told list leaves open, as a search goes on telling.
use Rattle.std.proofs.Common.{◌≡◌, ℕ, ℤ, List, [], ◌∷◌, ◌++◌, false, ap, ◌∙◌}
use Rattle.hk_group.specs.Problems.{PlainProblem}
use Rattle.hk_table.specs.OpenBranches.{Reading, read_items, unread, open_branches, after_leaf}
use Rattle.hk_table.specs.declared.items.TraceItem.{TraceItem}
use Rattle.hk_table.specs.declared.items.TraceItem.TheVariants as item
use Rattle.hk_prop.specs.Contents.{Content}
use Rattle.hk_prop.specs.Passes.{node_passes}
use Rattle.hk_prop.specs.Told.{passes_items}
use Rattle.hk_prop.proofs.ReadBack.{node_read, read_twice}

pub leaf_closes : (told : List TraceItem) → open_branches (told ++ item.OpenLeaf ∷ []) ≡ after_leaf (open_branches told)
leaf_closes told = ap (λ (so_far : Reading). so_far.open_ones) (read_twice unread told (item.OpenLeaf ∷ []))

module _ (p : PlainProblem) (width : ℕ) (best : ℤ) (at : Content) (told : List TraceItem) where
  -- what is read of the list with the passes of a node and some items after them
  after_node : (items : List TraceItem) → read_items unread (told ++ (passes_items (node_passes p width best at).each ++ items)) ≡ read_items (record { tables = (node_passes p width best at).last.tables; open_ones = open_branches told }) items
  after_node items =
      read_twice unread told (passes_items (node_passes p width best at).each ++ items)
      ∙ (read_twice (read_items unread told) (passes_items (node_passes p width best at).each) items
      ∙ ap (λ so_far. read_items so_far items) (node_read p width best (read_items unread told) at))

  pub branch_opens : (variable value : ℕ) → open_branches (told ++ (passes_items (node_passes p width best at).each ++ item.Branch variable value ∷ [])) ≡ record { tables = (node_passes p width best at).last.tables; second = false } ∷ open_branches told
  branch_opens variable value = ap (λ (so_far : Reading). so_far.open_ones) (after_node (item.Branch variable value ∷ []))

  pub fail_closes : open_branches (told ++ (passes_items (node_passes p width best at).each ++ item.Fail ∷ [])) ≡ after_leaf (open_branches told)
  fail_closes = ap (λ (so_far : Reading). so_far.open_ones) (after_node (item.Fail ∷ []))

  pub sol_closes : (values : List ℕ) → open_branches (told ++ (passes_items (node_passes p width best at).each ++ item.Sol values ∷ [])) ≡ after_leaf (open_branches told)
  sol_closes values = ap (λ (so_far : Reading). so_far.open_ones) (after_node (item.Sol values ∷ []))
