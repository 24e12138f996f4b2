-- Which branches of a told list are open, and the tables that the list holds before each.
use Rattle.std.specs.Prelude.{ℕ, Bool, true, false, if◌then◌else◌, List, [], ◌∷◌, ◌++◌}
use Rattle.hk_table.specs.Tables.{PlainRow}
use Rattle.hk_table.specs.declared.items.TraceItem.{TraceItem}
use Rattle.hk_table.specs.declared.items.TraceItem.TheVariants as item

-- an open branch: the tables of the last pass before it, in the order of the groups, and whether its second child has begun
pub record OpenBranch : Type 0 where
  pub tables : List (List (List PlainRow))
  pub second : Bool

-- what a list tells as far as it was read: the tables of the last pass, and the open branches, the latest first
pub record Reading : Type 0 where
  pub tables : List (List (List PlainRow))
  pub open_ones : List OpenBranch

-- a list with its last item changed
abbrev pub on_last : {A : Type 0} → (A → A) → List A → List A
on_last change [] = []
on_last change (only ∷ []) = change only ∷ []
on_last change (first ∷ (next ∷ rest)) = first ∷ on_last change (next ∷ rest)

-- a node without children ends: so do the branches whose second child ends with it, and the second child of the one
-- before them begins
abbrev pub after_leaf : List OpenBranch → List OpenBranch
after_leaf [] = []
after_leaf (latest ∷ earlier) = if latest.second then after_leaf earlier else (record { tables = latest.tables; second = true } ∷ earlier)

-- one item more is read: a table, a layer or a row is the last of its pass so far, a branch opens, or a node ends
abbrev pub read_item : Reading → TraceItem → Reading
read_item so_far item.Pass = record so_far { tables = [] }
read_item so_far (item.Table group) = record so_far { tables = so_far.tables ++ [] ∷ [] }
read_item so_far (item.Layer rows) = record so_far { tables = on_last (λ table. table ++ [] ∷ []) so_far.tables }
read_item so_far (item.Row row) = record so_far { tables = on_last (λ table. on_last (λ layer. layer ++ row ∷ []) table) so_far.tables }
read_item so_far (item.Branch variable value) = record so_far { open_ones = record { tables = so_far.tables; second = false } ∷ so_far.open_ones }
read_item so_far item.Fail = record so_far { open_ones = after_leaf so_far.open_ones }
read_item so_far (item.Sol values) = record so_far { open_ones = after_leaf so_far.open_ones }
read_item so_far item.OpenLeaf = record so_far { open_ones = after_leaf so_far.open_ones }

-- items are read, first to last
abbrev pub read_items : Reading → List TraceItem → Reading
read_items so_far [] = so_far
read_items so_far (next ∷ items) = read_items (read_item so_far next) items

-- before anything is told there is no table and no branch
abbrev pub unread : Reading
unread = record { tables = []; open_ones = [] }

-- the branches of a list whose second child hasn't ended, the latest first
abbrev pub open_branches : List TraceItem → List OpenBranch
open_branches items = (read_items unread items).open_ones
