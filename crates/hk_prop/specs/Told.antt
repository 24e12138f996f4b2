-- What a trace is told of the passes of a node.
use Rattle.std.specs.Prelude.{◌≡◌, ℕ, ◌+◌, ℤ, List, [], ◌∷◌, ◌++◌, length, map, Option, None, Some}
use Rattle.std.specs.List.{flat_map}
use Rattle.hk_base.specs.Lists.{IsFrontOf}
use Rattle.hk_group.specs.Problems.{PlainProblem}
use Rattle.hk_table.specs.Tables.{PlainRow}
use Rattle.hk_table.specs.declared.items.TraceItem.{TraceItem}
use Rattle.hk_table.specs.declared.items.TraceItem.TheVariants as item
use Rattle.hk_prop.specs.Contents.{PlainTable, Content}
use Rattle.hk_prop.specs.Passes.{pass, node_passes}

-- the items of a layer: how many rows it has, and each row
abbrev pub layer_items : List PlainRow → List TraceItem
layer_items rows = item.Layer (length rows) ∷ map (λ row. item.Row row) rows

-- the items of a table: its group's number, and each layer
abbrev pub table_items : ℕ → PlainTable → List TraceItem
table_items group table = item.Table group ∷ flat_map layer_items table

-- the items of the tables of this group and of the ones after it
abbrev pub tables_items : ℕ → List PlainTable → List TraceItem
tables_items group [] = []
tables_items group (table ∷ tables) = table_items group table ++ tables_items (group + 1) tables

-- the items of a pass: that it begins, and the table of each group. Groups are numbered from 1
abbrev pub pass_items : List PlainTable → List TraceItem
pass_items tables = item.Pass ∷ tables_items 1 tables

-- the items of passes, first to last
abbrev pub passes_items : List (List PlainTable) → List TraceItem
passes_items passes = flat_map pass_items passes

-- what was told, where it is told, with more items
abbrev pub told_more : Option (List TraceItem) → List TraceItem → Option (List TraceItem)
told_more None items = None
told_more (Some told) items = Some (told ++ items)

-- what was told is a front of what is due, where it is told
abbrev pub IsToldFront : Option (List TraceItem) → Option (List TraceItem) → Type 0
IsToldFront None due = due ≡ None
IsToldFront (Some told) None = ⊥
IsToldFront (Some told) (Some due) = IsFrontOf told due

-- in the middle of the passes of a node: what was told, and where the node stands
pub record Now : Type 0 where
  pub told : Option (List TraceItem)
  pub at : Content

-- after one pass more
abbrev pub passed : PlainProblem → ℕ → ℤ → Now → Now
passed p width best now = let next = pass p width best now.at in record { told = told_more now.told (pass_items next.tables); at = next }

-- after all passes that are left
abbrev pub due_passes : PlainProblem → ℕ → ℤ → Now → Now
due_passes p width best now = let passes = node_passes p width best now.at in record { told = told_more now.told (passes_items passes.each); at = passes.last }
