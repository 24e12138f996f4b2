-- What a trace is told, item by item, and which items a certificate has a line for.
use Rattle.std.specs.Prelude.{◌≡◌, ℕ, ◌<◌, ◌≤◌, List, length, All, Some}
use Rattle.hk_kinds.specs.Shapes.{HasShape}
use Rattle.hk_kinds.specs.declared.kinds.Kind.{Kind}
use Rattle.hk_kinds.specs.declared.properties.Prop.{Prop}
use Rattle.hk_table.specs.Tables.{PlainRow, NamesRow}
use Rattle.hk_table.specs.declared.entries.Entry.{Entry}
use Rattle.hk_table.specs.declared.items.TraceItem.{TraceItem}
use Rattle.hk_table.specs.declared.items.TraceItem.TheVariants as item

-- the state has some shape: its numbers lie within the limit, and its sets have values below 128
pub record HasSomeShape (state : List Prop) : Type 0 where
  pub kinds : List Kind
  pub shape : HasShape kinds state

-- a row that a line can tell: its numbers are within their bounds, and it comes from some row
pub record HasRowLine (row : PlainRow) : Type 0 where
  pub down : HasSomeShape row.down
  pub up : (state : List Prop) → row.up ≡ Some state → HasSomeShape state
  pub comes : 0 < length row.from
  pub from : All (λ other. other < 256) row.from
  pub entries : All (λ (entry : Entry). (c : ℕ) → NamesRow entry c → c < 256) row.entries

-- an item that a line can tell: its numbers are within their bounds
pub data HasLine : TraceItem → Type 0 where
  pass_line : HasLine item.Pass
  table_line : {group : ℕ} → group ≤ 65535 → HasLine (item.Table group)
  layer_line : {rows : ℕ} → rows ≤ 256 → HasLine (item.Layer rows)
  row_line : {row : PlainRow} → HasRowLine row → HasLine (item.Row row)
  branch_line : {variable value : ℕ} → variable ≤ 65535 → value < 128 → HasLine (item.Branch variable value)
  fail_line : HasLine item.Fail
  sol_line : {values : List ℕ} → All (λ value. value < 128) values → HasLine (item.Sol values)
  open_line : HasLine item.OpenLeaf
