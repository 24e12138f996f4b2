-- What one pass over a layer makes of the rows that were reached there.
use Rattle.std.specs.Prelude.{◌≡◌, ℕ, ◌<◌, List, slice_get, Some}
use Rattle.hk_base.specs.Sets.{Has}
use Rattle.hk_table.specs.Tables.{PlainRow, entry_for}
use Rattle.hk_table.specs.declared.entries.Entry.{Entry}
use Rattle.hk_table.specs.declared.entries.Entry.TheVariants.{Live}

-- entries that stand for these values have a Live one at the value, which leads to the row
abbrev pub EntryLeads : List ℕ → List Entry → ℕ → ℕ → Type 0
EntryLeads values entries value next = entry_for values entries value ≡ Live next

-- a row among the reached ones, and before this place in the layer, has a Live entry at the value, which leads to the
-- row of the next layer
pub record LayerLeads (values : List ℕ) (layer : List PlainRow) (reached before value next : ℕ) : Type 0 where
  pub at : ℕ
  pub row : PlainRow
  pub within : at < before
  pub among : Has reached at
  pub there : slice_get layer at ≡ Some row
  pub leads : EntryLeads values row.entries value next
