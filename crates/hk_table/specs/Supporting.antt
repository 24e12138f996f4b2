-- Which tables can be asked what they support.
use Rattle.std.specs.Prelude.{◌≡◌, ℕ, suc, ◌+◌, ◌<◌, ◌≤◌, List, [], length, All, slice_index, slice_index_or}
use Rattle.hk_table.specs.Tables.{PlainRow, PlainShape}
use Rattle.hk_table.specs.declared.entries.Entry.{Entry}
use Rattle.hk_table.specs.declared.entries.Entry.TheVariants.{Live}
use Rattle.hk_text.specs.Sets.{members}

-- a row has an entry for each of these values, and its Live entries name rows below this number
pub record RowLeads (values : List ℕ) (next : ℕ) (row : PlainRow) : Type 0 where
  pub long : length row.entries ≡ length values
  pub names : All (λ (entry : Entry). (c : ℕ) → entry ≡ Live c → c < next) row.entries

-- the table has a layer for each set of the shape and a last one, and at most 256 rows in each; before the last layer a
-- row has an entry for each value of its layer's set, and its Live entries name rows of the next layer
pub record IsSupportable (shape : PlainShape) (table : List (List PlainRow)) : Type 0 where
  pub long : length table ≡ suc (length shape.domains)
  pub few : All (λ (layer : List PlainRow). length layer ≤ 256) table
  pub leads : (level : ℕ) → level < length shape.domains
      → All (RowLeads (members (slice_index shape.domains level)) (length (slice_index_or table (level + 1) []))) (slice_index_or table level [])
