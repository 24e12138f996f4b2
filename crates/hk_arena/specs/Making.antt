-- What a diagram can be made for.
use Rattle.std.specs.Prelude.{ℕ, ◌+◌, ◌*◌, ◌<◌, ◌≤◌, List, length, All}
use Rattle.std.specs.List.{sum_by}
use Rattle.hk_table.specs.Tables.{PlainShape, layer_values}

-- the width is 1 to 256; there are 1 to 256 layers besides the last, and each of them has a value; the entries of all
-- rows are at most a million, and the properties of all states at most eight million
pub record IsMakeable (shape : PlainShape) (width : ℕ) : Type 0 where
  pub some_width : 0 < width
  pub few_rows : width ≤ 256
  pub some_layers : 0 < length shape.domains
  pub few_layers : length shape.domains ≤ 256
  pub values : All (λ (values : List ℕ). 0 < length values) (layer_values shape)
  pub entries : width * sum_by (λ (values : List ℕ). length values) (layer_values shape) ≤ 1000000
  pub properties : width * (length shape.domains + 1) * (length shape.down + length shape.up) ≤ 8000000
