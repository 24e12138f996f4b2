-- Which rows of the next layer the places of steps lead to.
use Rattle.std.specs.Prelude.{◌≡◌, ℕ, ◌<◌}
use Rattle.hk_layers.specs.Layers.{row_for}

-- of so many steps, one at some place leads to this row
pub record IsReached (width count row : ℕ) : Type 0 where
  pub place : ℕ
  pub below : place < count
  pub leads : row_for width count place ≡ row
