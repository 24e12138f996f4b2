-- Changes of the cells of one row.
use Rattle.std.specs.Prelude.{◌≡◌, ℕ, ◌<◌, length}
use Rattle.hk_trail.specs.Pools.{Content}
use Rattle.hk_arena.specs.Cells.{cells_of, row_count}
use Rattle.hk_arena.specs.Forms.{Form, layer_count}

-- a row lies among those of its form, whether it is there or not
pub record IsPlace (form : Form) (layer at : ℕ) : Type 0 where
  pub layer_within : layer < layer_count form
  pub row_within : at < form.width

-- a change of cells touched those of one row alone: the cells of all others, the numbers of rows and the sizes of the
-- pools are as they were
pub record IsOneRow (form : Form) (layer at : ℕ) (old new : Content) : Type 0 where
  pub others : (l r : ℕ) → IsPlace form l r → ((l ≡ layer) × (r ≡ at) → ⊥) → cells_of form new l r ≡ cells_of form old l r
  pub counts : (l : ℕ) → l < layer_count form → row_count new l ≡ row_count old l
  pub nums : length new.nums ≡ length old.nums
  pub bits : length new.bits ≡ length old.bits
  pub words : length new.words ≡ length old.words
