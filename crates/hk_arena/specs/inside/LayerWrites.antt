-- Writes of the rows of a layer.
use Rattle.std.specs.Prelude.{◌≡◌, ℕ, map}
use Rattle.hk_trail.specs.Levels.{Levels}
use Rattle.hk_trail.specs.Places.{cell_count}
use Rattle.hk_arena.specs.Changes.{IsChangedFrom}
use Rattle.hk_arena.specs.Numbers.{IsRaised}
use Rattle.hk_arena.specs.Cells.{table_of}
use Rattle.hk_arena.specs.Forms.{Form}
use Rattle.hk_arena.specs.Kept.{IsKept}

-- a store has the same levels, of which the highest wrote no more than so many cells more; its cells are kept, and its
-- table is another one but for the rows of a layer from this one on
pub record AreRowsWritten (form : Form) (layer rows most : ℕ) (old new : Levels) : Type 0 where
  pub kept : IsKept form new.content
  pub changed : IsChangedFrom layer rows (table_of form old.content) (table_of form new.content)
  pub stack : new.stack ≡ old.stack
  pub raised : IsRaised most (map cell_count old.written) (map cell_count new.written)
