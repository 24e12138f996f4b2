-- What holds of the cells of a diagram between two calls.
use Rattle.std.specs.Prelude.{◌≡◌, ℕ, ◌≤◌, ◌<◌, ◌^◌, length, All}
use Rattle.hk_kinds.specs.Limits.{IsWithinLimit}
use Rattle.hk_kinds.specs.Sets.{IsSet}
use Rattle.hk_table.specs.declared.entries.Entry.TheVariants.{Gone}
use Rattle.hk_trail.specs.Pools.{Content}
use Rattle.hk_arena.specs.Forms.{Form, layer_count, num_count, bits_count, word_count}
use Rattle.hk_arena.specs.Cells.{cells_of, entries_of, row_count}

-- there are as many cells as the form takes, numbers are within the limit and sets have values below 128, no layer has
-- more rows than the width, and a row that isn't there has Gone entries alone
pub record IsKept (form : Form) (content : Content) : Type 0 where
  pub nums : length content.nums ≡ num_count form
  pub bits : length content.bits ≡ bits_count form
  pub words : length content.words ≡ word_count form
  pub limits : All IsWithinLimit content.nums
  pub sets : All IsSet content.bits
  pub counts : (layer : ℕ) → layer < layer_count form → row_count content layer ≤ form.width
  pub empty : (layer at : ℕ) → layer < layer_count form → row_count content layer ≤ at → at < form.width → All (λ entry. entry ≡ Gone) (entries_of (cells_of form content layer at).words)

-- the width is 1 to 256, there are at most 257 layers with the last, and the form takes fewer cells than a
-- pool can have
pub record IsSmall (form : Form) : Type 0 where
  pub some : 0 < form.width
  pub width : form.width ≤ 256
  pub layers : layer_count form ≤ 257
  pub nums : num_count form < 2 ^ 32
  pub bits : bits_count form < 2 ^ 32
  pub words : word_count form < 2 ^ 32
