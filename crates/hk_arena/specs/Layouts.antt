-- What a layout keeps of the form that it stands for.
use Rattle.std.specs.Prelude.{◌≡◌, ℕ, ◌+◌, List, length}
use Rattle.hk_arena.specs.Diagrams.{values_of}
use Rattle.hk_arena.specs.Cells.{listed}
use Rattle.hk_arena.specs.Forms.{Form, layer_count, nums_in, sets_in, row_nums, row_bits, words_at}
use Rattle.hk_arena.specs.Kept.{IsSmall}

-- the form is small, and these are the sizes of a row, where its up state begins, and for each layer how many values it has and where its words
-- begin
pub record IsLayout (form : Form) (nums bits up_num up_set : ℕ) (values words : List ℕ) : Type 0 where
  pub small : IsSmall form
  pub num_size : nums ≡ row_nums form
  pub bits_size : bits ≡ row_bits form
  pub up_nums : up_num ≡ nums_in form.shape.down
  pub up_sets : up_set ≡ 2 + sets_in form.shape.down
  pub all_values : values ≡ listed (layer_count form) (λ layer. length (values_of form.shape layer))
  pub all_words : words ≡ listed (layer_count form) (λ layer. words_at form layer 0)
