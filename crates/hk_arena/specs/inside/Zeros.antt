-- The cells of a diagram without rows.
use Rattle.std.specs.Prelude.{pos, replicate}
use Rattle.hk_trail.specs.Pools.{Content}
use Rattle.hk_arena.specs.Forms.{Form, num_count, bits_count, word_count}

-- cells that all hold zero: no layer has a row
abbrev pub zeros : Form → Content
zeros form = record { nums = replicate (num_count form) (pos 0); bits = replicate (bits_count form) 0; words = replicate (word_count form) 0 }
