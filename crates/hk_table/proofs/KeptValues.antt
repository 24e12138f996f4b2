-- What a kept assignment says of support.
use Rattle.std.proofs.Common.{ℕ, zero, suc, ◌<◌, List, length, slice_index, arith}
use Rattle.hk_table.specs.Keeps.{KeepsFrom, keeps_last, keeps_layer, SupportsFrom, supports_here, supports_later}
use Rattle.hk_table.specs.Tables.{PlainRow}

-- each value of a kept assignment is supported at its layer
pub kept_supported : {layers_values : List (List ℕ)} {table : List (List PlainRow)} {c : ℕ} {assignment : List ℕ} → KeepsFrom layers_values table c assignment → (level : ℕ) → level < length assignment → SupportsFrom layers_values table c level (slice_index assignment level)
kept_supported (keeps_last within) level below = absurd (omega arith)
kept_supported (keeps_layer there leads rest) zero below = supports_here there leads
kept_supported (keeps_layer {value = value} there leads rest) (suc level) below = supports_later value there leads (kept_supported rest level (omega arith))
