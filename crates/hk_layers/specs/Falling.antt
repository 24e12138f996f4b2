-- The way down by one layer.
use Rattle.std.specs.Prelude.{◌≡◌, ℕ, List, length, All}
use Rattle.hk_group.specs.Groups.{group_down_shape}
use Rattle.hk_table.specs.Tables.{PlainRow}
use Rattle.hk_text.specs.Sets.{members}
use Rattle.hk_layers.specs.Flat.{flat_leads}
use Rattle.hk_layers.specs.Layers.{Half, steps_of, next_halves}
use Rattle.hk_layers.specs.Spots.{PlainSpot, mark_at, arcs_at}
use Rattle.hk_layers.specs.declared.leads.Lead.{Lead}

-- each row has so many entries
abbrev pub AreLong : ℕ → List PlainRow → Type 0
AreLong count rows = All (λ (row : PlainRow). length row.entries ≡ count) rows

-- over these old rows and those of the next old layer, the values of rows lead where these leads say, and the next layer
-- has these rows
pub record IsDown (spot : PlainSpot) (old old_next : List PlainRow) (halves : List Half) (leads : List Lead) (next : List Half) : Type 0 where
  pub leads_are : leads ≡ flat_leads spot.width (steps_of (arcs_at spot old old_next halves)) (mark_at spot old old_next) (members spot.values) halves
  pub next_are : next ≡ next_halves (group_down_shape spot.group) spot.width (length old_next) (arcs_at spot old old_next halves)
