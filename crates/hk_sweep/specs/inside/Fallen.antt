-- The layers of the way down.
use Rattle.std.specs.Prelude.{◌≡◌, ℕ, suc, ◌*◌, ◌<◌, ◌≤◌, List, [], ◌∷◌, ◌++◌, length, take, slice_index, slice_index_or}
use Rattle.hk_arena.specs.Diagrams.{rows_of}
use Rattle.hk_group.specs.Groups.{group_down_shape}
use Rattle.hk_layers.specs.Falling.{IsDown}
use Rattle.hk_layers.specs.Flat.{AreShaped}
use Rattle.hk_layers.specs.Layers.{Half}
use Rattle.hk_layers.specs.Transitions.{transitions_of}
use Rattle.hk_table.specs.Tables.{PlainRow}
use Rattle.hk_text.specs.Sets.{members}
use Rattle.hk_sweep.specs.Tight.{first_half}
use Rattle.hk_sweep.specs.Views.{FallenView, DescentView}
use Rattle.hk_sweep.specs.inside.Frames.{PlainFrame, spot_at}

-- a layer without anything
abbrev pub no_layer : FallenView
no_layer = record { width = 0; halves = []; leads = [] }

-- the layers down to the one that was reached, after so many
abbrev pub reached : ℕ → DescentView → List FallenView
reached count descent = take count descent.layers ++ descent.here ∷ []

-- the states of a layer's rows are down states of the group, and it has no more rows than the width says
pub record IsFallen (frame : PlainFrame) (layer : FallenView) : Type 0 where
  pub shapes : AreShaped (group_down_shape frame.group) layer.halves
  pub few : length layer.halves ≤ frame.width

-- over an old table, the rows of the layer at this place are down states of the group, no more than the width says, and
-- lead on to these rows; there is a lead for each value of each row
pub record FallsTo (frame : PlainFrame) (sets : List ℕ) (old : List (List PlainRow)) (at : ℕ) (layer : FallenView) (next : List Half) : Type 0 where
  pub own : IsFallen frame layer
  pub down : IsDown (spot_at frame sets at) (rows_of old at) (rows_of old (suc at)) layer.halves layer.leads next
  pub long : length layer.leads ≡ length layer.halves * length (members (slice_index sets at))

-- over an old table, layers lead on from row 0, each to the next
pub record AreFallen (frame : PlainFrame) (sets : List ℕ) (old : List (List PlainRow)) (layers : List FallenView) : Type 0 where
  pub start : (slice_index_or layers 0 no_layer).halves ≡ first_half (transitions_of frame.group) ∷ []
  pub each : (at : ℕ) → suc at < length layers → FallsTo frame sets old at (slice_index_or layers at no_layer) (slice_index_or layers (suc at) no_layer).halves
