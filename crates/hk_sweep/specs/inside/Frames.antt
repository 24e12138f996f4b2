-- What a group's diagram is revised under.
use Rattle.std.specs.Prelude.{◌≡◌, ℕ, ℤ, ◌<◌, List, length, slice_index, All}
use Rattle.hk_group.specs.Groups.{PlainGroup, IsGroup, group_down_shape, group_up_shape}
use Rattle.hk_arena.specs.Diagrams.{DiagramLevels}
use Rattle.hk_layers.specs.Spots.{PlainSpot}
use Rattle.hk_layers.specs.Transitions.{layer_sets}

-- a group, the domains of all variables, the bound on the cost, and how many rows a layer has at most
pub record PlainFrame : Type 0 where
  pub group : PlainGroup
  pub domains : List ℕ
  pub best : ℤ
  pub width : ℕ

-- a layer of a diagram whose layers have these sets of values
abbrev pub spot_at : PlainFrame → List ℕ → ℕ → PlainSpot
spot_at frame sets layer = record { group = frame.group; layer = layer; values = slice_index sets layer; domain = slice_index (layer_sets frame.group frame.domains) layer; best = frame.best; width = frame.width }

-- the group keeps its rules; a diagram has a layer for each of its variables, states of its shapes and this width, and each variable has a domain
pub record IsFramed (frame : PlainFrame) (diagram : DiagramLevels) : Type 0 where
  pub rules : IsGroup frame.group
  pub domains_are : All (λ variable. variable < length frame.domains) frame.group.vars
  pub down : diagram.shape.down ≡ group_down_shape frame.group
  pub up : diagram.shape.up ≡ group_up_shape frame.group
  pub layers : length diagram.shape.domains ≡ length frame.group.vars
  pub wide : diagram.width ≡ frame.width
