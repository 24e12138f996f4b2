-- Which diagrams a group's revision is for, and which buffers.
use Rattle.std.specs.Prelude.{◌≡◌, ℕ, List, length}
use Rattle.hk_group.specs.Groups.{PlainGroup, group_down_shape, group_up_shape}
use Rattle.hk_kinds.specs.Tops.{top_state}
use Rattle.hk_kinds.specs.declared.properties.Prop.{Prop}
use Rattle.hk_arena.specs.Diagrams.{DiagramLevels}
use Rattle.hk_sweep.specs.Loose.{group_shape}

-- a diagram was made for a group, whose variables have some sets of values in the model, and for a width
pub record IsMadeFor (g : PlainGroup) (width : ℕ) (diagram : DiagramLevels) : Type 0 where
  pub sets : List ℕ
  pub shape : diagram.shape ≡ group_shape g sets
  pub wide : diagram.width ≡ width

-- buffers of a revision: how many properties their down states and their up states have, and their top up state
pub record BuffersView : Type 0 where
  pub downs : ℕ
  pub ups : ℕ
  pub top : List Prop

-- the buffers suit a group: their states have as many properties as the group's, and their top up state is the group's
pub record AreFor (g : PlainGroup) (buffers : BuffersView) : Type 0 where
  pub down : buffers.downs ≡ length (group_down_shape g)
  pub up : buffers.ups ≡ length (group_up_shape g)
  pub top_is : buffers.top ≡ top_state (group_up_shape g)
