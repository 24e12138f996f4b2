-- What contracts see of the two ways of a revision.
use Rattle.std.specs.Prelude.{ℕ, List, Option}
use Rattle.hk_kinds.specs.declared.properties.Prop.{Prop}
use Rattle.hk_layers.specs.Layers.{Half}
use Rattle.hk_layers.specs.declared.leads.Lead.{Lead}

-- a layer on the way down: its rows, how many properties their states have, and where the values of each row lead
pub record FallenView : Type 0 where
  pub width : ℕ
  pub halves : List Half
  pub leads : List Lead

-- layers that wait for rows or have some, the layer that was reached, how many properties their states have, and the top
-- up state
pub record DescentView : Type 0 where
  pub width : ℕ
  pub top : List Prop
  pub layers : List FallenView
  pub here : FallenView

-- the up states of the layer that was written last, and how many properties each has
pub record AscentView : Type 0 where
  pub width : ℕ
  pub below : List (Option (List Prop))
