-- The up state of one row, while the up steps of its entries are joined.
use Rattle.std.specs.Prelude.{◌≡◌, List, length, Option, None, Some, IfSome}
use Rattle.hk_group.specs.Groups.{group_up_shape}
use Rattle.hk_kinds.specs.Joins.{state_join}
use Rattle.hk_kinds.specs.Shapes.{HasShape}
use Rattle.hk_kinds.specs.declared.kinds.Kind.{Kind}
use Rattle.hk_kinds.specs.declared.properties.Prop.{Prop}
use Rattle.hk_layers.specs.Spots.{PlainSpot}
use Rattle.hk_layers.specs.Views.{RisingView}

-- one state more is joined into what there is
abbrev pub join_up : List Kind → Option (List Prop) → List Prop → Option (List Prop)
join_up kinds None state = Some state
join_up kinds (Some joined) state = Some (state_join kinds joined state)

-- the up state so far has as many properties as those of the layer's group, and where there is one, it is one of them
pub record RisesAt (spot : PlainSpot) (rising : RisingView) : Type 0 where
  pub width : rising.width ≡ length (group_up_shape spot.group)
  pub shape : IfSome rising.up (HasShape (group_up_shape spot.group))
