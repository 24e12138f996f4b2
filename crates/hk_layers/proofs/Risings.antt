-- The up state of a row so far.
use Rattle.std.proofs.Common.{◌≡◌, Bool, true, List, length, sym, ◌∙◌, ap, subst}
use Rattle.hk_group.specs.Groups.{group_up_shape}
use Rattle.hk_kinds.proofs.StateLaws.{length-HasShape}
use Rattle.hk_kinds.specs.Shapes.{HasShape}
use Rattle.hk_kinds.specs.declared.kinds.Kind.{Kind}
use Rattle.hk_kinds.specs.declared.properties.Prop.{Prop}
use Rattle.hk_layers.specs.Spots.{PlainSpot}
use Rattle.hk_layers.specs.Views.{RisingView, up_if}
use Rattle.hk_layers.specs.Climbing.{RisesAt}

-- what contracts see of a row's up state so far
abbrev pub risen : Bool → List Prop → RisingView
risen there state = record { width = length state; up = up_if there state }

-- a state of the shape is one of the layer's group
pub rises_with : (spot : PlainSpot) (kinds : List Kind) (there : Bool) (state : List Prop) → kinds ≡ group_up_shape spot.group → there ≡ true → HasShape kinds state → RisesAt spot (risen there state)
rises_with spot kinds there state same is shape =
    let of_group : HasShape (group_up_shape spot.group) state = subst (λ k. HasShape k state) same shape in
    subst (λ b. RisesAt spot (risen b state)) (sym is) (record { width = length-HasShape of_group; shape = of_group })

-- the states so far have as many properties as the group's up states
pub risen_wide : (spot : PlainSpot) (there : Bool) (state : List Prop) (now : RisingView) → risen there state ≡ now → RisesAt spot now → length state ≡ length (group_up_shape spot.group)
risen_wide spot there state now seen rises = ap (λ (r : RisingView). r.width) seen ∙ rises.width
