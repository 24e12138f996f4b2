-- What the calls of a group owe and give, of its parts and the places of a layer's variable.
use Rattle.std.proofs.Common.{◌≡◌, ℕ, ℤ, Bool, ◌<◌, List, slice_index, Option, ap, sym, ◌∙◌, subst}
use Rattle.hk_kinds.specs.Shapes.{HasShape}
use Rattle.hk_kinds.specs.declared.properties.Prop.{Prop}
use Rattle.hk_group.specs.Composed.{places_of}
use Rattle.hk_group.specs.Groups.{Part, PlainGroup, IsGroup, group_down_shape, group_up_shape, group_down, group_up, group_passes}
use Rattle.hk_group.specs.inside.Placed.{ArePlaces, down_by, up_by, passes_by}
use Rattle.hk_group.proofs.PartsRevised.{down_of_shape, up_of_shape}
use Rattle.hk_group.proofs.Plans.{are_places, down_by_is, up_by_is, passes_by_is}

module _ (g : PlainGroup) (layer : ℕ) (parts : List Part) (places : List (Option ℕ)) (same : parts ≡ g.parts) (at : places ≡ places_of g.parts (slice_index g.vars layer)) where
  pub standing_places : IsGroup g → ArePlaces parts places
  standing_places rules = subst (λ l. ArePlaces l places) (sym same) (subst (ArePlaces g.parts) (sym at) (are_places g.parts (slice_index g.vars layer) rules.parts))

  pub stepped_down : (value : ℕ) (from to : List Prop) → to ≡ down_by parts places value from → to ≡ group_down g layer value from
  stepped_down value from to written = written ∙ (ap (λ l. down_by l places value from) same ∙ (ap (λ l. down_by g.parts l value from) at ∙ down_by_is g.parts (slice_index g.vars layer) value from))

  pub stepped_up : (value : ℕ) (from to : List Prop) → to ≡ up_by parts places value from → to ≡ group_up g layer value from
  stepped_up value from to written = written ∙ (ap (λ l. up_by l places value from) same ∙ (ap (λ l. up_by g.parts l value from) at ∙ up_by_is g.parts (slice_index g.vars layer) value from))

  pub tested : (value : ℕ) (best best' : ℤ) (down up : List Prop) (answer : Bool) → best' ≡ best → answer ≡ passes_by parts places value best' down up → answer ≡ group_passes g layer value best down up
  tested value best best' down up answer bound is =
      is ∙ (ap (λ b. passes_by parts places value b down up) bound ∙ (ap (λ l. passes_by l places value best down up) same ∙ (ap (λ l. passes_by g.parts l value best down up) at ∙ passes_by_is g.parts (slice_index g.vars layer) value best down up)))

pub down_step_shape : (g : PlainGroup) (layer value : ℕ) (from to : List Prop) → IsGroup g → value < 128 → HasShape (group_down_shape g) from → to ≡ group_down g layer value from → HasShape (group_down_shape g) to
down_step_shape g layer value from to rules small shape is = subst (HasShape (group_down_shape g)) (sym is) (down_of_shape (slice_index g.vars layer) value small g.parts rules.parts from shape)

pub up_step_shape : (g : PlainGroup) (layer value : ℕ) (from to : List Prop) → IsGroup g → value < 128 → HasShape (group_up_shape g) from → to ≡ group_up g layer value from → HasShape (group_up_shape g) to
up_step_shape g layer value from to rules small shape is = subst (HasShape (group_up_shape g)) (sym is) (up_of_shape (slice_index g.vars layer) value small g.parts rules.parts from shape)
