-- What is left of the tests of parts where they are tried part after part.
use Rattle.std.proofs.Common.{◌≡◌, ℕ, ℤ, Bool, true, ◌&&◌, ◌+◌, ◌<◌, ◌≤◌, List, ◌∷◌, length, drop, get_or, Option, None, arith, ap, sym, ◌∙◌, subst}
use Rattle.std.proofs.lemmas.List.{length-drop, drop-drop, drop_more}
use Rattle.std.proofs.lemmas.Slice.Zip.{AllZip-long}
use Rattle.hk_kinds.specs.Parts.{part_at}
use Rattle.hk_kinds.specs.Shapes.{HasShape}
use Rattle.hk_kinds.specs.declared.properties.Prop.{Prop}
use Rattle.hk_spec.specs.Specifications.{down_shape, up_shape}
use Rattle.hk_group.specs.Groups.{Part, passes_at, down_width, up_width, down_shape_of, up_shape_of}
use Rattle.hk_group.specs.inside.Placed.{ArePlaces, passes_by}
use Rattle.hk_group.proofs.Written.{left_of, down_own, down_rest, down_end, up_own, up_rest, up_end}

-- all tests hold exactly where those of the parts from the k-th on do
pub record TestsLeft (parts : List Part) (places : List (Option ℕ)) (value : ℕ) (best : ℤ) (down up : List Prop) (k first_down first_up : ℕ) : Type 0 where
  pub due : passes_by parts places value best down up ≡ passes_by (drop k parts) (drop k places) value best (drop first_down down) (drop first_up up)
  pub down_shape : HasShape (down_shape_of (drop k parts)) (drop first_down down)
  pub up_shape : HasShape (up_shape_of (drop k parts)) (drop first_up up)
  pub fit : ArePlaces (drop k parts) (drop k places)
  pub down_within : first_down ≤ length down
  pub up_within : first_up ≤ length up

module _ (parts : List Part) (places : List (Option ℕ)) (value : ℕ) (best : ℤ) (down up : List Prop) (k first_down first_up : ℕ) (left : TestsLeft parts places value best down up k first_down first_up) (within : k < length parts) (part : Part) (is : part ≡ get_or parts k part) where
  parts_left : drop k parts ≡ part ∷ drop (k + 1) parts
  parts_left = left_of parts k part within is

  down_left : HasShape (down_shape_of (part ∷ drop (k + 1) parts)) (drop first_down down)
  down_left = subst (λ l. HasShape (down_shape_of l) (drop first_down down)) parts_left left.down_shape

  up_left : HasShape (up_shape_of (part ∷ drop (k + 1) parts)) (drop first_up up)
  up_left = subst (λ l. HasShape (up_shape_of l) (drop first_up up)) parts_left left.up_shape

  pub test_down : HasShape (down_shape part.bound.spec) (part_at first_down (down_width part) down)
  test_down = down_own part (drop (k + 1) parts) first_down down down_left

  pub test_up : HasShape (up_shape part.bound.spec) (part_at first_up (up_width part) up)
  test_up = up_own part (drop (k + 1) parts) first_up up up_left

  pub test_down_end : first_down + down_width part ≤ length down
  test_down_end = down_end part (drop (k + 1) parts) first_down down down_left left.down_within

  pub test_up_end : first_up + up_width part ≤ length up
  test_up_end = up_end part (drop (k + 1) parts) first_up up up_left left.up_within

  module _ (place : Option ℕ) (at : place ≡ get_or places k None) where
    places_left : drop k places ≡ place ∷ drop (k + 1) places
    places_left =
        let long : length (drop k places) ≡ length (drop k parts) = AllZip-long _ _ _ left.fit in
        let inside : k < length places = omega (arith, length-drop k places, length-drop k parts) in
        drop_more places k None inside ∙ ap (λ y. y ∷ drop (k + 1) places) (sym at)

    fit_left : ArePlaces (part ∷ drop (k + 1) parts) (place ∷ drop (k + 1) places)
    fit_left = subst (λ l. ArePlaces (part ∷ drop (k + 1) parts) l) places_left (subst (λ l. ArePlaces l (drop k places)) parts_left left.fit)

    -- this part's test, and those of the others
    test_is : passes_by parts places value best down up ≡ (passes_at part place value best (part_at first_down (down_width part) down) (part_at first_up (up_width part) up) && passes_by (drop (k + 1) parts) (drop (k + 1) places) value best (drop (first_down + down_width part) down) (drop (first_up + up_width part) up))
    test_is =
        left.due
        ∙ (ap (λ l. passes_by l (drop k places) value best (drop first_down down) (drop first_up up)) parts_left
        ∙ (ap (λ l. passes_by (part ∷ drop (k + 1) parts) l value best (drop first_down down) (drop first_up up)) places_left
        ∙ (ap (λ s. passes_at part place value best (part_at first_down (down_width part) down) (part_at first_up (up_width part) up) && passes_by (drop (k + 1) parts) (drop (k + 1) places) value best s (drop (up_width part) (drop first_up up))) (drop-drop (down_width part) first_down down)
        ∙ ap (λ s. passes_at part place value best (part_at first_down (down_width part) down) (part_at first_up (up_width part) up) && passes_by (drop (k + 1) parts) (drop (k + 1) places) value best (drop (first_down + down_width part) down) s) (drop-drop (up_width part) first_up up))))

    pub test_turn : (answer : Bool) (downs ups : ℕ) → answer ≡ passes_at part place value best (part_at first_down (down_width part) down) (part_at first_up (up_width part) up) → answer ≡ true → downs ≡ down_width part → ups ≡ up_width part → TestsLeft parts places value best down up (k + 1) (first_down + downs) (first_up + ups)
    test_turn answer downs ups tested holds many more =
        subst (λ n. TestsLeft parts places value best down up (k + 1) (first_down + n) (first_up + ups)) (sym many) (subst (λ n. TestsLeft parts places value best down up (k + 1) (first_down + down_width part) (first_up + n)) (sym more) (record {
          due = test_is ∙ ap (λ b. b && passes_by (drop (k + 1) parts) (drop (k + 1) places) value best (drop (first_down + down_width part) down) (drop (first_up + up_width part) up)) (sym tested ∙ holds);
          down_shape = down_rest part (drop (k + 1) parts) first_down down down_left;
          up_shape = up_rest part (drop (k + 1) parts) first_up up up_left;
          fit = fit_left.1;
          down_within = test_down_end;
          up_within = test_up_end;
        }))
