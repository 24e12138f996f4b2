-- The states of parts side by side: what a step and a test make of the first part's properties and of the others'.
use Rattle.std.proofs.Common.{◌≡◌, ℕ, ℤ, ◌&&◌, List, ◌∷◌, ◌++◌, length, take, drop, Option, None, Some, ap, sym, ◌∙◌}
use Rattle.std.proofs.lemmas.List.{length-map}
use Rattle.std.proofs.Math.Seq.{drop-append_seam, take-append_seam}
use Rattle.hk_kinds.specs.declared.properties.Prop.{Prop}
use Rattle.hk_spec.specs.Specifications.{IsBound}
use Rattle.hk_spec.proofs.StepLaws.{length-down_step, length-up_step}
use Rattle.hk_group.specs.Groups.{Part, down_at, up_at, part_down, part_up, part_passes, down_width, up_width, down_of, up_of, passes_of, place_in}

pub take_front : (n : ℕ) (xs ys : List Prop) → length xs ≡ n → take n (xs ++ ys) ≡ xs
take_front n xs ys long = ap (λ m. take m (xs ++ ys)) (sym long) ∙ take-append_seam xs ys

pub drop_front : (n : ℕ) (xs ys : List Prop) → length xs ≡ n → drop n (xs ++ ys) ≡ ys
drop_front n xs ys long = ap (λ m. drop m (xs ++ ys)) (sym long) ∙ drop-append_seam xs ys

-- a step keeps the number of properties
pub length-down_at : (part : Part) (place : Option ℕ) (value : ℕ) (state : List Prop) → IsBound part.bound → length state ≡ down_width part → length (down_at part place value state) ≡ down_width part
length-down_at part None value state rules long = long
length-down_at part (Some place) value state rules long = length-map part.bound.spec.down_step _ ∙ length-down_step part.bound rules

pub length-up_at : (part : Part) (place : Option ℕ) (value : ℕ) (state : List Prop) → IsBound part.bound → length state ≡ up_width part → length (up_at part place value state) ≡ up_width part
length-up_at part None value state rules long = long
length-up_at part (Some place) value state rules long = length-map part.bound.spec.up_step _ ∙ length-up_step part.bound rules

pub length-part_down : (part : Part) (variable value : ℕ) (state : List Prop) → IsBound part.bound → length state ≡ down_width part → length (part_down part variable value state) ≡ down_width part
length-part_down part variable value state rules long = length-down_at part (place_in part.scope variable) value state rules long

pub length-part_up : (part : Part) (variable value : ℕ) (state : List Prop) → IsBound part.bound → length state ≡ up_width part → length (part_up part variable value state) ≡ up_width part
length-part_up part variable value state rules long = length-up_at part (place_in part.scope variable) value state rules long

module _ (part : Part) (parts : List Part) (variable value : ℕ) where
  pub down_side_by_side : (mine others : List Prop) → length mine ≡ down_width part → down_of (part ∷ parts) variable value (mine ++ others) ≡ part_down part variable value mine ++ down_of parts variable value others
  down_side_by_side mine others long =
      ap (λ s. part_down part variable value s ++ down_of parts variable value (drop (down_width part) (mine ++ others))) (take_front (down_width part) mine others long)
      ∙ ap (λ s. part_down part variable value mine ++ down_of parts variable value s) (drop_front (down_width part) mine others long)

  pub up_side_by_side : (mine others : List Prop) → length mine ≡ up_width part → up_of (part ∷ parts) variable value (mine ++ others) ≡ part_up part variable value mine ++ up_of parts variable value others
  up_side_by_side mine others long =
      ap (λ s. part_up part variable value s ++ up_of parts variable value (drop (up_width part) (mine ++ others))) (take_front (up_width part) mine others long)
      ∙ ap (λ s. part_up part variable value mine ++ up_of parts variable value s) (drop_front (up_width part) mine others long)

  pub passes_side_by_side : (best : ℤ) (down downs up ups : List Prop) → length down ≡ down_width part → length up ≡ up_width part → passes_of (part ∷ parts) variable value best (down ++ downs) (up ++ ups) ≡ (part_passes part variable value best down up && passes_of parts variable value best downs ups)
  passes_side_by_side best down downs up ups long high =
      ap (λ s. part_passes part variable value best s (take (up_width part) (up ++ ups)) && passes_of parts variable value best (drop (down_width part) (down ++ downs)) (drop (up_width part) (up ++ ups))) (take_front (down_width part) down downs long)
      ∙ (ap (λ s. part_passes part variable value best down s && passes_of parts variable value best (drop (down_width part) (down ++ downs)) (drop (up_width part) (up ++ ups))) (take_front (up_width part) up ups high)
      ∙ (ap (λ s. part_passes part variable value best down up && passes_of parts variable value best s (drop (up_width part) (up ++ ups))) (drop_front (down_width part) down downs long)
      ∙ ap (λ s. part_passes part variable value best down up && passes_of parts variable value best downs s) (drop_front (up_width part) up ups high)))
