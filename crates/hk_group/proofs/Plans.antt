-- The places that a group's plan has for a layer.
use Rattle.std.proofs.Common.{◌≡◌, ℕ, ℤ, ◌&&◌, zero, suc, ◌+◌, ◌*◌, ◌<◌, ◌≤◌, List, [], ◌∷◌, ◌++◌, length, take, drop, slice_index, Option, None, Some, All, arith, ap, refl, sym, ◌∙◌, subst}
use Rattle.std.proofs.lemmas.List.{length-map, length-append, drop-drop}
use Rattle.std.proofs.lemmas.List.Elements.{All-head, All-tail}
use Rattle.std.proofs.Math.Seq.{drop-append_seam, take-append_seam}
use Rattle.hk_kinds.specs.declared.properties.Prop.{Prop}
use Rattle.hk_group.specs.Composed.{places_of, plan_of}
use Rattle.hk_group.specs.Groups.{Part, IsPart, place_in, down_at, up_at, passes_at, down_of, up_of, passes_of, down_width, up_width}
use Rattle.hk_group.specs.inside.Placed.{IsPlaceOf, ArePlaces, down_by, up_by, passes_by}
use Rattle.hk_group.proofs.PartsRevised.{place_within}

times_more : (layer n : ℕ) → suc layer * n ≡ n + layer * n
times_more layer n = grind arith

module _ (parts : List Part) where
  one_long : (variable : ℕ) → length (places_of parts variable) ≡ length parts
  one_long variable = length-map parts _

  past_one : (variable n : ℕ) (rest : List (Option ℕ)) → drop (length parts + n) (places_of parts variable ++ rest) ≡ drop n rest
  past_one variable n rest =
      sym (drop-drop n (length parts) (places_of parts variable ++ rest))
      ∙ ap (drop n) (ap (λ m. drop m (places_of parts variable ++ rest)) (sym (one_long variable)) ∙ drop-append_seam (places_of parts variable) rest)

  -- the plan has as many places as parts for each layer
  pub plan_long : (vars : List ℕ) (layer : ℕ) → layer < length vars → layer * length parts + length parts ≤ length (plan_of parts vars)
  plan_long [] layer within = absurd (omega arith)
  plan_long (x ∷ vars) zero within =
      let none : 0 * length parts ≡ 0 = grind arith in
      omega (arith, length-append (places_of parts x) (plan_of parts vars), one_long x)
  plan_long (x ∷ vars) (suc layer) within =
      let later : layer * length parts + length parts ≤ length (plan_of parts vars) = plan_long vars layer (omega arith) in
      omega (arith, times_more layer (length parts), length-append (places_of parts x) (plan_of parts vars), one_long x)

  -- and they are those of the layer's variable
  pub plan_at : (vars : List ℕ) (layer : ℕ) → layer < length vars → take (length parts) (drop (layer * length parts) (plan_of parts vars)) ≡ places_of parts (slice_index vars layer)
  plan_at [] layer within = absurd (omega arith)
  plan_at (x ∷ vars) zero within =
      let none : 0 * length parts ≡ 0 = grind arith in
      ap (λ n. take (length parts) (drop n (plan_of parts (x ∷ vars)))) none
      ∙ (ap (λ n. take n (places_of parts x ++ plan_of parts vars)) (sym (one_long x)) ∙ take-append_seam (places_of parts x) (plan_of parts vars))
  plan_at (x ∷ vars) (suc layer) within =
      ap (λ n. take (length parts) (drop n (places_of parts x ++ plan_of parts vars))) (times_more layer (length parts))
      ∙ (ap (take (length parts)) (past_one x (layer * length parts) (plan_of parts vars)) ∙ plan_at vars layer (omega arith))

is_place : (part : Part) → IsPart part → (variable : ℕ) (place : Option ℕ) → place_in part.scope variable ≡ place → IsPlaceOf part place
is_place part rules variable None at = tt
is_place part rules variable (Some place) at = place_within part rules variable place at

-- the places of a variable are positions of the parts' specifications
pub are_places : (parts : List Part) (variable : ℕ) → All IsPart parts → ArePlaces parts (places_of parts variable)
are_places [] variable rules = tt
are_places (part ∷ parts) variable rules = (is_place part (All-head IsPart part parts rules) variable _ refl, are_places parts variable (All-tail IsPart part parts rules))

-- steps and tests at the places of a variable are those of the variable
pub down_by_is : (parts : List Part) (variable value : ℕ) (state : List Prop) → down_by parts (places_of parts variable) value state ≡ down_of parts variable value state
down_by_is [] variable value state = refl
down_by_is (part ∷ parts) variable value state = ap (λ rest. down_at part (place_in part.scope variable) value (take (down_width part) state) ++ rest) (down_by_is parts variable value (drop (down_width part) state))

pub up_by_is : (parts : List Part) (variable value : ℕ) (state : List Prop) → up_by parts (places_of parts variable) value state ≡ up_of parts variable value state
up_by_is [] variable value state = refl
up_by_is (part ∷ parts) variable value state = ap (λ rest. up_at part (place_in part.scope variable) value (take (up_width part) state) ++ rest) (up_by_is parts variable value (drop (up_width part) state))

pub passes_by_is : (parts : List Part) (variable value : ℕ) (best : ℤ) (down up : List Prop) → passes_by parts (places_of parts variable) value best down up ≡ passes_of parts variable value best down up
passes_by_is [] variable value best down up = refl
passes_by_is (part ∷ parts) variable value best down up = ap (λ rest. passes_at part (place_in part.scope variable) value best (take (down_width part) down) (take (up_width part) up) && rest) (passes_by_is parts variable value best (drop (down_width part) down) (drop (up_width part) up))

-- the same of what is kept of a group
module _ (parts : List Part) (vars : List ℕ) (places : List (Option ℕ)) (layer count : ℕ) (plan : places ≡ plan_of parts vars) (many : count ≡ length parts) (within : layer < length vars) where
  pub row_fits : layer * count + count ≤ length places
  row_fits =
      let long : layer * length parts + length parts ≤ length (plan_of parts vars) = plan_long parts vars layer within in
      subst (λ n. layer * n + n ≤ length places) (sym many) (subst (λ p. layer * length parts + length parts ≤ length p) (sym plan) long)

  pub row_is : take count (drop (layer * count) places) ≡ places_of parts (slice_index vars layer)
  row_is = ap (λ n. take n (drop (layer * n) places)) many ∙ (ap (λ p. take (length parts) (drop (layer * length parts) p)) plan ∙ plan_at parts vars layer within)
