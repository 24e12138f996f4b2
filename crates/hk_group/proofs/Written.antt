-- What is written over a state part after part.
use Rattle.std.proofs.Common.{◌≡◌, ℕ, ◌+◌, ◌<◌, ◌≤◌, List, [], ◌∷◌, ◌++◌, length, take, drop, get_or, Option, None, arith, ap, sym, ◌∙◌, subst}
use Rattle.std.proofs.lemmas.Grind.{common_steps}
use Rattle.std.proofs.lemmas.List.{drop-drop, drop_more, length-append, length-drop, length-map, length-take-le, take_all, drop_all, append-nil}
use Rattle.std.proofs.lemmas.Slice.Zip.{AllZip-long}
use Rattle.hk_kinds.proofs.StateLaws.{length-HasShape}
use Rattle.hk_kinds.specs.Parts.{part_at, with_part}
use Rattle.hk_kinds.specs.Shapes.{HasShape}
use Rattle.hk_kinds.specs.declared.properties.Prop.{Prop}
use Rattle.hk_spec.specs.Specifications.{IsBound, down_shape, up_shape}
use Rattle.hk_group.specs.Groups.{Part, down_at, up_at, down_width, up_width, down_shape_of, up_shape_of}
use Rattle.hk_group.specs.inside.Placed.{ArePlaces, down_by, up_by}
use Rattle.hk_group.proofs.PartStates.{take_front, length-down_at, length-up_at}
use Rattle.hk_group.proofs.PartsRevised.{down_shape_front, down_shape_back, up_shape_front, up_shape_back}

pub append_apart : (xs ys zs : List Prop) → xs ++ (ys ++ zs) ≡ (xs ++ ys) ++ zs
append_apart xs ys zs = grind (arith, common_steps)

-- what is written up to the end of a part is what was before it, and the part
pub take_part : (first count : ℕ) (new to : List Prop) → first ≤ length to → length new ≡ count → take (first + count) (with_part first new to) ≡ take first to ++ new
take_part first count new to within long =
    let front : length (take first to ++ new) ≡ first + count = length-append (take first to) new ∙ omega (arith, length-take-le first to within) in
    ap (take (first + count)) (append_apart (take first to) new (drop (first + length new) to)) ∙ take_front (first + count) (take first to ++ new) _ front

-- a part written within a state leaves its number of properties
pub length-with_part : (first : ℕ) (new to : List Prop) → first + length new ≤ length to → length (with_part first new to) ≡ length to
length-with_part first new to within =
    let early : length (take first to) ≡ first = length-take-le first to (omega arith) in
    length-append (take first to) (new ++ drop (first + length new) to) ∙ omega (arith, early, length-append new (drop (first + length new) to), length-drop (first + length new) to)

-- a list's rest is its next item and the rest from there on
pub left_of : {A : Type 0} (xs : List A) (k : ℕ) (x : A) → k < length xs → x ≡ get_or xs k x → drop k xs ≡ x ∷ drop (k + 1) xs
left_of xs k x within is = drop_more xs k x within ∙ ap (λ y. y ∷ drop (k + 1) xs) (sym is)

shape_long : (part : Part) (state : List Prop) → HasShape (down_shape part.bound.spec) state → length state ≡ down_width part
shape_long part state h = length-HasShape h ∙ length-map part.bound.spec.down _

up_shape_long : (part : Part) (state : List Prop) → HasShape (up_shape part.bound.spec) state → length state ≡ up_width part
up_shape_long part state h = length-HasShape h ∙ length-map part.bound.spec.up _

-- one part of a state's down side
module _ (part : Part) (parts : List Part) (first : ℕ) (from : List Prop) (shape : HasShape (down_shape_of (part ∷ parts)) (drop first from)) where
  pub down_own : HasShape (down_shape part.bound.spec) (part_at first (down_width part) from)
  down_own = down_shape_front part (down_shape_of parts) (drop first from) shape

  pub down_rest : HasShape (down_shape_of parts) (drop (first + down_width part) from)
  down_rest = subst (HasShape (down_shape_of parts)) (drop-drop (down_width part) first from) (down_shape_back part (down_shape_of parts) (drop first from) shape)

  down_long : length (part_at first (down_width part) from) ≡ down_width part
  down_long = shape_long part _ down_own

  pub down_end : first ≤ length from → first + down_width part ≤ length from
  down_end within =
      let cut : length (take (down_width part) (drop first from)) ≤ length (drop first from) = length-take-at_most (down_width part) (drop first from) in
      omega (arith, cut, down_long, length-drop first from)
    where
      length-take-at_most : (n : ℕ) (xs : List Prop) → length (take n xs) ≤ length xs
      length-take-at_most n xs = grind (arith, common_steps)

  module _ (rules : IsBound part.bound) (place : Option ℕ) (places : List (Option ℕ)) (value : ℕ) (to next : List Prop) (within : first ≤ length from) (long : length to ≡ length from)
      (written : next ≡ with_part first (down_at part place value (part_at first (down_width part) from)) to) where
    new_down : length (down_at part place value (part_at first (down_width part) from)) ≡ down_width part
    new_down = length-down_at part place value _ rules down_long

    pub down_kept : length next ≡ length from
    down_kept = ap length written ∙ (length-with_part first _ to (let end : first + down_width part ≤ length from = down_end within in omega (arith, new_down)) ∙ long)

    pub down_due : (whole : List Prop) → whole ≡ take first to ++ down_by (part ∷ parts) (place ∷ places) value (drop first from) → whole ≡ take (first + down_width part) next ++ down_by parts places value (drop (first + down_width part) from)
    down_due whole due =
        due
        ∙ (append_apart (take first to) (down_at part place value (part_at first (down_width part) from)) (down_by parts places value (drop (down_width part) (drop first from)))
        ∙ (ap (λ front. front ++ down_by parts places value (drop (down_width part) (drop first from))) (sym (ap (take (first + down_width part)) written ∙ take_part first (down_width part) _ to (omega arith) new_down))
        ∙ ap (λ rest. take (first + down_width part) next ++ down_by parts places value rest) (drop-drop (down_width part) first from)))

-- what is known where the down steps of the parts from the k-th on are left: what the state has up to a place is written
pub record DownsLeft (parts : List Part) (places : List (Option ℕ)) (value : ℕ) (from : List Prop) (k first : ℕ) (to : List Prop) : Type 0 where
  pub due : down_by parts places value from ≡ take first to ++ down_by (drop k parts) (drop k places) value (drop first from)
  pub shape : HasShape (down_shape_of (drop k parts)) (drop first from)
  pub fit : ArePlaces (drop k parts) (drop k places)
  pub long : length to ≡ length from
  pub within : first ≤ length from

pub downs_end : (parts : List Part) (places : List (Option ℕ)) (value : ℕ) (from : List Prop) (k first : ℕ) (to : List Prop) → DownsLeft parts places value from k first to → length parts ≤ k → to ≡ down_by parts places value from
downs_end parts places value from k first to left end =
    let none : drop k parts ≡ [] = drop_all k parts end in
    let empty : HasShape [] (drop first from) = subst (λ l. HasShape (down_shape_of l) (drop first from)) none left.shape in
    let done : length to ≤ first = omega (arith, length-HasShape empty, length-drop first from, left.long) in
    sym (left.due ∙ (ap (λ l. take first to ++ down_by l (drop k places) value (drop first from)) none ∙ (append-nil (take first to) ∙ take_all first to done)))

module _ (parts : List Part) (places : List (Option ℕ)) (value : ℕ) (from : List Prop) (k first : ℕ) (to : List Prop) (left : DownsLeft parts places value from k first to) (within : k < length parts) (part : Part) (is : part ≡ get_or parts k part) where
  down_parts : drop k parts ≡ part ∷ drop (k + 1) parts
  down_parts = left_of parts k part within is

  down_shape_left : HasShape (down_shape_of (part ∷ drop (k + 1) parts)) (drop first from)
  down_shape_left = subst (λ l. HasShape (down_shape_of l) (drop first from)) down_parts left.shape

  pub down_turn_own : HasShape (down_shape part.bound.spec) (part_at first (down_width part) from)
  down_turn_own = down_own part (drop (k + 1) parts) first from down_shape_left

  pub down_turn_end : first + down_width part ≤ length from
  down_turn_end = down_end part (drop (k + 1) parts) first from down_shape_left left.within

  pub down_turn_room : down_width part ≤ length (drop first to)
  down_turn_room = let end : first + down_width part ≤ length from = down_turn_end in omega (arith, left.long, length-drop first to)

  module _ (place : Option ℕ) (at : place ≡ get_or places k None) where
    down_places : drop k places ≡ place ∷ drop (k + 1) places
    down_places =
        let long : length (drop k places) ≡ length (drop k parts) = AllZip-long _ _ _ left.fit in
        let inside : k < length places = omega (arith, length-drop k places, length-drop k parts) in
        drop_more places k None inside ∙ ap (λ y. y ∷ drop (k + 1) places) (sym at)

    down_fit : ArePlaces (part ∷ drop (k + 1) parts) (place ∷ drop (k + 1) places)
    down_fit = subst (λ l. ArePlaces (part ∷ drop (k + 1) parts) l) down_places (subst (λ l. ArePlaces l (drop k places)) down_parts left.fit)

    pub down_turn : (count : ℕ) (next : List Prop) → IsBound part.bound → count ≡ down_width part → next ≡ with_part first (down_at part place value (part_at first (down_width part) from)) to → DownsLeft parts places value from (k + 1) (first + count) next
    down_turn count next rules many written = subst (λ n. DownsLeft parts places value from (k + 1) (first + n) next) (sym many) (record {
      due = down_due part (drop (k + 1) parts) first from down_shape_left rules place (drop (k + 1) places) value to next left.within left.long written _ (left.due ∙ ap (λ l. take first to ++ down_by l (drop k places) value (drop first from)) down_parts ∙ ap (λ l. take first to ++ down_by (part ∷ drop (k + 1) parts) l value (drop first from)) down_places);
      shape = down_rest part (drop (k + 1) parts) first from down_shape_left;
      fit = down_fit.1;
      long = down_kept part (drop (k + 1) parts) first from down_shape_left rules place (drop (k + 1) places) value to next left.within left.long written;
      within = down_turn_end;
    })

-- one part of a state's up side
module _ (part : Part) (parts : List Part) (first : ℕ) (from : List Prop) (shape : HasShape (up_shape_of (part ∷ parts)) (drop first from)) where
  pub up_own : HasShape (up_shape part.bound.spec) (part_at first (up_width part) from)
  up_own = up_shape_front part (up_shape_of parts) (drop first from) shape

  pub up_rest : HasShape (up_shape_of parts) (drop (first + up_width part) from)
  up_rest = subst (HasShape (up_shape_of parts)) (drop-drop (up_width part) first from) (up_shape_back part (up_shape_of parts) (drop first from) shape)

  up_long : length (part_at first (up_width part) from) ≡ up_width part
  up_long = up_shape_long part _ up_own

  pub up_end : first ≤ length from → first + up_width part ≤ length from
  up_end within =
      let cut : length (take (up_width part) (drop first from)) ≤ length (drop first from) = length-take-at_most (up_width part) (drop first from) in
      omega (arith, cut, up_long, length-drop first from)
    where
      length-take-at_most : (n : ℕ) (xs : List Prop) → length (take n xs) ≤ length xs
      length-take-at_most n xs = grind (arith, common_steps)

  module _ (rules : IsBound part.bound) (place : Option ℕ) (places : List (Option ℕ)) (value : ℕ) (to next : List Prop) (within : first ≤ length from) (long : length to ≡ length from)
      (written : next ≡ with_part first (up_at part place value (part_at first (up_width part) from)) to) where
    new_up : length (up_at part place value (part_at first (up_width part) from)) ≡ up_width part
    new_up = length-up_at part place value _ rules up_long

    pub up_kept : length next ≡ length from
    up_kept = ap length written ∙ (length-with_part first _ to (let end : first + up_width part ≤ length from = up_end within in omega (arith, new_up)) ∙ long)

    pub up_due : (whole : List Prop) → whole ≡ take first to ++ up_by (part ∷ parts) (place ∷ places) value (drop first from) → whole ≡ take (first + up_width part) next ++ up_by parts places value (drop (first + up_width part) from)
    up_due whole due =
        due
        ∙ (append_apart (take first to) (up_at part place value (part_at first (up_width part) from)) (up_by parts places value (drop (up_width part) (drop first from)))
        ∙ (ap (λ front. front ++ up_by parts places value (drop (up_width part) (drop first from))) (sym (ap (take (first + up_width part)) written ∙ take_part first (up_width part) _ to (omega arith) new_up))
        ∙ ap (λ rest. take (first + up_width part) next ++ up_by parts places value rest) (drop-drop (up_width part) first from)))

-- what is known where the up steps of the parts from the k-th on are left: what the state has up to a place is written
pub record UpsLeft (parts : List Part) (places : List (Option ℕ)) (value : ℕ) (from : List Prop) (k first : ℕ) (to : List Prop) : Type 0 where
  pub due : up_by parts places value from ≡ take first to ++ up_by (drop k parts) (drop k places) value (drop first from)
  pub shape : HasShape (up_shape_of (drop k parts)) (drop first from)
  pub fit : ArePlaces (drop k parts) (drop k places)
  pub long : length to ≡ length from
  pub within : first ≤ length from

pub ups_end : (parts : List Part) (places : List (Option ℕ)) (value : ℕ) (from : List Prop) (k first : ℕ) (to : List Prop) → UpsLeft parts places value from k first to → length parts ≤ k → to ≡ up_by parts places value from
ups_end parts places value from k first to left end =
    let none : drop k parts ≡ [] = drop_all k parts end in
    let empty : HasShape [] (drop first from) = subst (λ l. HasShape (up_shape_of l) (drop first from)) none left.shape in
    let done : length to ≤ first = omega (arith, length-HasShape empty, length-drop first from, left.long) in
    sym (left.due ∙ (ap (λ l. take first to ++ up_by l (drop k places) value (drop first from)) none ∙ (append-nil (take first to) ∙ take_all first to done)))

module _ (parts : List Part) (places : List (Option ℕ)) (value : ℕ) (from : List Prop) (k first : ℕ) (to : List Prop) (left : UpsLeft parts places value from k first to) (within : k < length parts) (part : Part) (is : part ≡ get_or parts k part) where
  up_parts : drop k parts ≡ part ∷ drop (k + 1) parts
  up_parts = left_of parts k part within is

  up_shape_left : HasShape (up_shape_of (part ∷ drop (k + 1) parts)) (drop first from)
  up_shape_left = subst (λ l. HasShape (up_shape_of l) (drop first from)) up_parts left.shape

  pub up_turn_own : HasShape (up_shape part.bound.spec) (part_at first (up_width part) from)
  up_turn_own = up_own part (drop (k + 1) parts) first from up_shape_left

  pub up_turn_end : first + up_width part ≤ length from
  up_turn_end = up_end part (drop (k + 1) parts) first from up_shape_left left.within

  pub up_turn_room : up_width part ≤ length (drop first to)
  up_turn_room = let end : first + up_width part ≤ length from = up_turn_end in omega (arith, left.long, length-drop first to)

  module _ (place : Option ℕ) (at : place ≡ get_or places k None) where
    up_places : drop k places ≡ place ∷ drop (k + 1) places
    up_places =
        let long : length (drop k places) ≡ length (drop k parts) = AllZip-long _ _ _ left.fit in
        let inside : k < length places = omega (arith, length-drop k places, length-drop k parts) in
        drop_more places k None inside ∙ ap (λ y. y ∷ drop (k + 1) places) (sym at)

    up_fit : ArePlaces (part ∷ drop (k + 1) parts) (place ∷ drop (k + 1) places)
    up_fit = subst (λ l. ArePlaces (part ∷ drop (k + 1) parts) l) up_places (subst (λ l. ArePlaces l (drop k places)) up_parts left.fit)

    pub up_turn : (count : ℕ) (next : List Prop) → IsBound part.bound → count ≡ up_width part → next ≡ with_part first (up_at part place value (part_at first (up_width part) from)) to → UpsLeft parts places value from (k + 1) (first + count) next
    up_turn count next rules many written = subst (λ n. UpsLeft parts places value from (k + 1) (first + n) next) (sym many) (record {
      due = up_due part (drop (k + 1) parts) first from up_shape_left rules place (drop (k + 1) places) value to next left.within left.long written _ (left.due ∙ ap (λ l. take first to ++ up_by l (drop k places) value (drop first from)) up_parts ∙ ap (λ l. take first to ++ up_by (part ∷ drop (k + 1) parts) l value (drop first from)) up_places);
      shape = up_rest part (drop (k + 1) parts) first from up_shape_left;
      fit = up_fit.1;
      long = up_kept part (drop (k + 1) parts) first from up_shape_left rules place (drop (k + 1) places) value to next left.within left.long written;
      within = up_turn_end;
    })
