-- What is written where the initial values of parts are written part after part.
use Rattle.std.proofs.Common.{◌≡◌, ℕ, ◌+◌, ◌<◌, ◌≤◌, List, [], ◌∷◌, ◌++◌, length, take, drop, get_or, arith, ap, sym, ◌∙◌, subst}
use Rattle.std.proofs.lemmas.List.{length-append, length-drop, length-map, take_all, drop_all, append-nil}
use Rattle.hk_kinds.specs.Parts.{with_part}
use Rattle.hk_kinds.specs.declared.properties.Prop.{Prop}
use Rattle.hk_spec.specs.Specifications.{initial_values, down_shape, up_shape}
use Rattle.hk_group.specs.Groups.{Part, down_width, up_width, down_shape_of, up_shape_of, initial_down_of, initial_up_of}
use Rattle.hk_group.proofs.Written.{left_of, append_apart, take_part, length-with_part}

-- what is known where the initial down values of the parts from the k-th on are left
pub record DownsToBegin (parts : List Part) (k first : ℕ) (to : List Prop) : Type 0 where
  pub due : initial_down_of parts ≡ take first to ++ initial_down_of (drop k parts)
  pub room : length to ≡ first + length (down_shape_of (drop k parts))
  pub whole : length to ≡ length (down_shape_of parts)

pub downs_last : (parts : List Part) (k first : ℕ) (to : List Prop) → DownsToBegin parts k first to → length parts ≤ k → to ≡ initial_down_of parts
downs_last parts k first to left end =
    let none : drop k parts ≡ [] = drop_all k parts end in
    let whole : length to ≡ first + 0 = left.room ∙ ap (λ l. first + length (down_shape_of l)) none in
    sym (left.due ∙ (ap (λ l. take first to ++ initial_down_of l) none ∙ (append-nil (take first to) ∙ take_all first to (omega arith))))

module _ (parts : List Part) (k first : ℕ) (to : List Prop) (left : DownsToBegin parts k first to) (within : k < length parts) (part : Part) (is : part ≡ get_or parts k part) where
  down_parts : drop k parts ≡ part ∷ drop (k + 1) parts
  down_parts = left_of parts k part within is

  down_split : length to ≡ first + (down_width part + length (down_shape_of (drop (k + 1) parts)))
  down_split =
      let own : length (down_shape part.bound.spec) ≡ down_width part = length-map part.bound.spec.down _ in
      left.room ∙ (ap (λ l. first + length (down_shape_of l)) down_parts ∙ omega (arith, own, length-append (down_shape part.bound.spec) (down_shape_of (drop (k + 1) parts))))

  pub down_begin_end : first + down_width part ≤ length to
  down_begin_end = omega (arith, down_split)

  pub down_begin_room : down_width part ≤ length (drop first to)
  down_begin_room = omega (arith, down_split, length-drop first to)

  pub down_begin_turn : (count : ℕ) (next : List Prop) → count ≡ down_width part → next ≡ with_part first (initial_values part.bound.spec.down) to → DownsToBegin parts (k + 1) (first + count) next
  down_begin_turn count next many written =
      let long : length (initial_values part.bound.spec.down) ≡ down_width part = length-map part.bound.spec.down _ in
      let kept : length next ≡ length to = ap length written ∙ length-with_part first _ to (omega (arith, down_split, long)) in
      subst (λ n. DownsToBegin parts (k + 1) (first + n) next) (sym many) (record {
        due =
            left.due
            ∙ (ap (λ l. take first to ++ initial_down_of l) down_parts
            ∙ (append_apart (take first to) (initial_values part.bound.spec.down) (initial_down_of (drop (k + 1) parts))
            ∙ ap (λ front. front ++ initial_down_of (drop (k + 1) parts)) (sym (ap (take (first + down_width part)) written ∙ take_part first (down_width part) _ to (omega (arith, down_split)) long))));
        room = omega (arith, kept, down_split);
        whole = kept ∙ left.whole;
      })

-- what is known where the initial up values of the parts from the k-th on are left
pub record UpsToBegin (parts : List Part) (k first : ℕ) (to : List Prop) : Type 0 where
  pub due : initial_up_of parts ≡ take first to ++ initial_up_of (drop k parts)
  pub room : length to ≡ first + length (up_shape_of (drop k parts))
  pub whole : length to ≡ length (up_shape_of parts)

pub ups_last : (parts : List Part) (k first : ℕ) (to : List Prop) → UpsToBegin parts k first to → length parts ≤ k → to ≡ initial_up_of parts
ups_last parts k first to left end =
    let none : drop k parts ≡ [] = drop_all k parts end in
    let whole : length to ≡ first + 0 = left.room ∙ ap (λ l. first + length (up_shape_of l)) none in
    sym (left.due ∙ (ap (λ l. take first to ++ initial_up_of l) none ∙ (append-nil (take first to) ∙ take_all first to (omega arith))))

module _ (parts : List Part) (k first : ℕ) (to : List Prop) (left : UpsToBegin parts k first to) (within : k < length parts) (part : Part) (is : part ≡ get_or parts k part) where
  up_parts : drop k parts ≡ part ∷ drop (k + 1) parts
  up_parts = left_of parts k part within is

  up_split : length to ≡ first + (up_width part + length (up_shape_of (drop (k + 1) parts)))
  up_split =
      let own : length (up_shape part.bound.spec) ≡ up_width part = length-map part.bound.spec.up _ in
      left.room ∙ (ap (λ l. first + length (up_shape_of l)) up_parts ∙ omega (arith, own, length-append (up_shape part.bound.spec) (up_shape_of (drop (k + 1) parts))))

  pub up_begin_end : first + up_width part ≤ length to
  up_begin_end = omega (arith, up_split)

  pub up_begin_room : up_width part ≤ length (drop first to)
  up_begin_room = omega (arith, up_split, length-drop first to)

  pub up_begin_turn : (count : ℕ) (next : List Prop) → count ≡ up_width part → next ≡ with_part first (initial_values part.bound.spec.up) to → UpsToBegin parts (k + 1) (first + count) next
  up_begin_turn count next many written =
      let long : length (initial_values part.bound.spec.up) ≡ up_width part = length-map part.bound.spec.up _ in
      let kept : length next ≡ length to = ap length written ∙ length-with_part first _ to (omega (arith, up_split, long)) in
      subst (λ n. UpsToBegin parts (k + 1) (first + n) next) (sym many) (record {
        due =
            left.due
            ∙ (ap (λ l. take first to ++ initial_up_of l) up_parts
            ∙ (append_apart (take first to) (initial_values part.bound.spec.up) (initial_up_of (drop (k + 1) parts))
            ∙ ap (λ front. front ++ initial_up_of (drop (k + 1) parts)) (sym (ap (take (first + up_width part)) written ∙ take_part first (up_width part) _ to (omega (arith, up_split)) long))));
        room = omega (arith, kept, up_split);
        whole = kept ∙ left.whole;
      })
