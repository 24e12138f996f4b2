-- What becomes of the values of a row: by the tests of one value, and as the definitions say it.
use Rattle.std.proofs.Common.{◌≡◌, ◌↔◌, ℕ, Bool, true, false, ◌==◌, if◌then◌else◌, IsTrue, List, [], ◌∷◌, ◌++◌, map, refl, sym, ◌∙◌, ap}
use Rattle.std.proofs.lemmas.List.{append_assoc}
use Rattle.std.specs.Int.{bit_at}
use Rattle.hk_group.specs.Groups.{group_up_shape, group_down, group_passes}
use Rattle.hk_kinds.specs.Tops.{top_state}
use Rattle.hk_kinds.specs.declared.properties.Prop.{Prop}
use Rattle.hk_layers.specs.Layers.{Half, Mark, is_gone, is_cut, goes_on, mark_by, targets}
use Rattle.hk_layers.specs.Spots.{PlainSpot, mark_at}
use Rattle.hk_layers.specs.Transitions.{transitions_of}
use Rattle.hk_layers.specs.inside.Marked.{flat_marks}
use Rattle.hk_layers.specs.inside.Marking.{mark_from, row_marks}
use Rattle.hk_layers.specs.inside.Targets.{targets_at}
use Rattle.hk_table.specs.Tables.{PlainRow}
use Rattle.hk_text.specs.Sets.{members}

-- a value that leads to no old row is gone, and so is one that the domain lacks
pub gone_without : (spot : PlainSpot) (down : List Prop) (value : ℕ) (targets : List ℕ) → targets ≡ [] → mark_from spot down value targets ≡ is_gone
gone_without spot down value targets none = ap (mark_from spot down value) none

pub gone_outside : (spot : PlainSpot) (down : List Prop) (value : ℕ) (targets : List ℕ) → (bit_at spot.domain value == 1) ≡ false → mark_from spot down value targets ≡ is_gone
gone_outside spot down value [] lacks = refl
gone_outside spot down value (c ∷ more) lacks = rw lacks refl

-- of the others the test decides
pub tested : (spot : PlainSpot) (down : List Prop) (value : ℕ) (targets : List ℕ) (empty passes : Bool) → (IsTrue empty ↔ (targets ≡ [])) → empty ≡ false → (bit_at spot.domain value == 1) ≡ true
    → group_passes spot.group spot.layer value spot.best down (top_state (group_up_shape spot.group)) ≡ passes → mark_from spot down value targets ≡ (if passes then goes_on (group_down spot.group spot.layer value down) targets else is_cut)
tested spot down value [] empty passes tells some has passing = let is : false ≡ true = sym some ∙ tells.1 refl in cc
tested spot down value (c ∷ more) empty passes tells some has passing = rw (has, passing) refl

-- the mark of a row's first value is one more, and those of the others are left
pub marks_more : (spot : PlainSpot) (down : List Prop) (done new whole : List Mark) (values rest : List ℕ) (lists others : List (List ℕ)) (value : ℕ) (targets : List ℕ) → values ≡ value ∷ rest → lists ≡ targets ∷ others
    → new ≡ done ++ mark_from spot down value targets ∷ [] → whole ≡ done ++ row_marks spot down values lists → whole ≡ new ++ row_marks spot down rest others
marks_more spot down done new whole values rest lists others value targets values_are lists_are more so_far =
    so_far
    ∙ ap (λ vs. done ++ row_marks spot down vs lists) values_are
    ∙ ap (λ ls. done ++ row_marks spot down (value ∷ rest) ls) lists_are
    ∙ sym (append_assoc done (mark_from spot down value targets ∷ []) (row_marks spot down rest others))
    ∙ ap (λ marks. marks ++ row_marks spot down rest others) (sym more)

-- a down state and the old rows that a value leads to say what becomes of it
mark_same : (spot : PlainSpot) (half : Half) (value : ℕ) (targets : List ℕ) → mark_from spot half.down value targets ≡ mark_by (transitions_of spot.group) spot.best spot.layer spot.domain half value targets
mark_same spot half value [] = refl
mark_same spot half value (c ∷ more) = refl

module _ (spot : PlainSpot) (old old_next : List PlainRow) where
  -- the marks of a row, by the old rows that its values lead to
  row_same : (half : Half) (values : List ℕ) → row_marks spot half.down values (map (λ value. targets (members spot.values) old old_next half.from value) values) ≡ map (λ value. mark_at spot old old_next half value) values
  row_same half [] = refl
  row_same half (value ∷ values) = cc (mark_same spot half value (targets (members spot.values) old old_next half.from value), row_same half values)

  -- the marks of a layer's first row are so many more, and those of the others are left
  pub rows_more : (whole done new : List Mark) (halves rest : List Half) (half : Half) (down : List Prop) (from : List ℕ) (lists : List (List ℕ)) → halves ≡ half ∷ rest → down ≡ half.down → from ≡ half.from → lists ≡ targets_at spot old old_next from
      → new ≡ done ++ row_marks spot down (members spot.values) lists → whole ≡ done ++ flat_marks (mark_at spot old old_next) (members spot.values) halves → whole ≡ new ++ flat_marks (mark_at spot old old_next) (members spot.values) rest
  rows_more whole done new halves rest half down from lists halves_are down_is from_is lists_are more so_far =
      let values = members spot.values in
      let marks = mark_at spot old old_next in
      let row : row_marks spot down values lists ≡ map (λ value. marks half value) values =
      ap (row_marks spot down values) (lists_are ∙ ap (targets_at spot old old_next) from_is)
      ∙ ap (λ state. row_marks spot state values (targets_at spot old old_next half.from)) down_is
      ∙ row_same half values in
      so_far
      ∙ ap (λ hs. done ++ flat_marks marks values hs) halves_are
      ∙ sym (append_assoc done (map (λ value. marks half value) values) (flat_marks marks values rest))
      ∙ ap (λ ms. ms ++ flat_marks marks values rest) (sym (more ∙ ap (λ ms. done ++ ms) row))
