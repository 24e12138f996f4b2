-- The layers of a way down, and one more of them.
use Rattle.std.proofs.Common.{◌≡◌, ℕ, zero, suc, ◌<◌, ◌≤◌, ◌⊎◌, inl, inr, ⊎_elim, List, [], ◌∷◌, ◌++◌, length, map, take, get_or, set, slice_index, arith, refl, sym, ap, ◌∙◌, subst, subst₂, length-set, get_or-set_same, get_or-set_other}
use Rattle.hk_arena.specs.Diagrams.{DiagramLevels, rows_of}
use Rattle.hk_group.specs.Groups.{group_down_shape}
use Rattle.hk_layers.specs.Falling.{AreLong}
use Rattle.hk_layers.specs.Flat.{AreShaped}
use Rattle.hk_layers.specs.Spots.{IsSpot}
use Rattle.hk_table.specs.Fits.{LayersFit, layer_fits}
use Rattle.hk_table.specs.Tables.{PlainRow}
use Rattle.hk_kinds.specs.declared.kinds.Kind.{Kind}
use Rattle.hk_text.specs.Sets.{members}
use Rattle.hk_sweep.specs.inside.Fallen.{AreFallen, FallsTo, IsFallen, no_layer}
use Rattle.hk_sweep.specs.Views.{FallenView}
use Rattle.hk_sweep.specs.inside.Frames.{PlainFrame, IsFramed, spot_at}

-- ---- lists that end with one item

pub at_end : {A : Type 0} (n : ℕ) (xs : List A) (x d : A) → n ≤ length xs → get_or (take n xs ++ x ∷ []) n d ≡ x
at_end zero [] x d le = refl
at_end zero (y ∷ ys) x d le = refl
at_end (suc n) [] x d le = absurd (omega arith)
at_end (suc n) (y ∷ ys) x d le = at_end n ys x d (omega arith)

pub before_end : {A : Type 0} (n k : ℕ) (xs : List A) (x d : A) → k < n → n ≤ length xs → get_or (take n xs ++ x ∷ []) k d ≡ get_or xs k d
before_end zero k xs x d lt le = absurd (omega arith)
before_end (suc n) k [] x d lt le = absurd (omega arith)
before_end (suc n) zero (y ∷ ys) x d lt le = refl
before_end (suc n) (suc k) (y ∷ ys) x d lt le = before_end n k ys x d (omega arith) (omega arith)

pub length_to_end : {A : Type 0} (n : ℕ) (xs : List A) (x : A) → n ≤ length xs → length (take n xs ++ x ∷ []) ≡ suc n
length_to_end zero [] x le = refl
length_to_end zero (y ∷ ys) x le = refl
length_to_end (suc n) [] x le = absurd (omega arith)
length_to_end (suc n) (y ∷ ys) x le = ap suc (length_to_end n ys x (omega arith))

at_or_before : (k n : ℕ) → k ≤ n → (k < n) ⊎ (k ≡ n)
at_or_before zero zero le = inr refl
at_or_before zero (suc n) le = inl (omega arith)
at_or_before (suc k) zero le = absurd (omega arith)
at_or_before (suc k) (suc n) le = ⊎_elim (λ lt. inl (omega arith)) (λ e. inr (ap suc e)) (at_or_before k n (omega arith))

-- ---- one more layer

module _ (layers : List FallenView) (at : ℕ) (here left next : FallenView) (room : at < length layers) (same : left.halves ≡ here.halves) where
  -- the layers before one was left, and those after it
  abbrev before : List FallenView
  before = take at layers ++ here ∷ []

  abbrev after : List FallenView
  after = take (suc at) (set layers at left) ++ next ∷ []

  within : suc at ≤ length (set layers at left)
  within = omega (arith, length-set layers at left)

  -- those that were left before stay
  stays : (k : ℕ) → k < at → get_or after k no_layer ≡ get_or before k no_layer
  stays k lt =
      before_end (suc at) k (set layers at left) next no_layer (omega arith) within
      ∙ get_or-set_other layers at k left no_layer (λ e. absurd (omega (arith, e)))
      ∙ sym (before_end at k layers here no_layer lt (omega arith))

  left_at : get_or after at no_layer ≡ left
  left_at = before_end (suc at) at (set layers at left) next no_layer (omega arith) within ∙ get_or-set_same layers at left no_layer room

  here_stays : (get_or after at no_layer).halves ≡ (get_or before at no_layer).halves
  here_stays = ap (λ (l : FallenView). l.halves) left_at ∙ same ∙ sym (ap (λ (l : FallenView). l.halves) (at_end at layers here no_layer (omega arith)))

  -- the rows of all of them stay
  rows_stay : (k : ℕ) → k ≤ at → (get_or after k no_layer).halves ≡ (get_or before k no_layer).halves
  rows_stay k le = ⊎_elim
      (λ lt. ap (λ (l : FallenView). l.halves) (stays k lt))
      (λ e. subst (λ n. (get_or after n no_layer).halves ≡ (get_or before n no_layer).halves) (sym e) here_stays)
      (at_or_before k at le)

  module _ (frame : PlainFrame) (sets : List ℕ) (old : List (List PlainRow)) where
    -- a layer of a list leads on to the next one
    abbrev LeadsOn : List FallenView → ℕ → Type 0
    LeadsOn all k = FallsTo frame sets old k (get_or all k no_layer) (get_or all (suc k) no_layer).halves

    still_on : (k : ℕ) → k < at → LeadsOn before k → LeadsOn after k
    still_on k lt on = subst₂ (λ layer rows. FallsTo frame sets old k layer rows) (sym (stays k lt)) (sym (rows_stay (suc k) (omega arith))) on

    left_on : FallsTo frame sets old at left next.halves → LeadsOn after at
    left_on on =
        let last = at_end (suc at) (set layers at left) next no_layer within in
        subst₂ (λ layer (rows : FallenView). FallsTo frame sets old at layer rows.halves) (sym left_at) (sym last) on

    pub falls_on : FallsTo frame sets old at left next.halves → AreFallen frame sets old before → AreFallen frame sets old after
    falls_on on are = record {
      start = rows_stay 0 (omega arith) ∙ are.start;
      each = λ k lt. ⊎_elim
          (λ earlier. still_on k earlier (are.each k (omega (arith, length_to_end at layers here (omega arith)))))
          (λ e. subst (LeadsOn after) (sym e) (left_on on))
          (at_or_before k at (omega (arith, length_to_end (suc at) (set layers at left) next within)));
    }

-- a layer with the rows of another one is as well a layer of the way down
pub same_rows : (frame : PlainFrame) (layer other : FallenView) → other.halves ≡ layer.halves → IsFallen frame layer → IsFallen frame other
same_rows frame layer other same is = record {
  shapes = subst (AreShaped (group_down_shape frame.group)) (sym same) is.shapes;
  few = subst (λ rows. length rows ≤ frame.width) (sym same) is.few;
}

-- ---- what a diagram promises

-- each row of a layer has an entry for each of its values
pub long_rows : (down up : List Kind) (sets : List ℕ) (table : List (List PlainRow)) (at : ℕ) → LayersFit down up (map members sets) table → at < length sets
    → AreLong (length (members (slice_index sets at))) (rows_of table at)
long_rows down up [] table at fits lt = absurd (omega arith)
long_rows down up (values ∷ sets) _ zero (layer_fits rows more) lt = λ k d within. (rows k d within).long
long_rows down up (values ∷ sets) _ (suc at) (layer_fits rows more) lt = long_rows down up sets _ at more (omega arith)

pub is_spot : (frame : PlainFrame) (diagram : DiagramLevels) (at : ℕ) → IsFramed frame diagram → at < length diagram.shape.domains → 0 < diagram.width → diagram.width ≤ 256
    → IsSpot (spot_at frame diagram.shape.domains at)
is_spot frame diagram at framed lt some few = record {
  rules = framed.rules;
  layer_within = subst (λ n. at < n) framed.layers lt;
  some_rows = subst (λ n. 0 < n) framed.wide some;
  few_rows = subst (λ n. n ≤ 256) framed.wide few;
}
