-- The rows that distinct steps lead to, made of one step after the other.
use Rattle.std.proofs.Common.{◌≡◌, ℕ, zero, suc, ◌+◌, ◌*◌, ◌/◌, ◌-◌, ◌<◌, ◌≤◌, ◌==◌, min, ltb, ⊎_elim, Bool, List, [], ◌∷◌, ◌++◌, length, filter, take, get_or, set, Some, arith, refl, sym, ap, ◌∙◌, subst, All, div-mul-le_self, mul-le-mul_right, append-nil, length-append}
use Rattle.std.specs.List.{range_with_len}
use Rattle.std.proofs.lemmas.Bool.{cases_lt, cases_eq, cond-true, cond-false, lt-ltb, le-ltb, eq-eqb, ne_eqb}
use Rattle.std.proofs.lemmas.List.{take_more, take_all, get_or_append_left, get_or_at, get_or-set_same, get_or-set_other, get_or_default, length-set, length-map, ext_get_or}
use Rattle.std.proofs.lemmas.List.Elements.{All-contains, All-filter, filter-append}
use Rattle.std.proofs.lemmas.List.FromFn.{length-range_with_len, get_or-map-range_with_len}
use Rattle.std.proofs.lemmas.Nat.{div_below, le-div}
use Rattle.std.proofs.Math.Nat.{lt-div-mul-add}
use Rattle.hk_kinds.specs.Distinct.{Ascends}
use Rattle.hk_kinds.specs.Joins.{state_join}
use Rattle.hk_kinds.specs.Shapes.{HasShape}
use Rattle.hk_kinds.specs.declared.kinds.Kind.{Kind}
use Rattle.hk_kinds.specs.declared.properties.Prop.{Prop}
use Rattle.hk_kinds.proofs.DistinctLaws.{contains_from_in}
use Rattle.hk_layers.specs.Layers.{row_for, row_of_step, join_onto, join_states, joined_up}
use Rattle.hk_layers.specs.Shares.{IsReached}
use Rattle.hk_layers.specs.inside.Leading.{steps_to, joined_steps, rows_with}
use Rattle.hk_layers.proofs.Places.{place_of_at}
use Rattle.hk_layers.proofs.SameJoins.{Shaped, join_shape}
use Rattle.hk_layers.proofs.Shares.{row_by_place, row_by_share, row_below, row_reached}

-- the row of the step at a place
pub step_row : (width : ℕ) (steps : List (List Prop)) (i : ℕ) → Ascends steps → i < length steps → row_of_step width steps (get_or steps i []) ≡ row_for width (length steps) i
step_row width steps i ascends lt = ap (row_for width (length steps)) (place_of_at steps i ascends lt)

-- ---- how far the rows are reached

-- how many rows the steps before a place lead to
abbrev pub reached : ℕ → ℕ → ℕ → ℕ
reached width count zero = 0
reached width count (suc place) = row_for width count place + 1

share_rises : (width count i j : ℕ) → 0 < count → i ≤ j → i * width / count ≤ j * width / count
share_rises width count i j some le =
    le-div (i * width / count) (j * width) count some (omega (arith, div-mul-le_self (i * width) count, mul-le-mul_right {m = i} {n = j} width le))

share_climbs : (width count i : ℕ) → width < count → suc i * width / count < i * width / count + 2
share_climbs width count i lt =
    let share : ℕ = i * width / count in
    let below : i * width < share * count + count = omega (arith, lt-div-mul-add {a = i * width} {b = count} (omega arith)) in
    div_below (suc i * width) count (share + 2) (omega arith) (omega (arith, below))

-- a later step leads to no row before
pub row_rises : (width count i j : ℕ) → i ≤ j → row_for width count i ≤ row_for width count j
row_rises width count i j le =
    ⊎_elim
    (λ lt. omega (arith, row_by_share width count i lt, row_by_share width count j lt, share_rises width count i j (omega arith) le))
    (λ few. omega (arith, row_by_place width count i few, row_by_place width count j few))
    (cases_lt width count)

-- the next step leads to the same row or to the next one
row_climbs : (width count i : ℕ) → row_for width count (suc i) ≤ row_for width count i + 1
row_climbs width count i =
    ⊎_elim
    (λ lt. omega (arith, row_by_share width count i lt, row_by_share width count (suc i) lt, share_climbs width count i lt))
    (λ few. omega (arith, row_by_place width count i few, row_by_place width count (suc i) few))
    (cases_lt width count)

first_row : (width count : ℕ) → row_for width count 0 ≡ 0
first_row width count =
    ⊎_elim
    (λ lt. let none : 0 * width / count < 1 = div_below (0 * width) count 1 (omega arith) (omega arith) in omega (arith, row_by_share width count 0 lt))
    (λ few. row_by_place width count 0 few)
    (cases_lt width count)

pub row_near : (width count i : ℕ) → row_for width count i ≤ reached width count i
row_near width count zero = omega (arith, first_row width count)
row_near width count (suc i) = row_climbs width count i

pub row_last : (width count i : ℕ) → reached width count i ≤ row_for width count i + 1
row_last width count zero = omega arith
row_last width count (suc i) = omega (arith, row_rises width count i (suc i) (omega arith))

all_reached : (width count row : ℕ) → IsReached width (suc count) row → row ≤ row_for width (suc count) count
all_reached width count row h = omega (arith, h.leads, h.below, row_rises width (suc count) h.place count (omega (arith, h.below)))

pub reached_all : (width count : ℕ) → 0 < width → reached width count count ≡ min count width
reached_all width zero some = omega arith
reached_all width (suc count) some =
    let most : row_for width (suc count) count < min (suc count) width = row_below width (suc count) count some (omega arith) in
    let least : min (suc count) width - 1 ≤ row_for width (suc count) count = all_reached width count (min (suc count) width - 1) (row_reached width (suc count) (min (suc count) width - 1) some (omega arith)) in
    omega arith

-- ---- rows made of the steps so far

-- each row is the join of those of the steps that lead to it, of which there is one, and none of them leads to another row
pub record JoinedRows (kinds : List Kind) (at : List Prop → ℕ) (done rows : List (List Prop)) : Type 0 where
  pub each : (c : ℕ) → c < length rows → joined_up kinds (filter (λ step. at step == c) done) ≡ Some (get_or rows c [])
  pub none : (c : ℕ) → length rows ≤ c → filter (λ step. at step == c) done ≡ []

onto_more : (kinds : List Kind) (state : List Prop) (states : List (List Prop)) (step : List Prop) → join_onto kinds state (states ++ step ∷ []) ≡ state_join kinds (join_onto kinds state states) step
onto_more kinds state [] step = refl
onto_more kinds state (next ∷ states) step = onto_more kinds (state_join kinds state next) states step

joined_more : (kinds : List Kind) (states : List (List Prop)) (row step : List Prop) → joined_up kinds states ≡ Some row → joined_up kinds (states ++ step ∷ []) ≡ Some (state_join kinds row step)
joined_more kinds [] row step is = cc
joined_more kinds (state ∷ states) row step is =
    let same : join_onto kinds state states ≡ row = cc in
    ap Some (onto_more kinds state states step ∙ ap (λ s. state_join kinds s step) same)

joined_is : (kinds : List Kind) (states : List (List Prop)) (row : List Prop) → joined_up kinds states ≡ Some row → join_states kinds states ≡ row
joined_is kinds [] row is = cc
joined_is kinds (state ∷ states) row is = cc

module _ (kinds : List Kind) (at : List Prop → ℕ) (done : List (List Prop)) (step : List Prop) where
  led : (c : ℕ) → at step ≡ c → filter (λ s. at s == c) (done ++ step ∷ []) ≡ filter (λ s. at s == c) done ++ step ∷ []
  led c same = filter-append (λ s. at s == c) done (step ∷ []) ∙ ap (λ more. filter (λ s. at s == c) done ++ more) (cond-true (at step == c) (step ∷ []) [] (eq-eqb (at step) c same))

  passed : (c : ℕ) → (at step ≡ c → ⊥) → filter (λ s. at s == c) (done ++ step ∷ []) ≡ filter (λ s. at s == c) done
  passed c other = filter-append (λ s. at s == c) done (step ∷ []) ∙ (ap (λ more. filter (λ s. at s == c) done ++ more) (cond-false (at step == c) (step ∷ []) [] (ne_eqb (at step) c other)) ∙ append-nil (filter (λ s. at s == c) done))

  module _ (row : ℕ) (rows : List (List Prop)) (leads : at step ≡ row) (h : JoinedRows kinds at done rows) where
    into_there : row < length rows → JoinedRows kinds at (done ++ step ∷ []) (set rows row (state_join kinds (get_or rows row []) step))
    into_there lt = record {
      each = λ c below.
          let within : c < length rows = omega (arith, below, length-set rows row (state_join kinds (get_or rows row []) step)) in
          ⊎_elim
          (λ same. let old = h.each c within in
          ap (joined_up kinds) (led c (leads ∙ same)) ∙ (joined_more kinds _ (get_or rows c []) step old
          ∙ ap Some (ap (λ n. state_join kinds (get_or rows n []) step) (sym same) ∙ (sym (get_or-set_same rows row (state_join kinds (get_or rows row []) step) [] lt) ∙ ap (λ n. get_or (set rows row (state_join kinds (get_or rows row []) step)) n []) same))))
          (λ other. ap (joined_up kinds) (passed c (λ e. other (sym leads ∙ e))) ∙ (h.each c within ∙ ap Some (sym (get_or-set_other rows row c (state_join kinds (get_or rows row []) step) [] (λ e. other (sym e))))))
          (cases_eq row c);
      none = λ c above.
          let beyond : length rows ≤ c = omega (arith, above, length-set rows row (state_join kinds (get_or rows row []) step)) in
          passed c (λ e. absurd (omega (arith, e, leads, lt, beyond))) ∙ h.none c beyond;
    }

    into_new : row ≡ length rows → JoinedRows kinds at (done ++ step ∷ []) (rows ++ step ∷ [])
    into_new next = record {
      each = λ c below.
          ⊎_elim
          (λ same. let nothing = h.none c (omega (arith, same, next)) in
          ap (joined_up kinds) (led c (leads ∙ same) ∙ ap (λ xs. xs ++ step ∷ []) nothing) ∙ ap Some (sym (get_or_at rows step [] [] c (sym next ∙ same))))
          (λ other.
          let within : c < length rows = omega (arith, below, length-append rows (step ∷ []), next, other) in
          ap (joined_up kinds) (passed c (λ e. other (sym leads ∙ e))) ∙ (h.each c within ∙ ap Some (sym (get_or_append_left rows (step ∷ []) [] c within))))
          (cases_eq row c);
      none = λ c above.
          let beyond : length rows + 1 ≤ c = omega (arith, above, length-append rows (step ∷ [])) in
          passed c (λ e. absurd (omega (arith, e, leads, next, beyond))) ∙ h.none c (omega (arith, beyond));
    }

    into_rows : row ≤ length rows → JoinedRows kinds at (done ++ step ∷ []) (rows_with kinds row step rows)
    into_rows le =
        ⊎_elim
        (λ lt. subst (JoinedRows kinds at (done ++ step ∷ [])) (sym (cond-true (ltb row (length rows)) _ _ (lt-ltb row (length rows) lt))) (into_there lt))
        (λ ge. subst (JoinedRows kinds at (done ++ step ∷ [])) (sym (cond-false (ltb row (length rows)) _ _ (le-ltb row (length rows) ge))) (into_new (omega (arith, le, ge))))
        (cases_lt row (length rows))

length_with : (kinds : List Kind) (row : ℕ) (step : List Prop) (rows : List (List Prop)) → row ≤ length rows → length rows ≤ row + 1 → length (rows_with kinds row step rows) ≡ row + 1
length_with kinds row step rows le near =
    ⊎_elim
    (λ lt. ap length (cond-true (ltb row (length rows)) _ (rows ++ step ∷ []) (lt-ltb row (length rows) lt)) ∙ omega (arith, length-set rows row (state_join kinds (get_or rows row []) step)))
    (λ ge. ap length (cond-false (ltb row (length rows)) (set rows row (state_join kinds (get_or rows row []) step)) (rows ++ step ∷ []) (le-ltb row (length rows) ge)) ∙ omega (arith, length-append rows (step ∷ [])))
    (cases_lt row (length rows))

-- ---- the loop over the steps

-- so many steps are joined into rows
pub record JoinedUpTo (kinds : List Kind) (width : ℕ) (steps : List (List Prop)) (i : ℕ) (rows : List (List Prop)) : Type 0 where
  pub long : length rows ≡ reached width (length steps) i
  pub joined : JoinedRows kinds (row_of_step width steps) (take i steps) rows

pub joined_next : (kinds : List Kind) (width : ℕ) (steps : List (List Prop)) (i : ℕ) (rows : List (List Prop)) → Ascends steps → i < length steps → JoinedUpTo kinds width steps i rows
    → JoinedUpTo kinds width steps (i + 1) (rows_with kinds (row_for width (length steps) i) (get_or steps i []) rows)
joined_next kinds width steps i rows ascends lt h =
    let row : ℕ = row_for width (length steps) i in
    let step : List Prop = get_or steps i [] in
    let on : i + 1 ≡ suc i = omega arith in
    let le : row ≤ length rows = omega (arith, h.long, row_near width (length steps) i) in
    let near : length rows ≤ row + 1 = omega (arith, h.long, row_last width (length steps) i) in record {
      long = length_with kinds row step rows le near ∙ ap (reached width (length steps)) (sym on);
      joined = subst (λ done. JoinedRows kinds (row_of_step width steps) done (rows_with kinds row step rows)) (sym (take_more steps i [] lt))
          (into_rows kinds (row_of_step width steps) (take i steps) step row rows (step_row width steps i ascends lt) h.joined le);
    }

-- there are no more rows than steps
pub joined_few : (kinds : List Kind) (width : ℕ) (steps : List (List Prop)) (i : ℕ) (rows : List (List Prop)) → 0 < width → i ≤ length steps → JoinedUpTo kinds width steps i rows → length rows ≤ length steps
joined_few kinds width steps zero rows some le h = omega (arith, h.long)
joined_few kinds width steps (suc i) rows some le h = omega (arith, h.long, row_below width (length steps) i some (omega arith))

joined_whole : (kinds : List Kind) (width : ℕ) (steps rows : List (List Prop)) → 0 < width → JoinedUpTo kinds width steps (length steps) rows → rows ≡ joined_steps kinds width steps
joined_whole kinds width steps rows some h =
    let count : ℕ = min (length steps) width in
    let join : ℕ → List Prop = λ c. join_states kinds (steps_to width steps c) in
    let long : length rows ≡ count = h.long ∙ reached_all width (length steps) some in
    let made : length (joined_steps kinds width steps) ≡ count = length-map (range_with_len 0 count) join ∙ length-range_with_len 0 count in
    let all : take (length steps) steps ≡ steps = take_all (length steps) steps (omega arith) in
    ext_get_or [] rows (joined_steps kinds width steps) (long ∙ sym made)
    (λ c lt.
    let each = h.joined.each c lt in
    let whole : join_states kinds (filter (λ step. row_of_step width steps step == c) (take (length steps) steps)) ≡ get_or rows c [] = joined_is kinds _ _ each in
    sym whole ∙ (ap (λ xs. join_states kinds (filter (λ step. row_of_step width steps step == c) xs)) all ∙ sym (get_or-map-range_with_len join 0 count c c [] (omega (arith, lt, long)) (omega arith))))

pub joined_all : (kinds : List Kind) (width : ℕ) (steps : List (List Prop)) (i : ℕ) (rows : List (List Prop)) → 0 < width → i ≡ length steps → JoinedUpTo kinds width steps i rows → rows ≡ joined_steps kinds width steps
joined_all kinds width steps i rows some end h = joined_whole kinds width steps rows some (subst (λ n. JoinedUpTo kinds width steps n rows) end h)

-- ---- the shape of the rows

filter_shaped : (kinds : List Kind) (p : List Prop → Bool) (xs : List (List Prop)) → All (HasShape kinds) xs → Shaped kinds (filter p xs)
filter_shaped kinds p xs all s m = All-contains (HasShape kinds) (filter p xs) s (All-filter p (HasShape kinds) xs all) (contains_from_in s (filter p xs) m)

joined_shape : (kinds : List Kind) (states : List (List Prop)) (row : List Prop) → Shaped kinds states → joined_up kinds states ≡ Some row → HasShape kinds row
joined_shape kinds [] row shaped is = cc
joined_shape kinds (state ∷ states) row shaped is =
    let same : join_states kinds (state ∷ states) ≡ row = cc in
    subst (HasShape kinds) same (join_shape kinds state states shaped)

-- the rows have the shape of the steps
pub joined_shapes : (kinds : List Kind) (width : ℕ) (steps : List (List Prop)) (i : ℕ) (rows : List (List Prop)) → All (HasShape kinds) steps → i ≡ length steps → JoinedUpTo kinds width steps i rows → All (HasShape kinds) rows
joined_shapes kinds width steps i rows all end h c other lt =
    let whole : take i steps ≡ steps = take_all i steps (omega (arith, end)) in
    let shaped : Shaped kinds (filter (λ step. row_of_step width steps step == c) (take i steps)) = subst (λ xs. Shaped kinds (filter (λ step. row_of_step width steps step == c) xs)) (sym whole) (filter_shaped kinds (λ step. row_of_step width steps step == c) steps all) in
    subst (HasShape kinds) (get_or_default rows c [] other lt) (joined_shape kinds _ (get_or rows c []) shaped (h.joined.each c lt))

-- there are at most as many as the width says
pub rows_few : (kinds : List Kind) (width : ℕ) (steps rows : List (List Prop)) → rows ≡ joined_steps kinds width steps → length rows ≤ width
rows_few kinds width steps rows are =
    let count : ℕ = min (length steps) width in
    omega (arith, ap length are, length-map (range_with_len 0 count) (λ c. join_states kinds (steps_to width steps c)), length-range_with_len 0 count)
