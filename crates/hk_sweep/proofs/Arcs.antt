-- The arcs of a layer, the rows that they lead to, and that no row is without an arc.
use Rattle.std.proofs.Common.{◌≡◌, ℕ, zero, suc, ◌+◌, ◌<◌, ◌==◌, min, Bool, ⊎_elim, List, [], ◌∷◌, length, map, slice_get, Some, arith, refl, sym, ap, ◌∙◌, subst, All}
use Rattle.std.specs.List.{list_any, range_with_len}
use Rattle.std.specs.List.Sorted.{IsStrictlyIncreasing}
use Rattle.std.specs.declared.cmp.Ordering.{Ordering}
use Rattle.std.specs.declared.cmp.Ordering.TheVariants.{Less, Equal, Greater}
use Rattle.std.proofs.lemmas.Bool.{eq-eqb, eqb-true}
use Rattle.std.proofs.lemmas.Cmp.{tied_itself}
use Rattle.std.proofs.lemmas.List.{length-map}
use Rattle.std.proofs.lemmas.List.FromFn.{length-range_with_len}
use Rattle.std.proofs.lemmas.List.Kept.{IsStrictlyIncreasing-filter}
use Rattle.hk_kinds.specs.Covers.{StateCovers}
use Rattle.hk_kinds.specs.Orders.{state_order}
use Rattle.hk_kinds.specs.Shapes.{HasShape}
use Rattle.hk_kinds.specs.declared.kinds.Kind.{Kind}
use Rattle.hk_kinds.specs.declared.properties.Prop.{Prop}
use Rattle.hk_kinds.proofs.DistinctLaws.{IsIn, is_first, is_later, Rises, rises_more, above_in, less_turned, distinct_rises, distinct_has, distinct_only}
use Rattle.hk_kinds.proofs.StateOrder.{state_total}
use Rattle.hk_table.specs.Members.{Member, first, later}
use Rattle.hk_layers.specs.Layers.{Arc, Half, Mark, is_gone, is_cut, goes_on, arcs_of_mark, arcs_of_values, arcs_of_rows, arcs_to, joined, next_halves, place_by, place_of, row_for, row_of_step, steps_of}
use Rattle.hk_sweep.proofs.Joins.{AreShaped, join_has_shape, join_covers}
use Rattle.hk_layers.proofs.Shares.{row_below, row_reached}
use Rattle.hk_sweep.proofs.Lists.{IsMade, append_left, append_right, append_or, any_has, filter_from, filter_has, get_map, get_member, get_at, head_or, map_from, map_has, range_get, range_has, range_increases, range_within, all_from_members}

-- ---- where arcs come from

abbrev pub arc_of : List Prop → List ℕ → Arc
arc_of step targets = record { step = step; targets = targets }

-- an arc of a row: that of one of these values, which goes on
pub record IsArcOfRow (marks : ℕ → Mark) (values : List ℕ) (arc : Arc) : Type 0 where
  pub value : ℕ
  pub has : Member value values
  pub goes : marks value ≡ goes_on arc.step arc.targets

-- an arc of a layer: that of one of its rows
pub record IsArc (marks : Half → ℕ → Mark) (values : List ℕ) (halves : List Half) (arc : Arc) : Type 0 where
  pub half : Half
  pub stands : Member half halves
  pub of : IsArcOfRow (marks half) values arc

mark_has_arc : (mark : Mark) (step : List Prop) (targets : List ℕ) → mark ≡ goes_on step targets → Member (arc_of step targets) (arcs_of_mark mark)
mark_has_arc mark step targets goes = subst (λ m. Member (arc_of step targets) (arcs_of_mark m)) (sym goes) first

arc_of_mark : (mark : Mark) (arc : Arc) → Member arc (arcs_of_mark mark) → mark ≡ goes_on arc.step arc.targets
arc_of_mark is_gone arc m = elim m [ ]
arc_of_mark is_cut arc m = elim m [ ]
arc_of_mark (goes_on step targets) arc m = ⊎_elim (λ same. ap (λ a. goes_on a.step a.targets) (sym same)) (λ none. elim none [ ]) (head_or arc (arc_of step targets) [] m)

pub values_have_arc : (marks : ℕ → Mark) (value : ℕ) (values : List ℕ) (step : List Prop) (targets : List ℕ) → Member value values → marks value ≡ goes_on step targets → Member (arc_of step targets) (arcs_of_values marks values)
values_have_arc marks value _ step targets (first {xs = values}) goes = append_left _ (arcs_of_mark (marks value)) _ (mark_has_arc (marks value) step targets goes)
values_have_arc marks value _ step targets (later {y = other} {xs = values} m) goes = append_right _ (arcs_of_mark (marks other)) _ (values_have_arc marks value values step targets m goes)

row_arc_later : (marks : ℕ → Mark) (value : ℕ) (values : List ℕ) (arc : Arc) → IsArcOfRow marks values arc → IsArcOfRow marks (value ∷ values) arc
row_arc_later marks value values arc h = record { value = h.value; has = later h.has; goes = h.goes }

pub arc_of_values : (marks : ℕ → Mark) (values : List ℕ) (arc : Arc) → Member arc (arcs_of_values marks values) → IsArcOfRow marks values arc
arc_of_values marks [] arc m = elim m [ ]
arc_of_values marks (value ∷ values) arc m =
    ⊎_elim
    (λ here. record { value = value; has = first; goes = arc_of_mark (marks value) arc here })
    (λ more. row_arc_later marks value values arc (arc_of_values marks values arc more))
    (append_or arc (arcs_of_mark (marks value)) (arcs_of_values marks values) m)

pub rows_have_arc : (marks : Half → ℕ → Mark) (values : List ℕ) (half : Half) (halves : List Half) (arc : Arc) → Member half halves → Member arc (arcs_of_values (marks half) values) → Member arc (arcs_of_rows marks values halves)
rows_have_arc marks values half _ arc (first {xs = halves}) m = append_left arc (arcs_of_values (marks half) values) _ m
rows_have_arc marks values half _ arc (later {y = other} {xs = halves} n) m = append_right arc (arcs_of_values (marks other) values) _ (rows_have_arc marks values half halves arc n m)

arc_later : (marks : Half → ℕ → Mark) (values : List ℕ) (half : Half) (halves : List Half) (arc : Arc) → IsArc marks values halves arc → IsArc marks values (half ∷ halves) arc
arc_later marks values half halves arc h = record { half = h.half; stands = later h.stands; of = h.of }

pub arc_of_rows : (marks : Half → ℕ → Mark) (values : List ℕ) (halves : List Half) (arc : Arc) → Member arc (arcs_of_rows marks values halves) → IsArc marks values halves arc
arc_of_rows marks values [] arc m = elim m [ ]
arc_of_rows marks values (half ∷ halves) arc m =
    ⊎_elim
    (λ here. record { half = half; stands = first; of = arc_of_values (marks half) values arc here })
    (λ more. arc_later marks values half halves arc (arc_of_rows marks values halves arc more))
    (append_or arc (arcs_of_values (marks half) values) (arcs_of_rows marks values halves) m)

-- ---- distinct steps and their places

pub in_from_member : (s : List Prop) (states : List (List Prop)) → Member s states → IsIn s states
in_from_member s _ first = is_first
in_from_member s _ (later {xs = states} m) = is_later (in_from_member s states m)

pub member_from_in : (s : List Prop) (states : List (List Prop)) → IsIn s states → Member s states
member_from_in s _ is_first = first
member_from_in s _ (is_later {rest = states} m) = later (member_from_in s states m)

abbrev pub step_of : Arc → List Prop
step_of arc = arc.step

-- the step of an arc is one of the distinct steps
pub step_stands : (arcs : List Arc) (arc : Arc) → Member arc arcs → Member arc.step (steps_of arcs)
step_stands arcs arc m = member_from_in _ _ (distinct_has arc.step (map step_of arcs) (in_from_member _ _ (map_has step_of arc arcs m)))

-- and each of them is the step of an arc
pub step_made : (arcs : List Arc) (step : List Prop) → Member step (steps_of arcs) → IsMade step_of arcs step
step_made arcs step m = map_from step_of arcs step (member_from_in _ _ (distinct_only step (map step_of arcs) (in_from_member _ _ m)))

pub steps_rise : (arcs : List Arc) → Rises (steps_of arcs)
steps_rise arcs = distinct_rises (map step_of arcs)

place_by_below : (order : Ordering) (place count : ℕ) → place < count → place_by order place < suc count
place_by_below Less place count below = omega arith
place_by_below Equal place count below = omega arith
place_by_below Greater place count below = omega arith

pub place_below : (step : List Prop) (steps : List (List Prop)) → Member step steps → place_of steps step < length steps
place_below step _ (first {xs = rest}) = subst (λ o. place_by o (place_of rest step) < suc (length rest)) (sym (tied_itself state_total step)) (omega arith)
place_below step _ (later {y = other} {xs = rest} m) = place_by_below (state_order step other) (place_of rest step) (length rest) (place_below step rest m)

-- where each step comes before all that follow it, the place of a step is where it stands
pub place_at : (steps : List (List Prop)) → Rises steps → (place : ℕ) (step : List Prop) → slice_get steps place ≡ Some step → place_of steps step ≡ place
place_at [] _ place step at = cc
place_at (x ∷ xs) (rises_more above more) zero step at =
    let same : x ≡ step = cc in
    subst (λ s. place_of (x ∷ xs) s ≡ 0) same (ap (λ o. place_by o (place_of xs x)) (tied_itself state_total x))
place_at (x ∷ xs) (rises_more above more) (suc place) step at =
    let behind : state_order step x ≡ Greater = less_turned x step (above_in x step xs above (in_from_member _ _ (get_member xs place step at))) in
    let rest : place_of xs step ≡ place = place_at xs more place step at in
    let on : place_of xs step + 1 ≡ suc place = omega arith in
    ap (λ o. place_by o (place_of xs step)) behind ∙ on

-- ---- the arcs that lead to a row

pub step_below : (width : ℕ) (arcs : List Arc) (arc : Arc) → 0 < width → Member arc arcs → row_of_step width (steps_of arcs) arc.step < min (length (steps_of arcs)) width
step_below width arcs arc some m = row_below width (length (steps_of arcs)) _ some (place_below arc.step (steps_of arcs) (step_stands arcs arc m))

pub arcs_to_has : (width : ℕ) (arcs : List Arc) (c : ℕ) (arc : Arc) → Member arc arcs → row_of_step width (steps_of arcs) arc.step ≡ c → Member arc (arcs_to width arcs c)
arcs_to_has width arcs c arc m leads = filter_has (λ (a : Arc). row_of_step width (steps_of arcs) a.step == c) arc arcs m (eq-eqb _ c leads)

-- an arc of a layer that leads to this row
pub record LeadsToRow (width : ℕ) (arcs : List Arc) (c : ℕ) (arc : Arc) : Type 0 where
  pub stands : Member arc arcs
  pub leads : row_of_step width (steps_of arcs) arc.step ≡ c

pub arcs_to_from : (width : ℕ) (arcs : List Arc) (c : ℕ) (arc : Arc) → Member arc (arcs_to width arcs c) → LeadsToRow width arcs c arc
arcs_to_from width arcs c arc m =
    let h = filter_from (λ (a : Arc). row_of_step width (steps_of arcs) a.step == c) arc arcs m in
    record { stands = h.stands; leads = eqb-true _ c h.passes }

-- an arc that leads to a row
pub record HasArc (width : ℕ) (arcs : List Arc) (c : ℕ) : Type 0 where
  pub arc : Arc
  pub stands : Member arc (arcs_to width arcs c)

-- no row of the next layer is without an arc
pub row_has_arc : (width : ℕ) (arcs : List Arc) (c : ℕ) → 0 < width → c < min (length (steps_of arcs)) width → HasArc width arcs c
row_has_arc width arcs c some below =
    let steps = steps_of arcs in
    let reached = row_reached width (length steps) c some below in
    let at = get_at steps reached.place reached.below in
    let made = step_made arcs at.item (get_member steps reached.place at.item at.is) in
    let place : place_of steps made.item.step ≡ reached.place = ap (place_of steps) (sym made.is) ∙ place_at steps (steps_rise arcs) reached.place at.item at.is in
    record { arc = made.item; stands = arcs_to_has width arcs c made.item made.stands (ap (row_for width (length steps)) place ∙ reached.leads) }

-- ---- the rows of the next layer, on the way down

module _ (kinds : List Kind) (width old_rows : ℕ) (arcs : List Arc) where
  abbrev pub next_half : ℕ → Half
  next_half c = joined kinds old_rows (arcs_to width arcs c)

  pub halves_long : length (next_halves kinds width old_rows arcs) ≡ min (length (steps_of arcs)) width
  halves_long = length-map (range_with_len 0 (min (length (steps_of arcs)) width)) next_half ∙ length-range_with_len 0 (min (length (steps_of arcs)) width)

  pub half_at : (c : ℕ) → c < min (length (steps_of arcs)) width → slice_get (next_halves kinds width old_rows arcs) c ≡ Some (next_half c)
  half_at c below =
      let same : 0 + c ≡ c = omega arith in
      get_map next_half (range_with_len 0 (min (length (steps_of arcs)) width)) c c (range_get 0 (min (length (steps_of arcs)) width) c below ∙ ap (λ m. Some m) same)

  -- a row of the next layer, by its number
  pub record IsNextHalf (half : Half) : Type 0 where
    pub number : ℕ
    pub below : number < min (length (steps_of arcs)) width
    pub is : half ≡ next_half number

  pub half_made : (half : Half) → Member half (next_halves kinds width old_rows arcs) → IsNextHalf half
  half_made half m =
      let made = map_from next_half (range_with_len 0 (min (length (steps_of arcs)) width)) half m in
      record { number = made.item; below = omega (arith, (range_within 0 (min (length (steps_of arcs)) width) made.item made.stands).1); is = made.is }

-- ---- a row that arcs lead to

module _ (kinds : List Kind) (old_rows : ℕ) (arcs : List Arc) where
  -- the steps of all arcs have the shape
  pub record AreShapedArcs : Type 0 where
    pub each : (arc : Arc) → Member arc arcs → HasShape kinds arc.step

  shaped_steps : AreShapedArcs → AreShaped kinds (map step_of arcs)
  shaped_steps shaped = record {
    each = λ state m. let made = map_from step_of arcs state m in subst (HasShape kinds) (sym made.is) (shaped.each made.item made.stands);
  }

  pub joined_has_shape : (arc : Arc) → Member arc arcs → AreShapedArcs → HasShape kinds (joined kinds old_rows arcs).down
  joined_has_shape arc m shaped = join_has_shape kinds (map step_of arcs) arc.step (map_has step_of arc arcs m) (shaped_steps shaped)

  pub joined_covers : (arc : Arc) → Member arc arcs → AreShapedArcs → StateCovers kinds (joined kinds old_rows arcs).down arc.step
  joined_covers arc m shaped = join_covers kinds (map step_of arcs) arc.step (map_has step_of arc arcs m) (shaped_steps shaped)

  abbrev pub is_target : ℕ → Arc → Bool
  is_target c arc = list_any (λ other. other == c) arc.targets

  pub joined_comes : (arc : Arc) (c : ℕ) → Member arc arcs → Member c arc.targets → c < old_rows → Member c (joined kinds old_rows arcs).from
  joined_comes arc c m target below =
      filter_has (λ c. list_any (is_target c) arcs) c (range_with_len 0 old_rows) (range_has 0 old_rows c (omega arith) (omega arith))
      (any_has (is_target c) arc arcs m (any_has (λ other. other == c) c arc.targets target (eq-eqb c c refl)))

  pub joined_ascends : IsStrictlyIncreasing (joined kinds old_rows arcs).from
  joined_ascends = IsStrictlyIncreasing-filter (λ c. list_any (is_target c) arcs) (range_with_len 0 old_rows) (range_increases 0 old_rows)

  pub joined_there : All (λ origin. origin < old_rows) (joined kinds old_rows arcs).from
  joined_there = all_from_members (λ origin. origin < old_rows) (joined kinds old_rows arcs).from
      (λ c m. let within = range_within 0 old_rows c (filter_from (λ c. list_any (is_target c) arcs) c (range_with_len 0 old_rows) m).stands in omega (arith, within.1))
