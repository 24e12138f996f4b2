-- The tight revision is exact where each layer has few steps: each down state is that of every path that reaches it.
use Rattle.std.proofs.Common.{◌≡◌, ℕ, ℤ, ◌+◌, ◌<◌, ◌≤◌, min, Bool, true, false, if◌then◌else◌, List, [], ◌∷◌, ◌++◌, length, map, slice_get, Option, None, Some, refl, sym, ap, ap₂, ◌∙◌, subst, arith}
use Rattle.std.proofs.lemmas.List.{map-append}
use Rattle.std.proofs.lemmas.Option.{same_Some}
use Rattle.hk_kinds.specs.Distinct.{distinct_states}
use Rattle.hk_kinds.specs.Shapes.{HasShape}
use Rattle.hk_kinds.specs.declared.properties.Prop.{Prop}
use Rattle.hk_group.specs.Groups.{PlainGroup, IsGroup, group_initial_down}
use Rattle.hk_table.specs.Members.{Member}
use Rattle.hk_table.specs.Tables.{PlainRow, NamesRow, entry_for, layer_values}
use Rattle.hk_table.specs.declared.entries.Entry.TheVariants.{Dead, Live}
use Rattle.hk_text.specs.Sets.{members}
use Rattle.hk_sweep.specs.Exact.{PathTo, path_ends, path_goes_on, step_of_entry, steps_of_entries, steps_of_rows, HasFewSteps, few_on_layer}
use Rattle.hk_sweep.specs.Loose.{group_shape}
use Rattle.hk_layers.specs.Layers.{Half, Mark, is_gone, is_cut, goes_on, Arc, arcs_of_mark, arcs_of_values, arcs_of_rows, steps_of, row_of_step, arcs_to, next_halves, judged_by, up_state, entry_of_mark, last_row}
use Rattle.hk_sweep.specs.Tight.{tight_from, first_half, tight_revision}
use Rattle.hk_layers.specs.Transitions.{Transitions, transitions_of, layer_sets, down_along}
use Rattle.hk_sweep.proofs.Arcs.{step_of, arc_of, arcs_to_from, arcs_to_has, half_at, halves_long, next_half, rows_have_arc, values_have_arc}
use Rattle.hk_sweep.proofs.Entries.{GoesTo, entry_at, goes_value, named, row_at}
use Rattle.hk_sweep.proofs.ExactSteps.{made_at, same_row, joined_same}
use Rattle.hk_sweep.proofs.Lists.{get_member, get_within, one_item}
use Rattle.hk_sweep.proofs.Marks.{marks, mark_goes_on, step_by, targets_by}
use Rattle.hk_sweep.proofs.Shapes.{KeepsShapes, AreSmall, group_keeps_shapes, members_small}

-- the values of all layers are below 128
pub data AllSmall : List (List ℕ) → Type 0 where
  small_none : AllSmall []
  small_more : {values : List ℕ} {more : List (List ℕ)} → AreSmall values → AllSmall more → AllSmall (values ∷ more)

-- a row on the way down from which a path leads to this row; where it has the shape, the end has its exact down state
pub record Reaches (t : Transitions) (layer : ℕ) (halves : List Half) (c : ℕ) (path : List ℕ) (end : PlainRow) : Type 0 where
  pub half : Half
  pub at : slice_get halves c ≡ Some half
  pub exact : HasShape t.down_shape half.down → end.down ≡ down_along t layer half.down path

module _ (t : Transitions) (best : ℤ) (width : ℕ) where
  module _ (layer : ℕ) (values : List ℕ) (domain : ℕ) (old old_next : List PlainRow) where
    abbrev pub marked : Half → ℕ → Mark
    marked = marks t best layer values domain old old_next

    -- ---- the steps of a finished layer are those of its arcs

    module _ (steps : List (List Prop)) (next : List PlainRow) where
      abbrev pub finish_row : Half → PlainRow
      finish_row = row_at t best width layer values domain old old_next steps next

      judged_step : (row : PlainRow) (value c : ℕ) (up : Option (List Prop)) (passes : List Prop → Bool) → step_of_entry t layer row value (judged_by passes up c) ≡ t.down layer value row.down ∷ []
      judged_step row value c None passes = refl
      judged_step row value c (Some up) passes = by (passes up)
        where
          by : (b : Bool) → step_of_entry t layer row value (if b then Live c else Dead c) ≡ t.down layer value row.down ∷ []
          by true = refl
          by false = refl

      mark_step : (half : Half) (row : PlainRow) (value : ℕ) (m : Mark) → row.down ≡ half.down → ((step : List Prop) (from : List ℕ) → m ≡ goes_on step from → step ≡ t.down layer value half.down)
          → step_of_entry t layer row value (entry_of_mark t best layer width steps next half value m) ≡ map step_of (arcs_of_mark m)
      mark_step half row value is_gone same own = refl
      mark_step half row value is_cut same own = refl
      mark_step half row value (goes_on step from) same own =
          judged_step row value (row_of_step width steps step) (up_state (slice_get next (row_of_step width steps step))) (t.passes layer value best half.down)
          ∙ ap (λ s. s ∷ []) (ap (t.down layer value) same ∙ sym (own step from refl))

      value_steps : (half : Half) (row : PlainRow) (some : List ℕ) → row.down ≡ half.down
          → steps_of_entries t layer row some (map (entry_at t best width layer values domain old old_next steps next half) some) ≡ map step_of (arcs_of_values (marked half) some)
      value_steps half row [] same = refl
      value_steps half row (value ∷ some) same =
          ap₂ (λ xs ys. xs ++ ys)
          (mark_step half row value (marked half value) same (λ step from is. (mark_goes_on t best layer values domain old old_next half value step from is).step_is))
          (value_steps half row some same)
          ∙ sym (map-append step_of (arcs_of_mark (marked half value)) (arcs_of_values (marked half) some))

      pub row_steps : (halves : List Half) → steps_of_rows t layer values (map finish_row halves) ≡ map step_of (arcs_of_rows marked values halves)
      row_steps [] = refl
      row_steps (half ∷ halves) =
          ap₂ (λ xs ys. xs ++ ys) (value_steps half (finish_row half) values refl) (row_steps halves)
          ∙ sym (map-append step_of (arcs_of_values (marked half) values) (arcs_of_rows marked values halves))

    -- ---- one layer

    module _ (halves : List Half) where
      -- the arcs of these rows, and the rows of the next layer
      abbrev pub arcs : List Arc
      arcs = arcs_of_rows marked values halves

      abbrev pub lower : List Half
      lower = next_halves t.down_shape width (length old_next) arcs

      -- where the steps are few, an arc leads to a row whose down state is its step
      pub arc_exact : (arc : Arc) (c : ℕ) (half : Half) → length (steps_of arcs) ≤ width → Member arc arcs → HasShape t.down_shape arc.step → row_of_step width (steps_of arcs) arc.step ≡ c → slice_get lower c ≡ Some half → half.down ≡ arc.step
      arc_exact arc c half few m shape leads at =
          let below : c < min (length (steps_of arcs)) width = omega (arith, get_within lower c half at, halves_long t.down_shape width (length old_next) arcs) in
          let is : half ≡ next_half t.down_shape width (length old_next) arcs c = one_item lower c half _ at (half_at t.down_shape width (length old_next) arcs c below) in
          ap (λ (h : Half). h.down) is
          ∙ joined_same t.down_shape (length old_next) (arcs_to width arcs c) arc.step shape (arcs_to_has width arcs c arc m leads)
          (λ other n. let also = arcs_to_from width arcs c other n in same_row width arcs other arc few also.stands m (also.leads ∙ sym leads))

      module _ (keeps : KeepsShapes t) (small : AreSmall values) where
        -- and so a path goes on from the row of an entry by the row that it leads to
        pub goes_exact : (next : List PlainRow) (half : Half) (c value next_c : ℕ) (path : List ℕ) (end : PlainRow) → length (steps_of arcs) ≤ width → slice_get halves c ≡ Some half
            → GoesTo t best width layer values domain old old_next (steps_of arcs) next half value next_c → Reaches t (layer + 1) lower next_c path end → Reaches t layer halves c (value ∷ path) end
        goes_exact next half c value next_c path end few at goes reaches =
            let step = step_by t best layer values domain old old_next half value in
            let found = targets_by t best layer values domain old old_next half value in
            let has : Member value values = goes_value t best width layer values domain old old_next (steps_of arcs) next half value goes.goes in
            let m : Member (arc_of step found) arcs = rows_have_arc marked values half halves (arc_of step found) (get_member halves c half at) (values_have_arc (marked half) value values step found has goes.marked) in
            record {
              half = half;
              at = at;
              exact = λ shape.
                  let shaped : HasShape t.down_shape step = keeps.down layer value half.down (small value has) shape in
                  let down : reaches.half.down ≡ step = arc_exact (arc_of step found) next_c reaches.half few m shaped goes.leads reaches.at in
                  reaches.exact (subst (HasShape t.down_shape) (sym down) shaped) ∙ ap (λ s. down_along t (layer + 1) s path) down;
            }

        layer_exact : (next : List PlainRow) (c value next_c : ℕ) (path : List ℕ) (row end : PlainRow) → length (distinct_states (steps_of_rows t layer values (map (finish_row (steps_of arcs) next) halves))) ≤ width
            → slice_get (map (finish_row (steps_of arcs) next) halves) c ≡ Some row → NamesRow (entry_for values row.entries value) next_c → Reaches t (layer + 1) lower next_c path end → Reaches t layer halves c (value ∷ path) end
        layer_exact next c value next_c path row end few at names reaches =
            let made = made_at (finish_row (steps_of arcs) next) halves c row at in
            let goes = named t best width layer values domain old old_next (steps_of arcs) next made.item value next_c (subst (λ (r : PlainRow). NamesRow (entry_for values r.entries value) next_c) made.is names) in
            let fewer : length (steps_of arcs) ≤ width = subst (λ s. length (distinct_states s) ≤ width) (row_steps (steps_of arcs) next halves) few in
            goes_exact next made.item c value next_c path end fewer made.at goes reaches

  -- a path ends on the row that it begins on
  ends_exact : (layer c : ℕ) (halves : List Half) (make : Half → PlainRow) (end : PlainRow) → ((half : Half) → (make half).down ≡ half.down) → slice_get (map make halves) c ≡ Some end → Reaches t layer halves c [] end
  ends_exact layer c halves make end same at =
      let made = made_at make halves c end at in
      record { half = made.item; at = made.at; exact = λ shape. ap (λ (r : PlainRow). r.down) made.is ∙ same made.item }

  -- ---- all layers

  -- where each layer has few steps, a path begins on a row from which it leads to the exact down state
  pub exact_along : (keeps : KeepsShapes t) (layer : ℕ) (values : List (List ℕ)) (domains : List ℕ) (halves : List Half) (old : List PlainRow) (olds : List (List PlainRow)) (c : ℕ) (path : List ℕ) (end : PlainRow) → AllSmall values
      → (let below = tight_from t best width layer values domains halves old olds in HasFewSteps t width layer values (below.first ∷ below.rest))
      → (let below = tight_from t best width layer values domains halves old olds in PathTo values (below.first ∷ below.rest) c path end)
      → Reaches t layer halves c path end
  exact_along keeps layer [] domains halves old olds c _ end small few (path_ends at) = ends_exact layer c halves (last_row t) end (λ half. refl) at
  exact_along keeps layer (values ∷ more) [] halves old olds c _ end small few (path_ends at) = ends_exact layer c halves (last_row t) end (λ half. refl) at
  exact_along keeps layer (values ∷ more) [] halves old olds c _ end small few (path_goes_on at names path) = elim path [ ]
  exact_along keeps layer (values ∷ more) (domain ∷ domains) halves old [] c _ end small few (path_ends at) = ends_exact layer c halves (last_row t) end (λ half. refl) at
  exact_along keeps layer (values ∷ more) (domain ∷ domains) halves old [] c _ end small few (path_goes_on at names path) = elim path [ ]
  exact_along keeps layer (values ∷ more) (domain ∷ domains) halves old (old_next ∷ olds) c _ end small few (path_ends at) = ends_exact layer c halves _ end (λ half. refl) at
  exact_along keeps layer (values ∷ more) (domain ∷ domains) halves old (old_next ∷ olds) c _ end (small_more small smaller) (few_on_layer few fewer) (path_goes_on {next = next_c} {value = value} {rest = rest} {row = row} at names path) =
      let below = lower layer values domain old old_next halves in
      layer_exact layer values domain old old_next halves keeps small (tight_from t best width (layer + 1) more domains below old_next olds).first c value next_c rest row end few at names
      (exact_along keeps (layer + 1) more domains below old_next olds next_c rest end smaller fewer path)

-- ---- groups

pub sets_are_small : (sets : List ℕ) → AllSmall (map members sets)
sets_are_small [] = small_none
sets_are_small (set ∷ sets) = small_more (members_small set) (sets_are_small sets)

from_first : (t : Transitions) (path : List ℕ) (end : PlainRow) → HasShape t.down_shape t.initial_down → Reaches t 0 (first_half t ∷ []) 0 path end → end.down ≡ down_along t 0 t.initial_down path
from_first t path end shape reaches =
    let is : first_half t ≡ reaches.half = same_Some _ _ reaches.at in
    let down : t.initial_down ≡ reaches.half.down = ap (λ (h : Half). h.down) is in
    reaches.exact (subst (HasShape t.down_shape) down shape) ∙ ap (λ s. down_along t 0 s path) (sym down)

no_path : {values : List (List ℕ)} {c : ℕ} {path : List ℕ} {end : PlainRow} → PathTo values [] c path end → ⊥
no_path leads = elim leads [ ]

pub narrow_is_exact : (g : PlainGroup) (sets domains : List ℕ) (best : ℤ) (width : ℕ) (old : List (List PlainRow)) (path : List ℕ) (row : PlainRow) → IsGroup g
    → HasFewSteps (transitions_of g) width 0 (layer_values (group_shape g sets)) (tight_revision g sets domains best width old)
    → PathTo (layer_values (group_shape g sets)) (tight_revision g sets domains best width old) 0 path row
    → row.down ≡ down_along (transitions_of g) 0 (group_initial_down g) path
narrow_is_exact g sets domains best width [] path row rules few leads = absurd (no_path leads)
narrow_is_exact g sets domains best width (old ∷ olds) path row rules few leads =
    let t = transitions_of g in
    let keeps : KeepsShapes t = group_keeps_shapes g rules in
    from_first t path row keeps.initial_down
    (exact_along t best width keeps 0 (layer_values (group_shape g sets)) (layer_sets g domains) (first_half t ∷ []) old olds 0 path row (sets_are_small (layer_sets g sets)) few leads)
