-- Steps of the tight revision that lead to one row, and what they join to where they are all the same.
use Rattle.std.proofs.Common.{◌≡◌, ℕ, ◌≤◌, List, [], ◌∷◌, length, map, slice_get, Some, sym, ap, ◌∙◌, subst, arith, refl}
use Rattle.std.proofs.lemmas.List.{length-map}
use Rattle.hk_kinds.specs.Joins.{state_join}
use Rattle.hk_kinds.specs.Shapes.{HasShape}
use Rattle.hk_kinds.specs.declared.kinds.Kind.{Kind}
use Rattle.hk_kinds.specs.declared.properties.Prop.{Prop}
use Rattle.hk_kinds.proofs.StateLaws.{state_lattice, covers-join}
use Rattle.hk_table.specs.Members.{Member, first, later}
use Rattle.hk_layers.specs.Layers.{Arc, steps_of, row_for, row_of_step, join_onto, joined}
use Rattle.hk_sweep.proofs.Arcs.{step_of, step_stands, steps_rise, place_at}
use Rattle.hk_layers.proofs.Shares.{row_by_place}
use Rattle.hk_sweep.proofs.Lists.{get_at, get_map, get_within, map_from, one_item, place_of_member}

-- what stands at a place of a mapped list is made of the item at this place
pub record MadeAt {A B : Type 0} (f : A → B) (xs : List A) (k : ℕ) (y : B) : Type 0 where
  pub item : A
  pub at : slice_get xs k ≡ Some item
  pub is : y ≡ f item

pub made_at : {A B : Type 0} (f : A → B) (xs : List A) (k : ℕ) (y : B) → slice_get (map f xs) k ≡ Some y → MadeAt f xs k y
made_at f xs k y is =
    let at = get_at xs k (omega (arith, get_within (map f xs) k y is, length-map xs f)) in
    record { item = at.item; at = at.is; is = one_item (map f xs) k y (f at.item) is (get_map f xs k at.item at.is) }

-- where there are few steps, those that lead to one row are one
pub same_row : (width : ℕ) (arcs : List Arc) (arc other : Arc) → length (steps_of arcs) ≤ width → Member arc arcs → Member other arcs → row_of_step width (steps_of arcs) arc.step ≡ row_of_step width (steps_of arcs) other.step → arc.step ≡ other.step
same_row width arcs arc other few m n same =
    let steps = steps_of arcs in
    let mine = place_of_member arc.step steps (step_stands arcs arc m) in
    let theirs = place_of_member other.step steps (step_stands arcs other n) in
    let place : mine.place ≡ theirs.place =
    sym (row_by_place width (length steps) mine.place few) ∙ ap (row_for width (length steps)) (sym (place_at steps (steps_rise arcs) mine.place arc.step mine.is))
    ∙ same ∙ ap (row_for width (length steps)) (place_at steps (steps_rise arcs) theirs.place other.step theirs.is) ∙ row_by_place width (length steps) theirs.place few in
    one_item steps theirs.place arc.step other.step (subst (λ k. slice_get steps k ≡ Some arc.step) place mine.is) theirs.is

-- a state of the shape is its join with itself
join_itself : (kinds : List Kind) (state : List Prop) → HasShape kinds state → state_join kinds state state ≡ state
join_itself kinds state shape = covers-join kinds state state shape shape ((state_lattice kinds).reflexive state shape)

-- states that are all the same join to it
pub join_onto_same : (kinds : List Kind) (state : List Prop) (states : List (List Prop)) → HasShape kinds state → ((other : List Prop) → Member other states → other ≡ state) → join_onto kinds state states ≡ state
join_onto_same kinds state [] shape same = refl
join_onto_same kinds state (next ∷ states) shape same =
    ap (λ s. join_onto kinds s states) (ap (state_join kinds state) (same next first) ∙ join_itself kinds state shape)
    ∙ join_onto_same kinds state states shape (λ other m. same other (later m))

-- the steps of arcs that all have one step are all the same
steps_same : (arcs : List Arc) (step : List Prop) → ((arc : Arc) → Member arc arcs → arc.step ≡ step) → (other : List Prop) → Member other (map step_of arcs) → other ≡ step
steps_same arcs step same other m = let made = map_from step_of arcs other m in made.is ∙ same made.item made.stands

-- and it is the down state of the row that they lead to
pub joined_same : (kinds : List Kind) (old_rows : ℕ) (arcs : List Arc) (step : List Prop) {arc : Arc} → HasShape kinds step → Member arc arcs → ((a : Arc) → Member a arcs → a.step ≡ step) → (joined kinds old_rows arcs).down ≡ step
joined_same kinds old_rows [] step shape m same = elim m [ ]
joined_same kinds old_rows (arc ∷ arcs) step shape m same =
    ap (λ s. join_onto kinds s (map step_of arcs)) (same arc first)
    ∙ join_onto_same kinds step (map step_of arcs) shape (steps_same arcs step (λ a n. same a (later n)))
