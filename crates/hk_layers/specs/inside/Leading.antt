-- The rows of the next layer, made of distinct steps.
use Rattle.std.specs.Prelude.{ℕ, ◌==◌, ltb, min, if◌then◌else◌, List, [], ◌∷◌, ◌++◌, length, map, slice_index_or, slice_set}
use Rattle.std.specs.List.{filter, range_with_len}
use Rattle.hk_kinds.specs.Joins.{state_join}
use Rattle.hk_kinds.specs.declared.kinds.Kind.{Kind}
use Rattle.hk_kinds.specs.declared.properties.Prop.{Prop}
use Rattle.hk_layers.specs.Layers.{join_states, row_of_step}

-- those of some distinct steps that lead to a row
abbrev pub steps_to : ℕ → List (List Prop) → ℕ → List (List Prop)
steps_to width steps c = filter (λ step. row_of_step width steps step == c) steps

-- the down states of the rows that distinct steps lead to
abbrev pub joined_steps : List Kind → ℕ → List (List Prop) → List (List Prop)
joined_steps kinds width steps = map (λ c. join_states kinds (steps_to width steps c)) (range_with_len 0 (min (length steps) width))

-- the down states of rows with a step joined into one of them; where the row isn't there yet, it is added
abbrev pub rows_with : List Kind → ℕ → List Prop → List (List Prop) → List (List Prop)
rows_with kinds row step rows = if ltb row (length rows) then slice_set rows row (state_join kinds (slice_index_or rows row []) step) else rows ++ step ∷ []
