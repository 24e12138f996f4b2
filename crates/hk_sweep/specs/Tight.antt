-- The tight revision of a table: the one revision that the solver makes, with at most so many rows a layer; a loose one
-- where the old table has a first row.
use Rattle.std.specs.Prelude.{ℕ, ℤ, ◌+◌, List, [], ◌∷◌, length, map}
use Rattle.hk_kinds.specs.declared.properties.Prop.{Prop}
use Rattle.hk_group.specs.Groups.{PlainGroup}
use Rattle.hk_table.specs.Tables.{PlainRow, layer_values}
use Rattle.hk_sweep.specs.Loose.{group_shape}
use Rattle.hk_layers.specs.Transitions.{Transitions, transitions_of, layer_sets}
use Rattle.hk_layers.specs.Layers.{Half, Mark, mark, arcs_of_rows, steps_of, next_halves, finished, last_row}

-- the first layer of a table, and the layers after it
pub record Layers : Type 0 where
  pub first : List PlainRow
  pub rest : List (List PlainRow)

-- the layers from this one on: the rows on the way down give the next layer's, and on the way back their entries are judged
abbrev pub finish : Transitions → ℤ → ℕ → ℕ → List ℕ → (Half → ℕ → Mark) → List (List Prop) → List Half → Layers → Layers
finish t best width layer values marks steps halves below = record { first = map (finished t best width layer values marks steps below.first) halves; rest = below.first ∷ below.rest }

-- the layers from this one on, of its rows on the way down and of the old layers from this one on
abbrev pub tight_from : Transitions → ℤ → ℕ → ℕ → List (List ℕ) → List ℕ → List Half → List PlainRow → List (List PlainRow) → Layers
tight_from t best width layer (values ∷ more) (domain ∷ domains) halves old (old_next ∷ olds) =
    let marks = mark t best layer values domain old old_next in
    let arcs = arcs_of_rows marks values halves in
    finish t best width layer values marks (steps_of arcs) halves
    (tight_from t best width (layer + 1) more domains (next_halves t.down_shape width (length old_next) arcs) old_next olds)
tight_from t best width layer _ _ halves old olds = record { first = map (last_row t) halves; rest = [] }

-- row 0 of layer 0: it has the initial down state, and comes from row 0
abbrev pub first_half : Transitions → Half
first_half t = record { down = t.initial_down; from = 0 ∷ [] }

-- the tight revision of a table under the domains, the bound and the width
abbrev pub tight : Transitions → List (List ℕ) → List ℕ → ℤ → ℕ → List (List PlainRow) → List (List PlainRow)
tight t values domains best width [] = []
tight t values domains best width (old ∷ olds) =
    let layers = tight_from t best width 0 values domains (first_half t ∷ []) old olds in
    layers.first ∷ layers.rest

-- the same of a group, for sets and domains of all variables
abbrev pub tight_revision : PlainGroup → List ℕ → List ℕ → ℤ → ℕ → List (List PlainRow) → List (List PlainRow)
tight_revision g sets domains best width old = tight (transitions_of g) (layer_values (group_shape g sets)) (layer_sets g domains) best width old
