-- A layer of a revision, and what is made of its rows.
use Rattle.std.specs.Prelude.{ℕ, ℤ, ◌<◌, ◌≤◌, List, length}
use Rattle.hk_group.specs.Groups.{PlainGroup, IsGroup}
use Rattle.hk_kinds.specs.declared.properties.Prop.{Prop}
use Rattle.hk_table.specs.Tables.{PlainRow}
use Rattle.hk_text.specs.Sets.{members}
use Rattle.hk_layers.specs.Layers.{Half, Mark, Arc, mark, arcs_of_rows, finished}
use Rattle.hk_layers.specs.Transitions.{transitions_of}

-- a layer of a group: which one it is, the values of its variable in the model and those that are left, the bound on the
-- cost, and how many rows a layer has at most
pub record PlainSpot : Type 0 where
  pub group : PlainGroup
  pub layer : ℕ
  pub values : ℕ
  pub domain : ℕ
  pub best : ℤ
  pub width : ℕ

-- the group keeps its rules and has the layer, and the width is 1 to 256
pub record IsSpot (spot : PlainSpot) : Type 0 where
  pub rules : IsGroup spot.group
  pub layer_within : spot.layer < length spot.group.vars
  pub some_rows : 0 < spot.width
  pub few_rows : spot.width ≤ 256

-- a row with its entries and its up state, above these rows of the next layer
abbrev pub finished_at : PlainSpot → (Half → ℕ → Mark) → List (List Prop) → List PlainRow → Half → PlainRow
finished_at spot marks steps next half = finished (transitions_of spot.group) spot.best spot.width spot.layer (members spot.values) marks steps next half

-- what becomes of a value at a row on the way down, over these old rows and those of the next old layer
abbrev pub mark_at : PlainSpot → List PlainRow → List PlainRow → Half → ℕ → Mark
mark_at spot old old_next = mark (transitions_of spot.group) spot.best spot.layer (members spot.values) spot.domain old old_next

-- the arcs of rows on the way down
abbrev pub arcs_at : PlainSpot → List PlainRow → List PlainRow → List Half → List Arc
arcs_at spot old old_next halves = arcs_of_rows (mark_at spot old old_next) (members spot.values) halves
