-- What a revision of a diagram asks of the group that it stands for.
use Rattle.std.specs.Prelude.{ℕ, ℤ, ◌<◌, List, length, IsTrue}
use Rattle.hk_kinds.specs.Covers.{StateCovers}
use Rattle.hk_kinds.specs.Shapes.{HasShape}
use Rattle.hk_kinds.specs.Tops.{top_state}
use Rattle.hk_kinds.specs.declared.properties.Prop.{Prop}
use Rattle.hk_group.specs.Groups.{PlainGroup, group_down_shape, group_up_shape, group_initial_down, group_initial_up, group_down, group_up, group_passes}

-- a group is monotone: the step of a state that covers another covers the other's step, and a test that holds goes on
-- holding where both states give way to states that cover them
pub record IsMonotoneGroup (g : PlainGroup) : Type 0 where
  pub down_steps : (layer value : ℕ) (wider state : List Prop) → StateCovers (group_down_shape g) wider state
      → StateCovers (group_down_shape g) (group_down g layer value wider) (group_down g layer value state)
  pub up_steps : (layer value : ℕ) (wider state : List Prop) → StateCovers (group_up_shape g) wider state
      → StateCovers (group_up_shape g) (group_up g layer value wider) (group_up g layer value state)
  pub test : (layer value : ℕ) (best : ℤ) (wider_down down wider_up up : List Prop)
      → StateCovers (group_down_shape g) wider_down down → StateCovers (group_up_shape g) wider_up up
      → IsTrue (group_passes g layer value best down up) → IsTrue (group_passes g layer value best wider_down wider_up)

-- all that a revision asks of a group: it is monotone; its initial states have their shapes and its steps keep them;
-- the top state covers the initial state, and where it covers a state it covers that state's step
pub record IsRevisableGroup (g : PlainGroup) : Type 0 where
  pub monotone : IsMonotoneGroup g
  pub initial_down : HasShape (group_down_shape g) (group_initial_down g)
  pub initial_up : HasShape (group_up_shape g) (group_initial_up g)
  pub down_shapes : (layer value : ℕ) (state : List Prop) → layer < length g.vars → value < 128
      → HasShape (group_down_shape g) state → HasShape (group_down_shape g) (group_down g layer value state)
  pub up_shapes : (layer value : ℕ) (state : List Prop) → layer < length g.vars → value < 128
      → HasShape (group_up_shape g) state → HasShape (group_up_shape g) (group_up g layer value state)
  pub down_top_begins : StateCovers (group_down_shape g) (top_state (group_down_shape g)) (group_initial_down g)
  pub up_top_begins : StateCovers (group_up_shape g) (top_state (group_up_shape g)) (group_initial_up g)
  pub down_top_steps : (layer value : ℕ) (state : List Prop) → layer < length g.vars → value < 128
      → StateCovers (group_down_shape g) (top_state (group_down_shape g)) state
      → StateCovers (group_down_shape g) (top_state (group_down_shape g)) (group_down g layer value state)
  pub up_top_steps : (layer value : ℕ) (state : List Prop) → layer < length g.vars → value < 128
      → StateCovers (group_up_shape g) (top_state (group_up_shape g)) state
      → StateCovers (group_up_shape g) (top_state (group_up_shape g)) (group_up g layer value state)
