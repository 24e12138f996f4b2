-- That a specification goes on accepting where states give way to states that cover them, and what revisions ask.
use Rattle.std.specs.Prelude.{ℕ, ℤ, ◌<◌, List, IsTrue}
use Rattle.hk_kinds.specs.Covers.{StateCovers}
use Rattle.hk_kinds.specs.Shapes.{HasShape}
use Rattle.hk_kinds.specs.Tops.{top_state}
use Rattle.hk_kinds.specs.declared.properties.Prop.{Prop}
use Rattle.hk_spec.specs.Specifications.{BoundSpecification, initial_values, down_shape, up_shape}
use Rattle.hk_spec.specs.Steps.{down_step, up_step, test_passes}

-- a specification with its arguments is monotone: the step of a state that covers another covers the other's step, and
-- a test that holds goes on holding where both states give way to states that cover them
pub record IsMonotone (b : BoundSpecification) : Type 0 where
  pub down_steps : (position value : ℕ) (wider state : List Prop) → StateCovers (down_shape b.spec) wider state
      → StateCovers (down_shape b.spec) (down_step b position value wider) (down_step b position value state)
  pub up_steps : (position value : ℕ) (wider state : List Prop) → StateCovers (up_shape b.spec) wider state
      → StateCovers (up_shape b.spec) (up_step b position value wider) (up_step b position value state)
  pub test : (position value : ℕ) (best : ℤ) (wider_down down wider_up up : List Prop)
      → StateCovers (down_shape b.spec) wider_down down → StateCovers (up_shape b.spec) wider_up up
      → IsTrue (test_passes b position value down up best) → IsTrue (test_passes b position value wider_down wider_up best)

-- what a revision asks of a specification with its arguments: it is monotone; its steps keep the shape of a state; and
-- the top state covers the initial state, and where it covers a state it covers that state's step
pub record IsRevisable (b : BoundSpecification) : Type 0 where
  pub monotone : IsMonotone b
  pub down_shapes : (position value : ℕ) (state : List Prop) → position < b.len → value < 128
      → HasShape (down_shape b.spec) state → HasShape (down_shape b.spec) (down_step b position value state)
  pub up_shapes : (position value : ℕ) (state : List Prop) → position < b.len → value < 128
      → HasShape (up_shape b.spec) state → HasShape (up_shape b.spec) (up_step b position value state)
  pub down_top_begins : StateCovers (down_shape b.spec) (top_state (down_shape b.spec)) (initial_values b.spec.down)
  pub up_top_begins : StateCovers (up_shape b.spec) (top_state (up_shape b.spec)) (initial_values b.spec.up)
  pub down_top_steps : (position value : ℕ) (state : List Prop) → position < b.len → value < 128
      → StateCovers (down_shape b.spec) (top_state (down_shape b.spec)) state
      → StateCovers (down_shape b.spec) (top_state (down_shape b.spec)) (down_step b position value state)
  pub up_top_steps : (position value : ℕ) (state : List Prop) → position < b.len → value < 128
      → StateCovers (up_shape b.spec) (top_state (up_shape b.spec)) state
      → StateCovers (up_shape b.spec) (top_state (up_shape b.spec)) (up_step b position value state)
