-- A diagram's levels, as its store keeps them.
use Rattle.std.specs.Prelude.{⊤, List, [], ◌∷◌, map}
use Rattle.hk_trail.specs.Levels.{Levels}
use Rattle.hk_trail.specs.Places.{cell_count}
use Rattle.hk_trail.specs.Pools.{Content}
use Rattle.hk_arena.specs.Diagrams.{DiagramLevels}
use Rattle.hk_arena.specs.Cells.{table_of}
use Rattle.hk_arena.specs.Forms.{Form}
use Rattle.hk_arena.specs.Kept.{IsKept}

-- each of these contents is kept
abbrev pub AreKept : Form → List Content → Type 0
AreKept form [] = ⊤
AreKept form (content ∷ more) = IsKept form content × AreKept form more

-- the diagram of a form that a store holds
abbrev pub diagram_of : Form → Levels → DiagramLevels
diagram_of form store = record {
  table = table_of form store.content;
  stack = map (table_of form) store.stack;
  shape = form.shape;
  width = form.width;
  numbers = map cell_count store.written;
}
