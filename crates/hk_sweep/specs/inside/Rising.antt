-- The way up: the layers that were written, from the last one.
use Rattle.std.specs.Prelude.{◌≡◌, ℕ, suc, List, ◌∷◌, Option, drop, length, map}
use Rattle.hk_group.specs.Groups.{group_up_shape}
use Rattle.hk_kinds.specs.declared.properties.Prop.{Prop}
use Rattle.hk_layers.specs.Flat.{AreShapedUps, ups_of}
use Rattle.hk_layers.specs.Layers.{Half}
use Rattle.hk_layers.specs.Transitions.{transitions_of, layer_sets}
use Rattle.hk_arena.specs.Diagrams.{rows_of}
use Rattle.hk_table.specs.Tables.{PlainRow}
use Rattle.hk_text.specs.Sets.{members}
use Rattle.hk_sweep.specs.Tight.{Layers, tight_from}
use Rattle.hk_sweep.specs.inside.Fallen.{FallsTo}
use Rattle.hk_sweep.specs.Views.{FallenView}
use Rattle.hk_sweep.specs.inside.Frames.{PlainFrame}

-- what the tight revision of an old table makes of the layers from this one on, which begins with these rows
abbrev pub tight_on : PlainFrame → List ℕ → List (List PlainRow) → ℕ → List Half → Layers
tight_on frame sets old at halves =
    tight_from (transitions_of frame.group) frame.best frame.width at (drop at (map members sets)) (drop at (layer_sets frame.group frame.domains)) halves (rows_of old at) (drop (suc at) old)

-- the table has as many layers as the old one; from this one on they are those of the tight revision, and these are the up
-- states of the first of them, which have the group's shape
pub record IsRisen (frame : PlainFrame) (sets : List ℕ) (old : List (List PlainRow)) (at : ℕ) (halves : List Half) (table : List (List PlainRow)) (below : List (Option (List Prop))) : Type 0 where
  pub long : length table ≡ length old
  pub layers : drop at table ≡ (tight_on frame sets old at halves).first ∷ (tight_on frame sets old at halves).rest
  pub ups : below ≡ ups_of (tight_on frame sets old at halves).first
  pub shapes : AreShapedUps (group_up_shape frame.group) below

-- over some old table, a layer leads on to rows from which the layers after it are risen
pub record IsRisenBelow (frame : PlainFrame) (sets : List ℕ) (at : ℕ) (fallen : FallenView) (table : List (List PlainRow)) (below : List (Option (List Prop))) : Type 0 where
  pub old : List (List PlainRow)
  pub next : List Half
  pub falls : FallsTo frame sets old at fallen next
  pub risen : IsRisen frame sets old (suc at) next table below
