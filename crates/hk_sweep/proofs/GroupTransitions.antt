-- The transitions of a group: what revisions need of them, and their exact runs.
use Rattle.std.proofs.Common.{◌≡◌, ℕ, ℤ, ◌+◌, List, [], ◌∷◌, slice_index, All, IsTrue, ap, refl, sym, subst}
use Rattle.hk_kinds.specs.declared.properties.Prop.{Prop}
use Rattle.hk_spec.specs.Monotone.{IsMonotone}
use Rattle.hk_group.specs.GroupRevisions.{IsMonotoneGroup}
use Rattle.hk_group.specs.GroupRuns.{GroupAccepts, GroupAcceptsFrom, at_last, one_layer, exact_group_up}
use Rattle.hk_group.specs.Groups.{PlainGroup, Part, IsGroup, group_initial_down, group_passes, group_up}
use Rattle.hk_group.proofs.PartsRevised.{monotone_group, initial_up_shape, up_of_shape}
use Rattle.hk_table.specs.Keeps.{Keeps, LieIn}
use Rattle.hk_table.specs.Tables.{PlainRow}
use Rattle.hk_sweep.specs.Loose.{IsLooseRevision, group_shape}
use Rattle.hk_layers.specs.Transitions.{transitions_of, layer_sets}
use Rattle.hk_sweep.proofs.ExactRuns.{up_along, AcceptsFrom, accepts_last, accepts_layer}
use Rattle.hk_sweep.proofs.Kept.{AreRevisable, keeps}

-- those of a group of monotone parts have what keeping needs
pub group_is_revisable : (g : PlainGroup) → IsGroup g → All (λ (part : Part). IsMonotone part.bound) g.parts → AreRevisable (transitions_of g)
group_is_revisable g rules monotone = let widens : IsMonotoneGroup g = monotone_group g monotone in record {
  down_steps = λ layer value wider state h. widens.down_steps layer value wider state h;
  up_steps = λ layer value wider state h. widens.up_steps layer value wider state h;
  test = λ layer value best wider_down down wider_up up h k holds. widens.test layer value best wider_down down wider_up up h k holds;
  initial_up = initial_up_shape g.parts rules.parts;
  up_shapes = λ layer value state small h. up_of_shape (slice_index g.vars layer) value small g.parts rules.parts state h;
}

-- the exact up states are those of the group's exact run
pub up_along_is : (g : PlainGroup) (layer : ℕ) (values : List ℕ) → up_along (transitions_of g) layer values ≡ exact_group_up g layer values
up_along_is g layer [] = refl
up_along_is g layer (value ∷ values) = ap (group_up g layer value) (up_along_is g (layer + 1) values)

-- and so they accept the same values
pub from_group_run : (g : PlainGroup) (best : ℤ) (layer : ℕ) (down : List Prop) {values : List ℕ} → GroupAcceptsFrom g best layer down values → AcceptsFrom (transitions_of g) best layer down values
from_group_run g best layer down at_last = accepts_last
from_group_run g best layer down (one_layer {value = value} {values = values} holds more) =
    accepts_layer (subst (λ up. IsTrue (group_passes g layer value best down up)) (sym (up_along_is g (layer + 1) values)) holds) (from_group_run g best (layer + 1) _ more)

pub to_group_run : (g : PlainGroup) (best : ℤ) (layer : ℕ) (down : List Prop) {values : List ℕ} → AcceptsFrom (transitions_of g) best layer down values → GroupAcceptsFrom g best layer down values
to_group_run g best layer down accepts_last = at_last
to_group_run g best layer down (accepts_layer {value = value} {values = values} holds more) =
    one_layer (subst (λ up. IsTrue (group_passes g layer value best down up)) (up_along_is g (layer + 1) values) holds) (to_group_run g best (layer + 1) _ more)

-- a loose revision of a group's table keeps what the table keeps, lies in the domains and is accepted by the group
pub loose_revision_keeps : (g : PlainGroup) (sets domains : List ℕ) (best : ℤ) (old new : List (List PlainRow)) (values : List ℕ) → IsGroup g → All (λ (part : Part). IsMonotone part.bound) g.parts
    → IsLooseRevision g sets domains best old new → Keeps (group_shape g sets) old values → LieIn (layer_sets g domains) values → GroupAccepts g best values → Keeps (group_shape g sets) new values
loose_revision_keeps g sets domains best old new values rules monotone loose kept lie accepts =
    keeps (transitions_of g) (group_is_revisable g rules monotone) best loose kept lie (from_group_run g best 0 (group_initial_down g) accepts)
