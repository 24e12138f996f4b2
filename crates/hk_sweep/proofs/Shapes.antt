-- What proofs over layers need of steps: that they keep the shapes of states, and that values are below 128.
use Rattle.std.proofs.Common.{◌≡◌, ℕ, ◌+◌, ◌<◌, ◌==◌, List, [], ◌∷◌, length, map, slice_index, arith}
use Rattle.std.specs.Int.{bit_at}
use Rattle.std.specs.List.{range_with_len}
use Rattle.std.proofs.lemmas.List.{length-map}
use Rattle.hk_kinds.specs.Shapes.{HasShape}
use Rattle.hk_kinds.specs.declared.properties.Prop.{Prop}
use Rattle.hk_group.specs.Groups.{PlainGroup, IsGroup}
use Rattle.hk_group.proofs.PartsRevised.{down_of_shape, up_of_shape, initial_down_shape, initial_up_shape}
use Rattle.hk_table.specs.Members.{Member}
use Rattle.hk_table.specs.Tables.{PlainRow}
use Rattle.hk_text.specs.Sets.{members}
use Rattle.hk_layers.specs.Transitions.{Transitions, transitions_of, layer_sets}
use Rattle.hk_sweep.proofs.Lists.{filter_from, range_within}

-- the initial states have the shapes, and a step by a value below 128 keeps them
pub record KeepsShapes (t : Transitions) : Type 0 where
  pub initial_down : HasShape t.down_shape t.initial_down
  pub initial_up : HasShape t.up_shape t.initial_up
  pub down : (layer value : ℕ) (state : List Prop) → value < 128 → HasShape t.down_shape state → HasShape t.down_shape (t.down layer value state)
  pub up : (layer value : ℕ) (state : List Prop) → value < 128 → HasShape t.up_shape state → HasShape t.up_shape (t.up layer value state)

-- the values are below 128
abbrev pub AreSmall : List ℕ → Type 0
AreSmall values = (value : ℕ) → Member value values → value < 128

-- for each layer that comes there are its values, which are below 128, a domain, and an old layer
pub data ForLayers : List (List ℕ) → List ℕ → List (List PlainRow) → Type 0 where
  for_none : ForLayers [] [] []
  for_more : {values : List ℕ} {more : List (List ℕ)} {domain : ℕ} {domains : List ℕ} {old : List PlainRow} {olds : List (List PlainRow)}
      → AreSmall values → ForLayers more domains olds → ForLayers (values ∷ more) (domain ∷ domains) (old ∷ olds)

-- ---- those of a group

pub group_keeps_shapes : (g : PlainGroup) → IsGroup g → KeepsShapes (transitions_of g)
group_keeps_shapes g rules = record {
  initial_down = initial_down_shape g.parts rules.parts;
  initial_up = initial_up_shape g.parts rules.parts;
  down = λ layer value state small h. down_of_shape _ value small g.parts rules.parts state h;
  up = λ layer value state small h. up_of_shape _ value small g.parts rules.parts state h;
}

pub members_small : (set : ℕ) → AreSmall (members set)
unfolding members
members_small set = λ value m.
    let kept = filter_from (λ value. bit_at set value == 1) value (range_with_len 0 128) m in
    (range_within 0 128 value kept.stands).1

for_sets : (sets domains : List ℕ) (olds : List (List PlainRow)) → length domains ≡ length sets → length olds ≡ length sets → ForLayers (map members sets) domains olds
for_sets [] [] [] d o = for_none
for_sets [] (domain ∷ domains) olds d o = absurd (omega arith)
for_sets [] [] (old ∷ olds) d o = absurd (omega arith)
for_sets (set ∷ sets) [] olds d o = absurd (omega arith)
for_sets (set ∷ sets) (domain ∷ domains) [] d o = absurd (omega arith)
for_sets (set ∷ sets) (domain ∷ domains) (old ∷ olds) d o = for_more (members_small set) (for_sets sets domains olds (omega arith) (omega arith))

pub layer_sets_long : (g : PlainGroup) (sets : List ℕ) → length (layer_sets g sets) ≡ length g.vars
layer_sets_long g sets = length-map g.vars (slice_index sets)

pub for_group : (g : PlainGroup) (sets domains : List ℕ) (old : List PlainRow) (olds : List (List PlainRow)) → length (old ∷ olds) ≡ length g.vars + 1 → ForLayers (map members (layer_sets g sets)) (layer_sets g domains) olds
for_group g sets domains old olds long =
    for_sets (layer_sets g sets) (layer_sets g domains) olds (omega (arith, layer_sets_long g domains, layer_sets_long g sets)) (omega (arith, long, layer_sets_long g sets))
