-- Where each domain has one value left, a tight revision with a Live entry in its first row accepts these values: down
-- and up states are then exact, and the test of a Live entry holds.
use Rattle.std.proofs.Common.{◌≡◌, ℕ, ℤ, ◌+◌, ◌<◌, inl, inr, List, [], ◌∷◌, length, map, slice_get, Some, IsTrue, sym, ap, ◌∙◌, subst, arith}
use Rattle.std.proofs.lemmas.Option.{same_Some}
use Rattle.hk_base.specs.Sets.{Has}
use Rattle.hk_kinds.specs.Shapes.{HasShape}
use Rattle.hk_kinds.specs.declared.properties.Prop.{Prop}
use Rattle.hk_group.specs.GroupRuns.{GroupAccepts}
use Rattle.hk_group.specs.Groups.{PlainGroup, IsGroup}
use Rattle.hk_table.specs.Keeps.{Supports, SupportsFrom, supports_here, supports_later}
use Rattle.hk_table.specs.Members.{Member, first, later}
use Rattle.hk_table.specs.Tables.{PlainRow, entry_for}
use Rattle.hk_table.specs.declared.entries.Entry.{Entry}
use Rattle.hk_table.specs.declared.entries.Entry.TheVariants.{Live}
use Rattle.hk_sweep.specs.Loose.{group_shape}
use Rattle.hk_sweep.specs.OneValue.{AreOnly, only_none, only_more}
use Rattle.hk_layers.specs.Layers.{Half, Mark, goes_on, Arc, arcs_of_rows, steps_of, arcs_to, next_halves, join_onto, up_steps, joined_up, last_row}
use Rattle.hk_sweep.specs.Tight.{tight_from, first_half, tight_revision}
use Rattle.hk_layers.specs.Transitions.{Transitions, transitions_of, layer_sets}
use Rattle.hk_sweep.proofs.Arcs.{arc_of_rows, arcs_to_from, half_made, row_has_arc}
use Rattle.hk_sweep.proofs.Entries.{Lives, entry_at, goes_value, lived, lived_at, row_at}
use Rattle.hk_sweep.proofs.ExactRuns.{up_along, AcceptsFrom, accepts_last, accepts_layer}
use Rattle.hk_sweep.proofs.ExactSteps.{made_at, join_onto_same, joined_same}
use Rattle.hk_sweep.proofs.GroupTransitions.{to_group_run}
use Rattle.hk_sweep.proofs.Lists.{get_member, head_or}
use Rattle.hk_sweep.proofs.Marks.{marks, mark_goes_on}
use Rattle.hk_sweep.proofs.Shapes.{KeepsShapes, AreSmall, ForLayers, for_none, for_more, group_keeps_shapes, for_group}
use Rattle.hk_sweep.proofs.Ups.{HasUp, has_up, up_steps_from}

-- from an up state on all is exact: it is that of the values that are left, and these are accepted
pub record Proceeds (t : Transitions) (best : ℤ) (layer : ℕ) (down : List Prop) (values : List ℕ) (up : List Prop) : Type 0 where
  pub is : up ≡ up_along t layer values
  pub shape : HasShape t.up_shape up
  pub accepts : AcceptsFrom t best layer down values

only_member : {A : Type 0} (x y : A) → Member x (y ∷ []) → x ≡ y
only_member x y m = elim (head_or x y [] m) [ inl same ↦ same | inr none ↦ elim none [ ] ]

module _ (t : Transitions) (keeps : KeepsShapes t) (best : ℤ) (width : ℕ) where
  -- ---- one layer, of which all rows have this down state and the domain has this value alone
  module _ (layer domain : ℕ) (values : List ℕ) (old old_next : List PlainRow) (halves : List Half) (down : List Prop) (value : ℕ) (rest : List ℕ) (small : AreSmall values) (alone : (other : ℕ) → Has domain other → other ≡ value)
      (same : (half : Half) → Member half halves → half.down ≡ down) (shape : HasShape t.down_shape down) where
    abbrev marked : Half → ℕ → Mark
    marked = marks t best layer values domain old old_next

    abbrev arcs : List Arc
    arcs = arcs_of_rows marked values halves

    abbrev up_after : List Prop
    up_after = up_along t (layer + 1) rest

    -- a value that goes on is the one value
    one_value : (half : Half) (v : ℕ) (step : List Prop) (found : List ℕ) → marked half v ≡ goes_on step found → v ≡ value
    one_value half v step found is = alone v (mark_goes_on t best layer values domain old old_next half v step found is).goes.allowed

    -- so its step is that of the one down state by the one value
    record IsOneStep (step : List Prop) : Type 0 where
      pub is : step ≡ t.down layer value down
      pub within : value < 128
      pub shaped : HasShape t.down_shape (t.down layer value down)

    one_step : (half : Half) (v : ℕ) (step : List Prop) (found : List ℕ) → Member half halves → Member v values → marked half v ≡ goes_on step found → IsOneStep step
    one_step half v step found m n is =
        let one : v ≡ value = one_value half v step found is in
        let within : value < 128 = subst (λ w. w < 128) one (small v n) in
        record {
          is = (mark_goes_on t best layer values domain old old_next half v step found is).step_is ∙ ap (λ w. t.down layer w half.down) one ∙ ap (t.down layer value) (same half m);
          within = within;
          shaped = keeps.down layer value down within shape;
        }

    arc_step : (arc : Arc) → Member arc arcs → IsOneStep arc.step
    arc_step arc m =
        let from = arc_of_rows marked values halves arc m in
        one_step from.half from.of.value arc.step arc.targets from.stands from.of.has from.of.goes

    -- all rows of the next layer have it as their down state
    next_same : (half : Half) → Member half (next_halves t.down_shape width (length old_next) arcs) → half.down ≡ t.down layer value down
    next_same half m =
        let made = half_made t.down_shape width (length old_next) arcs half m in
        let reached = row_has_arc width arcs made.number (omega (arith, made.below)) made.below in
        let one : (arc : Arc) → Member arc (arcs_to width arcs made.number) → IsOneStep arc.step = λ arc n. arc_step arc (arcs_to_from width arcs made.number arc n).stands in
        ap (λ (h : Half). h.down) made.is
        ∙ joined_same t.down_shape (length old_next) (arcs_to width arcs made.number) (t.down layer value down) (one reached.arc reached.stands).shaped reached.stands (λ arc n. (one arc n).is)

    -- where on the next layer all goes on exactly from a row with an up state, it does so on this one
    module _ (next : List PlainRow) (follow : HasShape t.down_shape (t.down layer value down) → (c : ℕ) (up : List Prop) → HasUp next c up → Proceeds t best (layer + 1) (t.down layer value down) rest up) where
      abbrev make : Half → ℕ → Entry
      make half = entry_at t best width layer values domain old old_next (steps_of arcs) next half

      abbrev finish_row : Half → PlainRow
      finish_row = row_at t best width layer values domain old old_next (steps_of arcs) next

      -- a Live entry is that of the one value: the test holds between the exact states, and all goes on exactly
      record IsOnLive (v : ℕ) (up : List Prop) : Type 0 where
        pub value_is : v ≡ value
        pub up_is : up ≡ up_after
        pub shaped : HasShape t.up_shape (t.up layer value up_after)
        pub accepts : AcceptsFrom t best layer down (value ∷ rest)

      on_live : (half : Half) (v c : ℕ) → Member half halves → (lives : Lives t best width layer values domain old old_next (steps_of arcs) next half v c) → IsOnLive v lives.up
      on_live half v c m lives =
          let one : v ≡ value = alone v lives.to.goes.allowed in
          let has : Member v values = goes_value t best width layer values domain old old_next (steps_of arcs) next half v lives.to.goes in
          let step = one_step half v _ _ m has lives.to.marked in
          let after : Proceeds t best (layer + 1) (t.down layer value down) rest lives.up = follow step.shaped c lives.up (has_up next c lives.up lives.above) in
          let holds : IsTrue (t.passes layer value best down up_after) =
          sym (ap (λ w. t.passes layer w best half.down lives.up) one ∙ ap (λ s. t.passes layer value best s lives.up) (same half m) ∙ ap (t.passes layer value best down) after.is) ∙ lives.holds in
          record {
            value_is = one;
            up_is = after.is;
            shaped = keeps.up layer value up_after step.within (subst (HasShape t.up_shape) after.is after.shape);
            accepts = accepts_layer holds after.accepts;
          }

      -- each up step is the exact up state
      step_proceeds : (half : Half) (step : List Prop) → Member half halves → Member step (up_steps t layer next values (map (make half) values)) → Proceeds t best layer down (value ∷ rest) step
      step_proceeds half step m n =
          let from = up_steps_from t layer next values (make half) step n in
          let lives = lived_at t best width layer values domain old old_next (steps_of arcs) next half from.value from.of.c from.of.live in
          let on : IsOnLive from.value lives.up = on_live half from.value from.of.c m lives in
          let ups : from.of.up ≡ lives.up = same_Some _ _ (sym from.of.above ∙ lives.above) in
          let is : step ≡ t.up layer value up_after = from.of.is ∙ ap (t.up layer from.value) (ups ∙ on.up_is) ∙ ap (λ w. t.up layer w up_after) on.value_is in
          record { is = is; shape = subst (HasShape t.up_shape) (sym is) on.shaped; accepts = on.accepts }

      join_proceeds : (steps : List (List Prop)) (up : List Prop) → ((step : List Prop) → Member step steps → Proceeds t best layer down (value ∷ rest) step) → joined_up t.up_shape steps ≡ Some up → Proceeds t best layer down (value ∷ rest) up
      join_proceeds [] up each is = absurd cc
      join_proceeds (step ∷ steps) up each is =
          let one = each step first in
          let join : join_onto t.up_shape step steps ≡ step = join_onto_same t.up_shape step steps one.shape (λ other m. (each other (later m)).is ∙ sym one.is) in
          let up_is : up ≡ step = same_Some up _ (sym is) ∙ join in
          subst (Proceeds t best layer down (value ∷ rest)) (sym up_is) one

      row_proceeds : (c : ℕ) (row : PlainRow) (up : List Prop) → slice_get (map finish_row halves) c ≡ Some row → row.up ≡ Some up → Proceeds t best layer down (value ∷ rest) up
      row_proceeds c row up at own =
          let made = made_at finish_row halves c row at in
          join_proceeds (up_steps t layer next values (map (make made.item) values)) up
          (λ step m. step_proceeds made.item step (get_member halves c made.item made.at) m)
          (sym (ap (λ (r : PlainRow). r.up) made.is) ∙ own)

      live_accepts : (c v next_c : ℕ) (row : PlainRow) → slice_get (map finish_row halves) c ≡ Some row → entry_for values row.entries v ≡ Live next_c → AcceptsFrom t best layer down (value ∷ rest)
      live_accepts c v next_c row at live =
          let made = made_at finish_row halves c row at in
          let is : entry_for values (finish_row made.item).entries v ≡ Live next_c = subst (λ (r : PlainRow). entry_for values r.entries v ≡ Live next_c) made.is live in
          (on_live made.item v next_c (get_member halves c made.item made.at) (lived t best width layer values domain old old_next (steps_of arcs) next made.item v next_c is)).accepts

  -- ---- all layers

  -- from each row with an up state on, all goes on exactly
  proceeds : (layer : ℕ) {values : List (List ℕ)} {domains : List ℕ} {olds : List (List PlainRow)} (halves : List Half) (old : List PlainRow) (down : List Prop) {rest : List ℕ} → ForLayers values domains olds → AreOnly domains rest
      → ((half : Half) → Member half halves → half.down ≡ down) → HasShape t.down_shape down → (c : ℕ) (row : PlainRow) (up : List Prop) → slice_get (tight_from t best width layer values domains halves old olds).first c ≡ Some row → row.up ≡ Some up → Proceeds t best layer down rest up
  proceeds layer halves old down for_none only_none same shape c row up at own =
      let made = made_at (last_row t) halves c row at in
      let is : up ≡ t.initial_up = same_Some up _ (sym own ∙ ap (λ (r : PlainRow). r.up) made.is) in
      record { is = is; shape = subst (HasShape t.up_shape) (sym is) keeps.initial_up; accepts = accepts_last }
  proceeds layer halves old down (for_more {values = values} {more = more} {domain = domain} {domains = domains} {old = old_next} {olds = olds} small layers) (only_more {value = value} {values = rest} alone only) same shape c row up at own =
      let below = next_halves t.down_shape width (length old_next) (arcs_of_rows (marks t best layer values domain old old_next) values halves) in
      row_proceeds layer domain values old old_next halves down value rest small alone same shape (tight_from t best width (layer + 1) more domains below old_next olds).first
      (λ shaped n after h. proceeds (layer + 1) below old_next (t.down layer value down) layers only (next_same layer domain values old old_next halves down value rest small alone same shape) shaped n h.row after h.is h.has)
      c row up at own

  first_same : (half : Half) → Member half (first_half t ∷ []) → half.down ≡ t.initial_down
  first_same half m = ap (λ (h : Half). h.down) (only_member half (first_half t) m)

  start : (values : List ℕ) (more : List (List ℕ)) (domain : ℕ) (domains : List ℕ) (old old_next : List PlainRow) (olds : List (List PlainRow)) (value : ℕ) (rest : List ℕ) (v next_c : ℕ) (row : PlainRow)
      → AreSmall values → ForLayers more domains olds → ((other : ℕ) → Has domain other → other ≡ value) → AreOnly domains rest
      → slice_get (tight_from t best width 0 (values ∷ more) (domain ∷ domains) (first_half t ∷ []) old (old_next ∷ olds)).first 0 ≡ Some row → entry_for values row.entries v ≡ Live next_c
      → AcceptsFrom t best 0 t.initial_down (value ∷ rest)
  start values more domain domains old old_next olds value rest v next_c row small layers alone only at live =
      let halves : List Half = first_half t ∷ [] in
      let below = next_halves t.down_shape width (length old_next) (arcs_of_rows (marks t best 0 values domain old old_next) values halves) in
      live_accepts 0 domain values old old_next halves t.initial_down value rest small alone first_same keeps.initial_down (tight_from t best width 1 more domains below old_next olds).first
      (λ shaped n after h. proceeds 1 below old_next (t.down 0 value t.initial_down) layers only (next_same 0 domain values old old_next halves t.initial_down value rest small alone first_same keeps.initial_down) shaped n h.row after h.is h.has)
      0 v next_c row at live

  pub start_is_accepted : {values : List (List ℕ)} {domains : List ℕ} {olds : List (List PlainRow)} (old : List PlainRow) {rest : List ℕ} (level value : ℕ) → ForLayers values domains olds → AreOnly domains rest
      → (let layers = tight_from t best width 0 values domains (first_half t ∷ []) old olds in SupportsFrom values (layers.first ∷ layers.rest) 0 level value) → AcceptsFrom t best 0 t.initial_down rest
  start_is_accepted old level value for_none only_none supports = accepts_last
  start_is_accepted old _ value (for_more {values = values} {more = more} {domain = domain} {domains = domains} {old = old_next} {olds = olds} small layers) (only_more {value = one} {values = rest} alone only) (supports_here {next = next} {row = row} at live) =
      start values more domain domains old old_next olds one rest value next row small layers alone only at live
  start_is_accepted old _ value (for_more {values = values} {more = more} {domain = domain} {domains = domains} {old = old_next} {olds = olds} small layers) (only_more {value = one} {values = rest} alone only) (supports_later {next = next} {row = row} step at live after) =
      start values more domain domains old old_next olds one rest step next row small layers alone only at live

-- ---- groups

no_support : {values : List (List ℕ)} {c level value : ℕ} → SupportsFrom values [] c level value → ⊥
no_support supports = elim supports [ ]

pub one_value_is_accepted : (g : PlainGroup) (sets domains : List ℕ) (best : ℤ) (width : ℕ) (old : List (List PlainRow)) (values : List ℕ) (level value : ℕ) → IsGroup g → length old ≡ length g.vars + 1 → AreOnly (layer_sets g domains) values
    → Supports (group_shape g sets) (tight_revision g sets domains best width old) level value → GroupAccepts g best values
one_value_is_accepted g sets domains best width [] values level value rules long only supports = absurd (no_support supports)
one_value_is_accepted g sets domains best width (old ∷ olds) values level value rules long only supports =
    let keeps = group_keeps_shapes g rules in
    to_group_run g best 0 _ (start_is_accepted (transitions_of g) keeps best width old level value (for_group g sets domains old olds long) only supports)
