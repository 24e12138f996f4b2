-- The rows of a layer of the tight revision, as they are on the way down, and with their entries judged.
use Rattle.std.proofs.Common.{◌≡◌, ℕ, ℤ, suc, ◌<◌, ◌≤◌, min, List, length, map, slice_get, All, None, Some, arith, refl, sym, ◌∙◌, subst}
use Rattle.std.specs.List.Sorted.{IsStrictlyIncreasing}
use Rattle.std.proofs.lemmas.List.{length-map}
use Rattle.hk_kinds.specs.Covers.{StateCovers}
use Rattle.hk_kinds.specs.Shapes.{HasShape}
use Rattle.hk_kinds.specs.declared.properties.Prop.{Prop}
use Rattle.hk_table.specs.Members.{Member}
use Rattle.hk_table.specs.Tables.{PlainRow}
use Rattle.hk_table.specs.declared.entries.Entry.{Entry}
use Rattle.hk_table.specs.declared.entries.Entry.TheVariants.{Live}
use Rattle.hk_layers.specs.Layers.{Arc, Half, arcs_of_rows, arcs_to, joined_up, join_states, last_row, next_halves, steps_of, up_steps}
use Rattle.hk_layers.specs.Transitions.{Transitions}
use Rattle.hk_sweep.proofs.Arcs.{IsArc, AreShapedArcs, arc_of, arc_of_rows, arcs_to_from, arcs_to_has, half_at, half_made, halves_long, joined_ascends, joined_comes, joined_covers, joined_has_shape, joined_there, next_half, row_has_arc, rows_have_arc, step_below, values_have_arc}
use Rattle.hk_sweep.proofs.Entries.{GoesTo, Lives, entry_at, goes_value, lived_at, row_at}
use Rattle.hk_sweep.proofs.Joins.{AreShaped, joined_up_has_shape, joined_up_is, joined_up_of, join_covers}
use Rattle.hk_sweep.proofs.Lists.{get_at, get_map, get_member, get_within, map_from, one_item, place_of_member}
use Rattle.hk_sweep.proofs.Marks.{leads_target, mark_goes_on, marks, step_by, targets_by}
use Rattle.hk_sweep.proofs.Shapes.{AreSmall, KeepsShapes}
use Rattle.hk_sweep.proofs.Ups.{HasUp, has_up, up_steps_from, up_steps_have}

-- ---- what rows on the way down are

-- they have down states of the shape
pub record AreShapedHalves (t : Transitions) (halves : List Half) : Type 0 where
  pub each : (half : Half) → Member half halves → HasShape t.down_shape half.down

-- a row comes from some rows of the old layer, which ascend and are there
pub record ComesFrom (old : List PlainRow) (half : Half) : Type 0 where
  pub some : 0 < length half.from
  pub ascend : IsStrictlyIncreasing half.from
  pub there : All (λ origin. origin < length old) half.from

pub record AllComeFrom (old : List PlainRow) (halves : List Half) : Type 0 where
  pub each : (half : Half) → Member half halves → ComesFrom old half

-- ---- what finished rows are, and what they are made of

-- a row as it was on the way down, whose up state has the shape; without one it is before the last layer, as layers come
-- after it, and has no Live entry
pub record IsFinished (t : Transitions) (after : ℕ) (half : Half) (row : PlainRow) : Type 0 where
  pub down : row.down ≡ half.down
  pub from : row.from ≡ half.from
  pub up_shape : (up : List Prop) → row.up ≡ Some up → HasShape t.up_shape up
  pub before_last : row.up ≡ None → 0 < after
  pub no_live : row.up ≡ None → (c : ℕ) → Member (Live c) row.entries → ⊥

pub record FinishedAt (t : Transitions) (after : ℕ) (half : Half) (rows : List PlainRow) (c : ℕ) : Type 0 where
  pub row : PlainRow
  pub is : slice_get rows c ≡ Some row
  pub finished : IsFinished t after half row

pub record AreFinished (t : Transitions) (after : ℕ) (halves : List Half) (rows : List PlainRow) : Type 0 where
  pub long : length rows ≡ length halves
  pub each : (c : ℕ) (half : Half) → slice_get halves c ≡ Some half → FinishedAt t after half rows c

pub finished_by : (t : Transitions) (after : ℕ) (make : Half → PlainRow) (halves : List Half) → ((half : Half) → Member half halves → IsFinished t after half (make half)) → AreFinished t after halves (map make halves)
finished_by t after make halves finished = record {
  long = length-map halves make;
  each = λ c half at. record { row = make half; is = get_map make halves c half at; finished = finished half (get_member halves c half at) };
}

-- the up states of finished rows have the shape
pub ups_shaped : (t : Transitions) (after : ℕ) (halves : List Half) (rows : List PlainRow) (c : ℕ) (up : List Prop) → AreFinished t after halves rows → HasUp rows c up → HasShape t.up_shape up
ups_shaped t after halves rows c up finished h =
    let below : c < length halves = omega (arith, get_within rows c h.row h.is, finished.long) in
    let at = get_at halves c below in
    let one = finished.each c at.item at.is in
    let same : h.row ≡ one.row = one_item rows c h.row one.row h.is one.is in
    one.finished.up_shape up (subst (λ (row : PlainRow). row.up ≡ Some up) same h.has)

-- rows of the last layer
pub last_is_finished : (t : Transitions) → KeepsShapes t → (half : Half) → IsFinished t 0 half (last_row t half)
last_is_finished t keeps half = record {
  down = refl;
  from = refl;
  up_shape = λ up is. let same : t.initial_up ≡ up = cc in subst (HasShape t.up_shape) same keeps.initial_up;
  before_last = λ none. cc;
  no_live = λ none. cc;
}

module _ (t : Transitions) (keeps : KeepsShapes t) (best : ℤ) (width layer : ℕ) (values : List ℕ) (small : AreSmall values) (domain : ℕ) (old old_next : List PlainRow) where
  -- ---- the up state of a row of a layer, over a finished next layer

  module _ (steps : List (List Prop)) (after : ℕ) (lower : List Half) (next : List PlainRow) (finished : AreFinished t after lower next) (half : Half) where
    abbrev own_entry : ℕ → Entry
    own_entry = entry_at t best width layer values domain old old_next steps next half

    abbrev own_steps : List (List Prop)
    own_steps = up_steps t layer next values (map own_entry values)

    steps_shaped : AreShaped t.up_shape own_steps
    steps_shaped = record {
      each = λ step m.
          let h = up_steps_from t layer next values own_entry step m in
          let above = ups_shaped t after lower next h.of.c h.of.up finished (has_up next h.of.c h.of.up h.of.above) in
          subst (HasShape t.up_shape) (sym h.of.is) (keeps.up layer h.value h.of.up (small h.value h.has) above);
    }

    -- a row with a Live entry has an up state
    live_has_up : (c : ℕ) → Member (Live c) (map own_entry values) → joined_up t.up_shape own_steps ≡ None → ⊥
    live_has_up c m none =
        let made = map_from own_entry values (Live c) m in
        let lives = lived_at t best width layer values domain old old_next steps next half made.item c (sym made.is) in
        let has = up_steps_have t layer next made.item values own_entry c lives.up made.stands (sym made.is) lives.above in
        let some = joined_up_is t.up_shape own_steps (t.up layer made.item lives.up) has in
        let both : Some (join_states t.up_shape own_steps) ≡ None = sym some ∙ none in
        cc

    pub row_is_finished : (more : ℕ) → IsFinished t (suc more) half (row_at t best width layer values domain old old_next steps next half)
    row_is_finished more = record {
      down = refl;
      from = refl;
      up_shape = λ up is. joined_up_has_shape t.up_shape own_steps up steps_shaped is;
      before_last = λ none. omega arith;
      no_live = λ none c m. live_has_up c m none;
    }

    -- a Live entry of the row
    pub record HasLive : Type 0 where
      pub value : ℕ
      pub has : Member value values
      pub c : ℕ
      pub live : own_entry value ≡ Live c
      pub lives : Lives t best width layer values domain old old_next steps next half value c

    -- a row with an up state has a Live entry
    pub up_has_live : (up : List Prop) → joined_up t.up_shape own_steps ≡ Some up → HasLive
    up_has_live up is =
        let one = joined_up_of t.up_shape own_steps up is in
        let h = up_steps_from t layer next values own_entry one.state one.stands in
        record { value = h.value; has = h.has; c = h.of.c; live = h.of.live; lives = lived_at t best width layer values domain old old_next steps next half h.value h.of.c h.of.live }

    -- the up state of a row covers the up step of each Live entry
    pub record CoversStep (value : ℕ) (up : List Prop) : Type 0 where
      pub own : List Prop
      pub is : joined_up t.up_shape own_steps ≡ Some own
      pub covers : StateCovers t.up_shape own (t.up layer value up)

    pub live_covered : (value c : ℕ) → Member value values → (lives : Lives t best width layer values domain old old_next steps next half value c) → own_entry value ≡ Live c → CoversStep value lives.up
    live_covered value c has lives live =
        let m = up_steps_have t layer next value values own_entry c lives.up has live lives.above in
        record {
          own = join_states t.up_shape own_steps;
          is = joined_up_is t.up_shape own_steps (t.up layer value lives.up) m;
          covers = join_covers t.up_shape own_steps (t.up layer value lives.up) m steps_shaped;
        }

  -- ---- the rows of the next layer, on the way down

  module _ (some : 0 < width) (halves : List Half) (shaped : AreShapedHalves t halves) where
    abbrev pub layer_arcs : List Arc
    layer_arcs = arcs_of_rows (marks t best layer values domain old old_next) values halves

    abbrev pub layer_steps : List (List Prop)
    layer_steps = steps_of layer_arcs

    abbrev pub lower_halves : List Half
    lower_halves = next_halves t.down_shape width (length old_next) layer_arcs

    abbrev lower_half : ℕ → Half
    lower_half = next_half t.down_shape width (length old_next) layer_arcs

    arc_has_shape : (arc : Arc) → IsArc (marks t best layer values domain old old_next) values halves arc → HasShape t.down_shape arc.step
    arc_has_shape arc h =
        let on = mark_goes_on t best layer values domain old old_next h.half h.of.value arc.step arc.targets h.of.goes in
        subst (HasShape t.down_shape) (sym on.step_is) (keeps.down layer h.of.value h.half.down (small h.of.value h.of.has) (shaped.each h.half h.stands))

    arcs_shaped : (c : ℕ) → AreShapedArcs t.down_shape (length old_next) (arcs_to width layer_arcs c)
    arcs_shaped c = record {
      each = λ arc m. arc_has_shape arc (arc_of_rows (marks t best layer values domain old old_next) values halves arc (arcs_to_from width layer_arcs c arc m).stands);
    }

    pub lower_shaped : AreShapedHalves t lower_halves
    lower_shaped = record {
      each = λ half m.
          let made = half_made t.down_shape width (length old_next) layer_arcs half m in
          let by = row_has_arc width layer_arcs made.number some made.below in
          subst (λ (h : Half). HasShape t.down_shape h.down) (sym made.is)
          (joined_has_shape t.down_shape (length old_next) (arcs_to width layer_arcs made.number) by.arc by.stands (arcs_shaped made.number));
    }

    -- each row has an arc, and each arc comes from some rows
    lower_comes_from : (c : ℕ) → c < min (length layer_steps) width → ComesFrom old_next (lower_half c)
    lower_comes_from c below =
        let by = row_has_arc width layer_arcs c some below in
        let h = arc_of_rows (marks t best layer values domain old old_next) values halves by.arc (arcs_to_from width layer_arcs c by.arc by.stands).stands in
        let on = mark_goes_on t best layer values domain old old_next h.half h.of.value by.arc.step by.arc.targets h.of.goes in
        let target = leads_target values old old_next h.half.from h.of.value on.goes.to on.goes.leads in
        let origin = joined_comes t.down_shape (length old_next) (arcs_to width layer_arcs c) by.arc on.goes.to by.stands (subst (Member on.goes.to) (sym on.found_is) target) on.goes.leads.there in
        record {
          some = let place = place_of_member on.goes.to (lower_half c).from origin in omega (arith, get_within (lower_half c).from place.place on.goes.to place.is);
          ascend = joined_ascends t.down_shape (length old_next) (arcs_to width layer_arcs c);
          there = joined_there t.down_shape (length old_next) (arcs_to width layer_arcs c);
        }

    pub lower_comes : AllComeFrom old_next lower_halves
    lower_comes = record {
      each = λ half m. let made = half_made t.down_shape width (length old_next) layer_arcs half m in subst (ComesFrom old_next) (sym made.is) (lower_comes_from made.number made.below);
    }

    -- ---- the row that a value goes to

    -- it is there, comes from all that the value leads to, and covers its step
    pub record Receives (half : Half) (value c : ℕ) : Type 0 where
      pub target : Half
      pub is : slice_get lower_halves c ≡ Some target
      pub comes : (other : ℕ) → Member other (targets_by t best layer values domain old old_next half value) → other < length old_next → Member other target.from
      pub covers : StateCovers t.down_shape target.down (step_by t best layer values domain old old_next half value)

    pub received : (next : List PlainRow) (half : Half) (value c : ℕ) → Member half halves → GoesTo t best width layer values domain old old_next layer_steps next half value c → Receives half value c
    received next half value c stands to =
        let has = goes_value t best width layer values domain old old_next layer_steps next half value to.goes in
        let step = step_by t best layer values domain old old_next half value in
        let found = targets_by t best layer values domain old old_next half value in
        let arc = arc_of step found in
        let m = rows_have_arc (marks t best layer values domain old old_next) values half halves arc stands (values_have_arc (marks t best layer values domain old old_next half) value values step found has to.marked) in
        let at = arcs_to_has width layer_arcs c arc m to.leads in
        let below : c < min (length layer_steps) width = subst (λ n. n < min (length layer_steps) width) to.leads (step_below width layer_arcs arc some m) in
        record {
          target = lower_half c;
          is = half_at t.down_shape width (length old_next) layer_arcs c below;
          comes = λ other target there. joined_comes t.down_shape (length old_next) (arcs_to width layer_arcs c) arc other at target there;
          covers = joined_covers t.down_shape (length old_next) (arcs_to width layer_arcs c) arc at (arcs_shaped c);
        }

    -- there are at most as many rows as the width says
    pub lower_within : length lower_halves ≤ width
    lower_within = omega (arith, halves_long t.down_shape width (length old_next) layer_arcs)
