-- The layers of the tight revision, from the last one up.
use Rattle.std.proofs.Common.{◌≡◌, ℕ, ℤ, zero, suc, ◌+◌, ◌-◌, ◌*◌, ◌<◌, ◌≤◌, List, [], ◌∷◌, ◌++◌, length, map, take, drop, replicate, get_or, slice_index, Option, Some, All, IfSome, refl, sym, ◌∙◌, ap, subst, arith}
use Rattle.std.proofs.lemmas.List.{drop_all, drop_at, get_or-drop, get_or_append_left, get_or_default, get_or-map, get_or-take, get_or-replicate, get_or_past, length-append, length-drop, length-map, length-replicate, length-take-le, same_lists, take_at}
use Rattle.hk_arena.specs.Diagrams.{DiagramLevels, rows_of}
use Rattle.hk_group.specs.Groups.{PlainGroup, IsGroup, group_down_shape, group_up_shape, group_initial_up}
use Rattle.hk_kinds.proofs.StateLaws.{length-HasShape}
use Rattle.hk_kinds.specs.Shapes.{HasShape}
use Rattle.hk_kinds.specs.declared.kinds.Kind.{Kind}
use Rattle.hk_kinds.specs.declared.properties.Prop.{Prop}
use Rattle.hk_layers.specs.Flat.{AreRowsOf, AreShapedUps, flat_leads, ups_of}
use Rattle.hk_layers.specs.Layers.{Half, Mark, finished, last_row, next_halves, steps_of}
use Rattle.hk_layers.specs.Spots.{PlainSpot, finished_at, mark_at, arcs_at}
use Rattle.hk_layers.specs.Transitions.{Transitions, transitions_of, layer_sets}
use Rattle.hk_layers.specs.declared.leads.Lead.{Lead}
use Rattle.hk_sweep.specs.Revising.{IsMadeFor}
use Rattle.hk_sweep.specs.Tight.{Layers, finish, tight_from}
use Rattle.hk_sweep.specs.inside.Fallen.{AreFallen, FallsTo, no_layer, reached}
use Rattle.hk_sweep.specs.Views.{DescentView, FallenView}
use Rattle.hk_sweep.specs.inside.Frames.{IsFramed, PlainFrame, spot_at}
use Rattle.hk_sweep.specs.inside.Rising.{IsRisen, IsRisenBelow, tight_on}
use Rattle.hk_sweep.specs.inside.Written.{IsLayerWritten, rows_made}
use Rattle.hk_table.specs.Fits.{LayersFit, last_fits, layer_fits}
use Rattle.hk_table.specs.Tables.{PlainRow, PlainShape, flat_entries}
use Rattle.hk_table.specs.declared.entries.Entry.{Entry}
use Rattle.hk_text.specs.Sets.{members}

-- what is left of a list, one step on
pub drop_here : {X : Type 0} (xs : List X) (i : ℕ) (d : X) → i < length xs → drop i xs ≡ get_or xs i d ∷ drop (suc i) xs
drop_here [] i d within = absurd (omega arith)
drop_here (x ∷ xs) zero d within = refl
drop_here (x ∷ xs) (suc i) d within = drop_here xs i d (omega arith)

pub drop_map_here : {X Y : Type 0} (f : X → Y) (xs : List X) (i : ℕ) (d : X) → i < length xs → drop i (map f xs) ≡ f (get_or xs i d) ∷ drop (suc i) (map f xs)
drop_map_here f [] i d within = absurd (omega arith)
drop_map_here f (x ∷ xs) zero d within = refl
drop_map_here f (x ∷ xs) (suc i) d within = drop_map_here f xs i d (omega arith)

-- a table that fits has one layer more than there are sets of values
pub length-fits : (down up : List Kind) (values : List (List ℕ)) (table : List (List PlainRow)) → LayersFit down up values table → length table ≡ suc (length values)
length-fits down up values table (last_fits rows) = refl
length-fits down up values table (layer_fits {more = more} {layers = layers} rows fits) = ap suc (length-fits down up more layers fits)

-- a table that another one is but for one layer is the same after it
pub same_after : (at : ℕ) (rows : List PlainRow) (old new : List (List PlainRow)) → IsLayerWritten at rows old new → drop (suc at) new ≡ drop (suc at) old
same_after at rows old new written =
    same_lists _ _
    (length-drop (suc at) new ∙ ap (λ n. n - suc at) written.layers ∙ sym (length-drop (suc at) old))
    (λ k d within.
    let long = length-drop (suc at) new in
    get_or_default (drop (suc at) new) k d [] within
    ∙ get_or-drop (suc at) new k []
    ∙ written.others (suc at + k) (omega arith)
    ∙ sym (get_or-drop (suc at) old k [])
    ∙ get_or_default (drop (suc at) old) k [] d (omega (arith, within, long, length-drop (suc at) old, written.layers)))

-- ---- the tight revision from a layer on

module _ (frame : PlainFrame) (sets : List ℕ) (old : List (List PlainRow)) where
  -- the rows of the next layer, which a layer's rows lead on to
  abbrev pub next_on : ℕ → List Half → List Half
  next_on at halves = next_halves (group_down_shape frame.group) frame.width (length (rows_of old (suc at))) (arcs_at (spot_at frame sets at) (rows_of old at) (rows_of old (suc at)) halves)

  abbrev pub marks_on : ℕ → Half → ℕ → Mark
  marks_on at = mark_at (spot_at frame sets at) (rows_of old at) (rows_of old (suc at))

  abbrev pub steps_on : ℕ → List Half → List (List Prop)
  steps_on at halves = steps_of (arcs_at (spot_at frame sets at) (rows_of old at) (rows_of old (suc at)) halves)

  pub tight_on_step : (at : ℕ) (halves : List Half) → at < length sets → at < length (layer_sets frame.group frame.domains) → suc at < length old
      → tight_on frame sets old at halves ≡ finish (transitions_of frame.group) frame.best frame.width at (members (slice_index sets at)) (marks_on at) (steps_on at halves) halves (tight_on frame sets old (suc at) (next_on at halves))
  tight_on_step at halves here there below =
      let t = transitions_of frame.group in
      let values = drop_map_here members sets at 0 here in
      let domains = drop_here (layer_sets frame.group frame.domains) at 0 there in
      let olds = drop_here old (suc at) [] below in
      let on : at + 1 ≡ suc at = omega arith in
      (λ k. tight_from t frame.best frame.width at (values k) (domains k) halves (rows_of old at) (olds k))
      ∙ ap (λ n. finish t frame.best frame.width at (members (slice_index sets at)) (marks_on at) (steps_on at halves) halves (tight_from t frame.best frame.width n (drop (suc at) (map members sets)) (drop (suc at) (layer_sets frame.group frame.domains)) (next_on at halves) (rows_of old (suc at)) (drop (suc (suc at)) old))) on

  pub tight_on_last : (at : ℕ) (halves : List Half) → length sets ≤ at → tight_on frame sets old at halves ≡ record { first = map (last_row (transitions_of frame.group)) halves; rest = [] }
  tight_on_last at halves past =
      let none : drop at (map members sets) ≡ [] = drop_all at (map members sets) (omega (arith, length-map sets members)) in
      ap (λ values. tight_from (transitions_of frame.group) frame.best frame.width at values (drop at (layer_sets frame.group frame.domains)) halves (rows_of old at) (drop (suc at) old)) none

-- ---- the rows that are made

module _ (t : Transitions) (best : ℤ) (width layer : ℕ) (values : List ℕ) (marks : Half → ℕ → Mark) (steps : List (List Prop)) (next : List PlainRow) where
  -- those of a layer with its entries and up states, flat
  pub rows_made_finished : (halves : List Half) → let rows = map (finished t best width layer values marks steps next) halves in rows_made (length values) halves (ups_of rows) (flat_entries rows) ≡ rows
  rows_made_finished [] = refl
  rows_made_finished (half ∷ halves) =
      let row = finished t best width layer values marks steps next half in
      let rows = map (finished t best width layer values marks steps next) halves in
      let long : length row.entries ≡ length values = length-map values _ in
      let here : take (length values) (row.entries ++ flat_entries rows) ≡ row.entries = take_at row.entries (flat_entries rows) (length values) long in
      let after : drop (length values) (row.entries ++ flat_entries rows) ≡ flat_entries rows = drop_at row.entries (flat_entries rows) (length values) long in
      (λ k. record row { entries = here k } ∷ rows_made (length values) halves (ups_of rows) (after k))
      ∙ ap (λ more. row ∷ more) (rows_made_finished halves)

  pub length-finished_ups : (halves : List Half) → length (ups_of (map (finished t best width layer values marks steps next) halves)) ≡ length halves
  length-finished_ups halves = length-map (map (finished t best width layer values marks steps next) halves) _ ∙ length-map halves _

  pub length-finished_entries : (halves : List Half) → length (flat_entries (map (finished t best width layer values marks steps next) halves)) ≡ length halves * length values
  length-finished_entries [] = omega (arith)
  length-finished_entries (half ∷ halves) =
      let row = finished t best width layer values marks steps next half in
      let rows = map (finished t best width layer values marks steps next) halves in
      let long : length row.entries ≡ length values = length-map values _ in
      omega (arith, length-append row.entries (flat_entries rows), long, length-finished_entries halves)

-- those of the last layer, which have no entries
pub rows_made_last : (t : Transitions) (halves : List Half) → rows_made 0 halves (replicate (length halves) (Some t.initial_up)) [] ≡ map (last_row t) halves
rows_made_last t [] = refl
rows_made_last t (half ∷ halves) = ap (λ more. last_row t half ∷ more) (rows_made_last t halves)

pub last_ups : (t : Transitions) (halves : List Half) → ups_of (map (last_row t) halves) ≡ replicate (length halves) (Some t.initial_up)
last_ups t [] = refl
last_ups t (half ∷ halves) = ap (λ more. Some t.initial_up ∷ more) (last_ups t halves)

pub last_shapes : (kinds : List Kind) (state : List Prop) (n : ℕ) → HasShape kinds state → AreShapedUps kinds (replicate n (Some state))
last_shapes kinds state n shape = λ k d within. subst (λ up. IfSome up (HasShape kinds)) (sym (get_or-replicate n k (Some state) d (omega (arith, length-replicate n (Some state), within)))) shape

-- ---- a layer on the way up

module _ (frame : PlainFrame) (sets : List ℕ) (old : List (List PlainRow)) (at : ℕ) where
  -- the rows of the layer with their entries and up states
  abbrev pub finished_on : List Half → List PlainRow
  finished_on halves = map (finished_at (spot_at frame sets at) (marks_on frame sets old at) (steps_on frame sets old at halves) (tight_on frame sets old (suc at) (next_on frame sets old at halves)).first) halves

  -- what one step up tells of the entries and up states of a layer
  abbrev pub TellsRows : PlainSpot → List Half → List Lead → List (Option (List Prop)) → List Entry → List (Option (List Prop)) → Type 0
  TellsRows spot halves leads below entries ups = (marks : Half → ℕ → Mark) (steps : List (List Prop)) (next : List PlainRow) → leads ≡ flat_leads spot.width steps marks (members spot.values) halves → ups_of next ≡ below → AreRowsOf (map (finished_at spot marks steps next) halves) entries ups

  pub rows_finished : (spot : PlainSpot) (fallen : FallenView) (leads : List Lead) (next : List Half) (table : List (List PlainRow)) (below : List (Option (List Prop))) (entries : List Entry) (ups : List (Option (List Prop)))
      → spot ≡ spot_at frame sets at → leads ≡ fallen.leads → FallsTo frame sets old at fallen next → IsRisen frame sets old (suc at) next table below → TellsRows spot fallen.halves leads below entries ups → AreRowsOf (finished_on fallen.halves) entries ups
  rows_finished spot fallen leads next table below entries ups is read falls risen tells =
      let told = subst (λ s. TellsRows s fallen.halves leads below entries ups) is tells in
      let rises = subst (λ n. IsRisen frame sets old (suc at) n table below) falls.down.next_are risen in
      told (marks_on frame sets old at) (steps_on frame sets old at fallen.halves) (tight_on frame sets old (suc at) (next_on frame sets old at fallen.halves)).first (read ∙ falls.down.leads_are) (sym rises.ups)

  pub length-told_ups : (halves : List Half) (entries : List Entry) (ups : List (Option (List Prop))) → AreRowsOf (finished_on halves) entries ups → length ups ≡ length halves
  length-told_ups halves entries ups rows =
      let spot = spot_at frame sets at in
      ap length rows.ups_are ∙ length-finished_ups (transitions_of frame.group) frame.best frame.width at (members spot.values) (marks_on frame sets old at) (steps_on frame sets old at halves) (tight_on frame sets old (suc at) (next_on frame sets old at halves)).first halves

  pub length-told_entries : (halves : List Half) (entries : List Entry) (ups : List (Option (List Prop))) → at < length sets → AreRowsOf (finished_on halves) entries ups → length entries ≡ length halves * length (get_or (map members sets) at [])
  length-told_entries halves entries ups here rows =
      let spot = spot_at frame sets at in
      ap length rows.entries_are
      ∙ length-finished_entries (transitions_of frame.group) frame.best frame.width at (members spot.values) (marks_on frame sets old at) (steps_on frame sets old at halves) (tight_on frame sets old (suc at) (next_on frame sets old at halves)).first halves
      ∙ ap (λ vs. length halves * length vs) (sym (get_or-map members sets at 0 [] here))

  pub step_rises : (fallen : FallenView) (next : List Half) (table new : List (List PlainRow)) (below : List (Option (List Prop))) (entries : List Entry) (ups : List (Option (List Prop)))
      → at < length sets → length sets ≡ length frame.group.vars → length table ≡ suc (length sets) → FallsTo frame sets old at fallen next → IsRisen frame sets old (suc at) next table below → AreRowsOf (finished_on fallen.halves) entries ups
      → IsLayerWritten at (rows_made (length (get_or (map members sets) at [])) fallen.halves ups entries) table new → AreShapedUps (group_up_shape frame.group) ups → IsRisen frame sets old at fallen.halves new ups
  step_rises fallen next table new below entries ups here variables long falls risen rows written shapes =
      let rises = subst (λ n. IsRisen frame sets old (suc at) n table below) falls.down.next_are risen in
      let on = tight_on_step frame sets old at fallen.halves here (omega (arith, length-map frame.group.vars (λ variable. slice_index frame.domains variable))) (omega (arith, risen.long)) in
      let rest = tight_on frame sets old (suc at) (next_on frame sets old at fallen.halves) in
      let made : rows_of new at ≡ finished_on fallen.halves =
      written.here
      ∙ (λ k. rows_made (length (get_or-map members sets at 0 [] here k)) fallen.halves (rows.ups_are k) (rows.entries_are k))
      ∙ rows_made_finished (transitions_of frame.group) frame.best frame.width at (members (slice_index sets at)) (marks_on frame sets old at) (steps_on frame sets old at fallen.halves) rest.first fallen.halves in
      let layers : drop at new ≡ finished_on fallen.halves ∷ (rest.first ∷ rest.rest) =
      drop_here new at [] (omega (arith, written.layers)) ∙ (λ k. made k ∷ (same_after at _ table new written ∙ rises.layers) k) in record {
        long = written.layers ∙ risen.long;
        layers = layers ∙ ap (λ (l : Layers). l.first ∷ l.rest) (sym on);
        ups = rows.ups_are ∙ ap (λ (l : Layers). ups_of l.first) (sym on);
        shapes = shapes;
      }

-- ---- the last layer

-- a state of the group's up shape is as wide as the lists that were made for the group
pub wide_as_ups : {state : List Prop} {own group : PlainGroup} {wide width : ℕ} → HasShape (group_up_shape own) state → own ≡ group → width ≡ length (group_up_shape group) → wide ≡ width → length state ≡ wide
wide_as_ups shape same made is = length-HasShape shape ∙ ap (λ g. length (group_up_shape g)) same ∙ sym made ∙ sym is

module _ (frame : PlainFrame) (sets : List ℕ) (old : List (List PlainRow)) where
  pub last_rises : (at : ℕ) (halves : List Half) (table new : List (List PlainRow)) (ups : List (Option (List Prop)))
      → at ≡ length sets → length table ≡ suc (length sets) → length old ≡ length table → ups ≡ replicate (length halves) (Some (group_initial_up frame.group)) → HasShape (group_up_shape frame.group) (group_initial_up frame.group)
      → IsLayerWritten at (rows_made (length (get_or (map members sets) at [])) halves ups []) table new → IsRisen frame sets old at halves new ups
  last_rises at halves table new ups is long same ups_are shape written =
      let t = transitions_of frame.group in
      let on = tight_on_last frame sets old at halves (omega (arith, is)) in
      let none : get_or (map members sets) at [] ≡ [] = get_or_past (map members sets) at [] (omega (arith, length-map sets members)) in
      let made : rows_of new at ≡ map (last_row t) halves = written.here ∙ (λ k. rows_made (length (none k)) halves (ups_are k) []) ∙ rows_made_last t halves in
      let layers : drop at new ≡ map (last_row t) halves ∷ [] = drop_here new at [] (omega (arith, written.layers)) ∙ (λ k. made k ∷ drop_all (suc at) new (omega (arith, written.layers)) k) in record {
        long = written.layers ∙ sym same;
        layers = layers ∙ ap (λ (l : Layers). l.first ∷ l.rest) (sym on);
        ups = ups_are ∙ sym (last_ups t halves) ∙ ap (λ (l : Layers). ups_of l.first) (sym on);
        shapes = subst (AreShapedUps (group_up_shape frame.group)) (sym ups_are) (last_shapes (group_up_shape frame.group) (group_initial_up frame.group) (length halves) shape);
      }

-- ---- the layers of the way down

-- the layer at a place, of those that were reached
pub reached_at : (count : ℕ) (descent : DescentView) (at : ℕ) (layer : FallenView) → at < count → count ≤ length descent.layers → layer ≡ get_or descent.layers at layer → get_or (reached count descent) at no_layer ≡ layer
reached_at count descent at layer before room read =
    let within : at < length (take count descent.layers) = omega (arith, length-take-le count descent.layers room) in
    get_or_append_left (take count descent.layers) (descent.here ∷ []) no_layer at within
    ∙ get_or-take count descent.layers at no_layer before
    ∙ get_or_default descent.layers at no_layer layer (omega arith)
    ∙ sym read

pub length-reached : (count : ℕ) (descent : DescentView) → count ≤ length descent.layers → length (reached count descent) ≡ suc count
length-reached count descent room = omega (arith, length-append (take count descent.layers) (descent.here ∷ []), length-take-le count descent.layers room)

-- a layer leads on to rows from which those after it are risen; so what a step up tells holds of the layer
pub rises_below : (frame : PlainFrame) (sets : List ℕ) (old table : List (List PlainRow)) (below : List (Option (List Prop))) (descent : DescentView) (at next : ℕ) (layer : FallenView)
    → length sets ≤ length descent.layers → at < length sets → next ≡ suc at → layer ≡ get_or descent.layers at layer → AreFallen frame sets old (reached (length sets) descent)
    → IsRisen frame sets old next (get_or (reached (length sets) descent) next no_layer).halves table below → IsRisenBelow frame sets at layer table below
rises_below frame sets old table below descent at next layer room before is read fallen risen = record {
  old = old;
  next = (get_or (reached (length sets) descent) (suc at) no_layer).halves;
  falls = subst (λ (v : FallenView). FallsTo frame sets old at v (get_or (reached (length sets) descent) (suc at) no_layer).halves) (reached_at (length sets) descent at layer before room read) (fallen.each at (omega (arith, length-reached (length sets) descent room)));
  risen = subst (λ n. IsRisen frame sets old n (get_or (reached (length sets) descent) n no_layer).halves table below) is risen;
}

pub rises_on : (frame : PlainFrame) (sets now : List ℕ) (old table new : List (List PlainRow)) (below ups : List (Option (List Prop))) (descent : DescentView) (at next : ℕ) (layer : FallenView)
    → now ≡ sets → length sets ≤ length descent.layers → at < length sets → next ≡ suc at → layer ≡ get_or descent.layers at layer → AreFallen frame sets old (reached (length sets) descent)
    → IsRisen frame sets old next (get_or (reached (length sets) descent) next no_layer).halves table below
    → ((older : List (List PlainRow)) (halves : List Half) → FallsTo frame now older at layer halves → IsRisen frame now older (suc at) halves table below → IsRisen frame now older at layer.halves new ups)
    → IsRisen frame sets old at (get_or (reached (length sets) descent) at no_layer).halves new ups
rises_on frame sets now old table new below ups descent at next layer same room before is read fallen risen tells =
    let falls = subst (λ (v : FallenView). FallsTo frame sets old at v (get_or (reached (length sets) descent) (suc at) no_layer).halves) (reached_at (length sets) descent at layer before room read) (fallen.each at (omega (arith, length-reached (length sets) descent room))) in
    let rises = subst (λ n. IsRisen frame sets old n (get_or (reached (length sets) descent) n no_layer).halves table below) is risen in
    let told = subst (λ ss. (older : List (List PlainRow)) (halves : List Half) → FallsTo frame ss older at layer halves → IsRisen frame ss older (suc at) halves table below → IsRisen frame ss older at layer.halves new ups) same tells in
    subst (λ (v : FallenView). IsRisen frame sets old at v.halves new ups) (sym (reached_at (length sets) descent at layer before room read)) (told old _ falls rises)

-- ---- a whole diagram

-- a diagram that was made for a group is framed by it, whatever the bound
pub framed : (group : PlainGroup) (domains : List ℕ) (best : ℤ) (width : ℕ) (diagram : DiagramLevels) → IsGroup group → All (λ variable. variable < length domains) group.vars → IsMadeFor group width diagram
    → IsFramed (record { group = group; domains = domains; best = best; width = width }) diagram
framed group domains best width diagram rules there made = record {
  rules = rules;
  domains_are = there;
  down = ap (λ (shape : PlainShape). shape.down) made.shape;
  up = ap (λ (shape : PlainShape). shape.up) made.shape;
  layers = ap (λ (shape : PlainShape). length shape.domains) made.shape ∙ length-map group.vars (λ variable. slice_index made.sets variable);
  wide = made.wide;
}
