-- The way up in flat lists is that of rows.
use Rattle.std.proofs.Common.{◌≡◌, ℕ, zero, suc, List, [], ◌∷◌, ◌++◌, length, map, drop, get_or, slice_get, Option, None, Some, refl, sym, ◌∙◌, ap, arith}
use Rattle.std.proofs.lemmas.List.{drop_at, length-map, take_at}
use Rattle.hk_group.specs.Groups.{group_up_shape, group_passes}
use Rattle.hk_kinds.specs.declared.kinds.Kind.{Kind}
use Rattle.hk_kinds.specs.declared.properties.Prop.{Prop}
use Rattle.hk_kinds.specs.Joins.{state_join}
use Rattle.hk_table.specs.Tables.{PlainRow, flat_entries}
use Rattle.hk_table.specs.declared.entries.Entry.{Entry}
use Rattle.hk_table.specs.declared.entries.Entry.TheVariants.{Gone, Cut, Dead, Live}
use Rattle.hk_layers.specs.Flat.{lead_of, flat_leads, ups_of, halves_of, AreRowsOf}
use Rattle.hk_layers.specs.Layers.{Half, Mark, is_gone, is_cut, goes_on, row_of_step, judged_by, entry_of_mark, join_onto, joined_up, up_state, up_step_by, up_step_of, up_steps}
use Rattle.hk_layers.specs.Spots.{PlainSpot, finished_at}
use Rattle.hk_layers.specs.Transitions.{transitions_of}
use Rattle.hk_layers.specs.Views.{FrontView}
use Rattle.hk_layers.specs.declared.leads.Lead.{Lead}
use Rattle.hk_text.specs.Sets.{members}
use Rattle.hk_layers.specs.inside.Rising.{join_ups, entry_of_lead, entry_step, row_entries, row_steps, row_up, layer_entries, layer_ups}

-- the up state of a row at a place, where the row is there and has one
up_at : (rows : List PlainRow) (c : ℕ) → get_or (ups_of rows) c None ≡ up_state (slice_get rows c)
up_at [] c = refl
up_at (row ∷ rows) zero = refl
up_at (row ∷ rows) (suc c) = up_at rows c

-- states joined into one, first to last
join_onto_one : (kinds : List Kind) (state : List Prop) (states : List (List Prop)) → join_ups kinds (Some state) states ≡ Some (join_onto kinds state states)
join_onto_one kinds state [] = refl
join_onto_one kinds state (next ∷ states) = join_onto_one kinds (state_join kinds state next) states

join_all_up : (kinds : List Kind) (states : List (List Prop)) → join_ups kinds None states ≡ joined_up kinds states
join_all_up kinds [] = refl
join_all_up kinds (state ∷ states) = join_onto_one kinds state states

module _ (spot : PlainSpot) (marks : Half → ℕ → Mark) (steps : List (List Prop)) (next : List PlainRow) where
  entry_same : (half : Half) (value : ℕ) (mark : Mark) → entry_of_lead spot (ups_of next) half.down value (lead_of spot.width steps mark) ≡ entry_of_mark (transitions_of spot.group) spot.best spot.layer spot.width steps next half value mark
  entry_same half value is_gone = refl
  entry_same half value is_cut = refl
  entry_same half value (goes_on step targets) =
      let c = row_of_step spot.width steps step in
      ap (λ up. judged_by (group_passes spot.group spot.layer value spot.best half.down) up c) (up_at next c)

  row_same : (half : Half) (values : List ℕ) → row_entries spot (ups_of next) half.down values (map (λ value. lead_of spot.width steps (marks half value)) values)
      ≡ map (λ value. entry_of_mark (transitions_of spot.group) spot.best spot.layer spot.width steps next half value (marks half value)) values
  row_same half [] = refl
  row_same half (value ∷ values) = cc (entry_same half value (marks half value), row_same half values)

  step_same : (value : ℕ) (entry : Entry) → entry_step spot (ups_of next) value entry ≡ up_step_of (transitions_of spot.group) spot.layer next value entry
  step_same value Gone = refl
  step_same value Cut = refl
  step_same value (Dead c) = refl
  step_same value (Live c) = ap (up_step_by (transitions_of spot.group) spot.layer value) (up_at next c)

  steps_same : (values : List ℕ) (entries : List Entry) → row_steps spot (ups_of next) values entries ≡ up_steps (transitions_of spot.group) spot.layer next values entries
  steps_same [] entries = refl
  steps_same (value ∷ values) [] = refl
  steps_same (value ∷ values) (entry ∷ entries) = cc (step_same value entry, steps_same values entries)

  up_same : (values : List ℕ) (entries : List Entry) → row_up spot (ups_of next) values entries ≡ joined_up (group_up_shape spot.group) (up_steps (transitions_of spot.group) spot.layer next values entries)
  up_same values entries = join_all_up (group_up_shape spot.group) (row_steps spot (ups_of next) values entries) ∙ ap (joined_up (group_up_shape spot.group)) (steps_same values entries)

  rows_entries : (halves : List Half) → layer_entries spot (ups_of next) (members spot.values) (map (λ (half : Half). half.down) halves) (flat_leads spot.width steps marks (members spot.values) halves) ≡ flat_entries (map (finished_at spot marks steps next) halves)
  rows_entries [] = refl
  rows_entries (half ∷ halves) =
      let values = members spot.values in
      let row = map (λ value. lead_of spot.width steps (marks half value)) values in
      let rest = flat_leads spot.width steps marks values halves in
      let downs = map (λ (half : Half). half.down) halves in
      let long : length row ≡ length values = length-map values _ in
      ap (λ ls. row_entries spot (ups_of next) half.down values ls ++ layer_entries spot (ups_of next) values downs (drop (length values) (row ++ rest))) (take_at row rest (length values) long)
      ∙ (ap (λ ls. row_entries spot (ups_of next) half.down values row ++ layer_entries spot (ups_of next) values downs ls) (drop_at row rest (length values) long)
      ∙ cc (row_same half values, rows_entries halves))

  rows_ups : (halves : List Half) → layer_ups spot (ups_of next) (members spot.values) (map (λ (half : Half). half.down) halves) (flat_leads spot.width steps marks (members spot.values) halves) ≡ ups_of (map (finished_at spot marks steps next) halves)
  rows_ups [] = refl
  rows_ups (half ∷ halves) =
      let values = members spot.values in
      let row = map (λ value. lead_of spot.width steps (marks half value)) values in
      let rest = flat_leads spot.width steps marks values halves in
      let downs = map (λ (half : Half). half.down) halves in
      let long : length row ≡ length values = length-map values _ in
      ap (λ ls. row_up spot (ups_of next) values (row_entries spot (ups_of next) half.down values ls) ∷ layer_ups spot (ups_of next) values downs (drop (length values) (row ++ rest))) (take_at row rest (length values) long)
      ∙ (ap (λ ls. row_up spot (ups_of next) values (row_entries spot (ups_of next) half.down values row) ∷ layer_ups spot (ups_of next) values downs ls) (drop_at row rest (length values) long)
      ∙ (ap (λ es. row_up spot (ups_of next) values es ∷ layer_ups spot (ups_of next) values downs rest) (row_same half values)
      ∙ cc (up_same values (map (λ value. entry_of_mark (transitions_of spot.group) spot.best spot.layer spot.width steps next half value (marks half value)) values), rows_ups halves)))

  -- entries and up states that are made of leads and of up states below are those of the finished rows
  pub rows_are : (halves : List Half) (downs : List (List Prop)) (leads : List Lead) (below : List (Option (List Prop))) (entries : List Entry) (ups : List (Option (List Prop))) → downs ≡ map (λ (half : Half). half.down) halves
      → leads ≡ flat_leads spot.width steps marks (members spot.values) halves → ups_of next ≡ below
      → entries ≡ layer_entries spot below (members spot.values) downs leads → ups ≡ layer_ups spot below (members spot.values) downs leads → AreRowsOf (map (finished_at spot marks steps next) halves) entries ups
  rows_are halves downs leads below entries ups of_halves leads_are below_is entries_are made = record {
    entries_are =
        entries_are
        ∙ (ap (λ us. layer_entries spot us (members spot.values) downs leads) (sym below_is)
        ∙ (ap (λ states. layer_entries spot (ups_of next) (members spot.values) states leads) of_halves
        ∙ (ap (layer_entries spot (ups_of next) (members spot.values) (map (λ (half : Half). half.down) halves)) leads_are
        ∙ rows_entries halves)));
    ups_are =
        made
        ∙ (ap (λ us. layer_ups spot us (members spot.values) downs leads) (sym below_is)
        ∙ (ap (λ states. layer_ups spot (ups_of next) (members spot.values) states leads) of_halves
        ∙ (ap (layer_ups spot (ups_of next) (members spot.values) (map (λ (half : Half). half.down) halves)) leads_are
        ∙ rows_ups halves)));
  }

-- the down states of rows on the way down, whose sets of old rows are numbers
pub downs_of : (downs : List (List Prop)) (froms : List ℕ) → length downs ≡ length froms → downs ≡ map (λ (half : Half). half.down) (halves_of downs froms)
downs_of [] froms long = refl
downs_of (down ∷ downs) [] long = absurd (omega arith)
downs_of (down ∷ downs) (from ∷ froms) long = ap (λ states. down ∷ states) (downs_of downs froms (omega arith))

-- what contracts see of down states and sets of old rows
abbrev pub front_by : ℕ → List (List Prop) → List ℕ → FrontView
front_by width downs froms = record { width = width; halves = halves_of downs froms }

pub seen_downs : (width : ℕ) (downs : List (List Prop)) (froms : List ℕ) (now : FrontView) → front_by width downs froms ≡ now → length downs ≡ length froms → downs ≡ map (λ (half : Half). half.down) now.halves
seen_downs width downs froms now seen long = downs_of downs froms long ∙ ap (λ (f : FrontView). map (λ (half : Half). half.down) f.halves) seen
