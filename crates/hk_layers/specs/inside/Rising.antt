-- What the way up makes of rows, value by value.
use Rattle.std.specs.Prelude.{ℕ, List, [], ◌∷◌, ◌++◌, length, take, drop, slice_index_or, Option, None}
use Rattle.hk_group.specs.Groups.{group_up_shape, group_passes}
use Rattle.hk_kinds.specs.declared.kinds.Kind.{Kind}
use Rattle.hk_kinds.specs.declared.properties.Prop.{Prop}
use Rattle.hk_table.specs.declared.entries.Entry.{Entry}
use Rattle.hk_table.specs.declared.entries.Entry.TheVariants as entry
use Rattle.hk_layers.specs.Climbing.{join_up}
use Rattle.hk_layers.specs.Layers.{judged_by, up_step_by}
use Rattle.hk_layers.specs.Spots.{PlainSpot}
use Rattle.hk_layers.specs.Transitions.{transitions_of}
use Rattle.hk_layers.specs.declared.leads.Lead.{Lead}
use Rattle.hk_layers.specs.declared.leads.Lead.TheVariants as lead

-- states are joined into what there is, first to last
abbrev pub join_ups : List Kind → Option (List Prop) → List (List Prop) → Option (List Prop)
join_ups kinds up [] = up
join_ups kinds up (state ∷ states) = join_ups kinds (join_up kinds up state) states

-- the entry of a value that leads somewhere from a row with this down state, above rows with these up states
abbrev pub entry_of_lead : PlainSpot → List (Option (List Prop)) → List Prop → ℕ → Lead → Entry
entry_of_lead spot below down value lead.Gone = entry.Gone
entry_of_lead spot below down value lead.Cut = entry.Cut
entry_of_lead spot below down value (lead.To c) = judged_by (group_passes spot.group spot.layer value spot.best down) (slice_index_or below c None) c

-- the entries of a row, for these values
abbrev pub row_entries : PlainSpot → List (Option (List Prop)) → List Prop → List ℕ → List Lead → List Entry
row_entries spot below down [] leads = []
row_entries spot below down (value ∷ values) [] = []
row_entries spot below down (value ∷ values) (lead ∷ leads) = entry_of_lead spot below down value lead ∷ row_entries spot below down values leads

-- the up step of an entry, where it is Live
abbrev pub entry_step : PlainSpot → List (Option (List Prop)) → ℕ → Entry → List (List Prop)
entry_step spot below value (entry.Live c) = up_step_by (transitions_of spot.group) spot.layer value (slice_index_or below c None)
entry_step spot below value _ = []

-- the up steps of a row's entries, which stand for these values
abbrev pub row_steps : PlainSpot → List (Option (List Prop)) → List ℕ → List Entry → List (List Prop)
row_steps spot below [] entries = []
row_steps spot below (value ∷ values) [] = []
row_steps spot below (value ∷ values) (entry ∷ entries) = entry_step spot below value entry ++ row_steps spot below values entries

-- the up state of a row with these entries, where it has one
abbrev pub row_up : PlainSpot → List (Option (List Prop)) → List ℕ → List Entry → Option (List Prop)
row_up spot below values entries = join_ups (group_up_shape spot.group) None (row_steps spot below values entries)

-- the entries of rows with these down states, one row after the other
abbrev pub layer_entries : PlainSpot → List (Option (List Prop)) → List ℕ → List (List Prop) → List Lead → List Entry
layer_entries spot below values [] leads = []
layer_entries spot below values (down ∷ downs) leads = row_entries spot below down values (take (length values) leads) ++ layer_entries spot below values downs (drop (length values) leads)

-- their up states
abbrev pub layer_ups : PlainSpot → List (Option (List Prop)) → List ℕ → List (List Prop) → List Lead → List (Option (List Prop))
layer_ups spot below values [] leads = []
layer_ups spot below values (down ∷ downs) leads = row_up spot below values (row_entries spot below down values (take (length values) leads)) ∷ layer_ups spot below values downs (drop (length values) leads)
