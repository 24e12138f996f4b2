-- A layer in flat lists: what stands for its values lies together, row by row.
use Rattle.std.specs.Prelude.{◌≡◌, ℕ, List, [], ◌∷◌, ◌++◌, Option, IfSome, map, slice_index_or, All}
use Rattle.hk_kinds.specs.Shapes.{HasShape}
use Rattle.hk_kinds.specs.declared.kinds.Kind.{Kind}
use Rattle.hk_kinds.specs.declared.properties.Prop.{Prop}
use Rattle.hk_table.specs.Tables.{PlainRow, flat_entries}
use Rattle.hk_table.specs.declared.entries.Entry.{Entry}
use Rattle.hk_text.specs.Sets.{members_below}
use Rattle.hk_layers.specs.Layers.{Half, Mark, is_gone, is_cut, goes_on, row_of_step}
use Rattle.hk_layers.specs.declared.leads.Lead.{Lead}
use Rattle.hk_layers.specs.declared.leads.Lead.TheVariants as lead

-- rows on the way down, whose sets of old rows are numbers
abbrev pub halves_of : List (List Prop) → List ℕ → List Half
halves_of [] froms = []
halves_of (down ∷ downs) [] = []
halves_of (down ∷ downs) (from ∷ froms) = record { down = down; from = members_below from 256 } ∷ halves_of downs froms

-- a row on the way down; one without anything where it isn't there
abbrev pub half_at : List Half → ℕ → Half
half_at halves at = slice_index_or halves at (record { down = []; from = [] })

-- their down states have this shape
abbrev pub AreShaped : List Kind → List Half → Type 0
AreShaped kinds halves = All (λ (half : Half). HasShape kinds half.down) halves

-- up states have this shape, where rows have one
abbrev pub AreShapedUps : List Kind → List (Option (List Prop)) → Type 0
AreShapedUps kinds ups = All (λ (up : Option (List Prop)). IfSome up (HasShape kinds)) ups

-- where a value leads from a row, by what becomes of it
abbrev pub lead_of : ℕ → List (List Prop) → Mark → Lead
lead_of width steps is_gone = lead.Gone
lead_of width steps is_cut = lead.Cut
lead_of width steps (goes_on step targets) = lead.To (row_of_step width steps step)

-- where the values lead from rows
abbrev pub flat_leads : ℕ → List (List Prop) → (Half → ℕ → Mark) → List ℕ → List Half → List Lead
flat_leads width steps marks values [] = []
flat_leads width steps marks values (half ∷ halves) = map (λ value. lead_of width steps (marks half value)) values ++ flat_leads width steps marks values halves

-- the up states of rows, where they have one
abbrev pub ups_of : List PlainRow → List (Option (List Prop))
ups_of rows = map (λ (row : PlainRow). row.up) rows

-- these are the entries and the up states of rows
pub record AreRowsOf (rows : List PlainRow) (entries : List Entry) (ups : List (Option (List Prop))) : Type 0 where
  pub entries_are : entries ≡ flat_entries rows
  pub ups_are : ups ≡ ups_of rows
