-- Where values lead by the places of steps, and which old rows a row of the next layer comes from.
use Rattle.std.specs.Prelude.{◌≡◌, ℕ, List, ◌∷◌, slice_index}
use Rattle.hk_base.specs.Sets.{Has}
use Rattle.hk_layers.specs.Layers.{row_for}
use Rattle.hk_layers.specs.declared.leads.Lead.{Lead}
use Rattle.hk_layers.specs.declared.leads.Lead.TheVariants as lead
use Rattle.hk_layers.specs.declared.marks.Fate.{Fate}
use Rattle.hk_layers.specs.declared.marks.Fate.TheVariants as fate

-- where a value leads, by what becomes of it: the step of a candidate is at the place that is noted for it, among so many
abbrev pub lead_of_fate : ℕ → ℕ → List ℕ → Fate → Lead
lead_of_fate width count places fate.Gone = lead.Gone
lead_of_fate width count places fate.Cut = lead.Cut
lead_of_fate width count places (fate.On number) = lead.To (row_for width count (slice_index places number))

-- a value that leads so, and has this set of old rows, leads to the row c, and the set has the old row
pub record SendsTo (c : ℕ) (leading : Lead) (set row : ℕ) : Type 0 where
  pub leads : leading ≡ lead.To c
  pub has : Has set row

-- one of these values, which lead so and have these sets of old rows, leads to the row c, and its set has the old row
pub data IsUnited (c : ℕ) : List Lead → List ℕ → ℕ → Type 0 where
  united_here : {leading : Lead} {set row : ℕ} {leads : List Lead} {sets : List ℕ} → SendsTo c leading set row → IsUnited c (leading ∷ leads) (set ∷ sets) row
  united_later : {leading : Lead} {set row : ℕ} {leads : List Lead} {sets : List ℕ} → IsUnited c leads sets row → IsUnited c (leading ∷ leads) (set ∷ sets) row
