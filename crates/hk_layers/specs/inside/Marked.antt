-- What becomes of the values of a layer's rows, as it is kept in flat lists.
use Rattle.std.specs.Prelude.{◌≡◌, ℕ, ◌<◌, ◌≤◌, ◌^◌, List, [], ◌∷◌, ◌++◌, length, map, slice_index_or, All}
use Rattle.std.specs.List.{Contains}
use Rattle.hk_base.specs.Sets.{Has}
use Rattle.hk_group.specs.Groups.{group_down_shape}
use Rattle.hk_kinds.specs.Shapes.{HasShape}
use Rattle.hk_kinds.specs.declared.properties.Prop.{Prop}
use Rattle.hk_text.specs.Sets.{members_below}
use Rattle.hk_layers.specs.Layers.{Half, Mark, is_gone, is_cut, goes_on, Arc, arcs_of_mark}
use Rattle.hk_layers.specs.Spots.{PlainSpot}
use Rattle.hk_layers.specs.Views.{MarksView}
use Rattle.hk_layers.specs.declared.marks.Fate.{Fate}
use Rattle.hk_layers.specs.declared.marks.Fate.TheVariants as fate

-- the mark that is kept so
abbrev pub kept_mark : List (List Prop) → Fate → ℕ → Mark
kept_mark candidates fate.Gone set = is_gone
kept_mark candidates fate.Cut set = is_cut
kept_mark candidates (fate.On number) set = goes_on (slice_index_or candidates number []) (members_below set 256)

-- the same of values
abbrev pub kept_marks : List (List Prop) → List Fate → List ℕ → List Mark
kept_marks candidates [] sets = []
kept_marks candidates (fate ∷ fates) [] = []
kept_marks candidates (fate ∷ fates) (set ∷ sets) = kept_mark candidates fate set ∷ kept_marks candidates fates sets

-- all marks that are kept
abbrev pub marks_of : MarksView → List Mark
marks_of marks = kept_marks marks.candidates marks.fates marks.sets

-- the marks of rows, one row after the other
abbrev pub flat_marks : (Half → ℕ → Mark) → List ℕ → List Half → List Mark
flat_marks marks values [] = []
flat_marks marks values (half ∷ halves) = map (λ value. marks half value) values ++ flat_marks marks values halves

-- the arcs of marks
abbrev pub arcs_of_marks : List Mark → List Arc
arcs_of_marks [] = []
arcs_of_marks (mark ∷ marks) = arcs_of_mark mark ++ arcs_of_marks marks

-- the candidates are down states of the layer's group, with as many properties, and fewer than 2^32; each is that of some value, and a value goes on to
-- one that is there; each value has a set, whose rows are below the number of old rows
pub record AreMarked (spot : PlainSpot) (old_rows : ℕ) (marks : MarksView) : Type 0 where
  pub wide : marks.width ≡ length (group_down_shape spot.group)
  pub shapes : All (HasShape (group_down_shape spot.group)) marks.candidates
  pub few : length marks.candidates < 2 ^ 32
  pub there : All (λ (kept : Fate). (number : ℕ) → kept ≡ fate.On number → number < length marks.candidates) marks.fates
  pub named : (number : ℕ) → number < length marks.candidates → Contains marks.fates (fate.On number)
  pub long : length marks.sets ≡ length marks.fates
  pub within : All (λ (set : ℕ). (c : ℕ) → Has set c → c < old_rows) marks.sets

-- the state is the candidate of this number
pub record IsAt (candidates : List (List Prop)) (step : List Prop) (number : ℕ) : Type 0 where
  pub within : number < length candidates
  pub same : slice_index_or candidates number [] ≡ step

-- the number of a step among the candidates: it is one of them; or, where none from `first` on is the step, it is added at the end
pub data IsNumberOf (step : List Prop) (first : ℕ) (old : List (List Prop)) (number : ℕ) (new : List (List Prop)) : Type 0 where
  again : IsAt old step number → new ≡ old → IsNumberOf step first old number new
  added : ((other : ℕ) → first ≤ other → IsAt old step other → ⊥) → number ≡ length old → new ≡ old ++ step ∷ [] → IsNumberOf step first old number new
