-- The marks of a layer in one list: their arcs, and where they lead.
use Rattle.std.proofs.Common.{◌≡◌, ℕ, suc, List, [], ◌∷◌, ◌++◌, length, map, refl, sym, ◌∙◌, ap, append_assoc, arith}
use Rattle.std.proofs.lemmas.List.{length-map, map-append}
use Rattle.hk_kinds.specs.declared.properties.Prop.{Prop}
use Rattle.hk_group.specs.Groups.{group_down_shape}
use Rattle.hk_table.specs.Tables.{PlainRow}
use Rattle.hk_text.specs.Sets.{members}
use Rattle.hk_layers.specs.Falling.{IsDown}
use Rattle.hk_layers.specs.Flat.{lead_of, flat_leads}
use Rattle.hk_layers.specs.Layers.{Half, Mark, arcs_of_mark, arcs_of_values, arcs_of_rows, steps_of, next_halves}
use Rattle.hk_layers.specs.Spots.{PlainSpot, mark_at, arcs_at}
use Rattle.hk_layers.specs.declared.leads.Lead.{Lead}
use Rattle.hk_layers.specs.declared.marks.Fate.{Fate}
use Rattle.hk_layers.specs.inside.Marked.{kept_marks, marks_of, flat_marks, arcs_of_marks}
use Rattle.hk_layers.specs.Views.{MarksView}

-- the arcs of two lists of marks follow one another
arcs_of_marks-append : (xs ys : List Mark) → arcs_of_marks (xs ++ ys) ≡ arcs_of_marks xs ++ arcs_of_marks ys
arcs_of_marks-append [] ys = refl
arcs_of_marks-append (x ∷ xs) ys = ap (λ arcs. arcs_of_mark x ++ arcs) (arcs_of_marks-append xs ys) ∙ sym (append_assoc (arcs_of_mark x) (arcs_of_marks xs) (arcs_of_marks ys))

-- the marks of a row's values have the row's arcs
arcs_of_row : (marks : ℕ → Mark) (values : List ℕ) → arcs_of_marks (map marks values) ≡ arcs_of_values marks values
arcs_of_row marks [] = refl
arcs_of_row marks (value ∷ values) = ap (λ arcs. arcs_of_mark (marks value) ++ arcs) (arcs_of_row marks values)

-- and those of a layer have the layer's
pub arcs_of_layer : (marks : Half → ℕ → Mark) (values : List ℕ) (halves : List Half) → arcs_of_marks (flat_marks marks values halves) ≡ arcs_of_rows marks values halves
arcs_of_layer marks values [] = refl
arcs_of_layer marks values (half ∷ halves) =
    arcs_of_marks-append (map (marks half) values) (flat_marks marks values halves)
    ∙ ap (λ arcs. arcs ++ arcs_of_marks (flat_marks marks values halves)) (arcs_of_row (marks half) values)
    ∙ ap (λ arcs. arcs_of_values (marks half) values ++ arcs) (arcs_of_layer marks values halves)

-- where the marks of a row's values lead
leads_of_row : (width : ℕ) (steps : List (List Prop)) (marks : ℕ → Mark) (values : List ℕ) → map (λ mark. lead_of width steps mark) (map marks values) ≡ map (λ value. lead_of width steps (marks value)) values
leads_of_row width steps marks [] = refl
leads_of_row width steps marks (value ∷ values) = ap (λ leads. lead_of width steps (marks value) ∷ leads) (leads_of_row width steps marks values)

-- and where those of a layer do
pub leads_of_layer : (width : ℕ) (steps : List (List Prop)) (marks : Half → ℕ → Mark) (values : List ℕ) (halves : List Half) → map (λ mark. lead_of width steps mark) (flat_marks marks values halves) ≡ flat_leads width steps marks values halves
leads_of_layer width steps marks values [] = refl
leads_of_layer width steps marks values (half ∷ halves) =
    map-append (λ mark. lead_of width steps mark) (map (marks half) values) (flat_marks marks values halves)
    ∙ ap (λ leads. leads ++ map (λ mark. lead_of width steps mark) (flat_marks marks values halves)) (leads_of_row width steps (marks half) values)
    ∙ ap (λ leads. map (λ value. lead_of width steps (marks half value)) values ++ leads) (leads_of_layer width steps marks values halves)

-- there are as many marks as fates
length-kept_marks : (candidates : List (List Prop)) (fates : List Fate) (sets : List ℕ) → length sets ≡ length fates → length (kept_marks candidates fates sets) ≡ length fates
length-kept_marks candidates [] sets long = refl
length-kept_marks candidates (fate ∷ fates) [] long = absurd (omega arith)
length-kept_marks candidates (fate ∷ fates) (set ∷ sets) long = ap (λ n. suc n) (length-kept_marks candidates fates sets (omega arith))

-- and as many leads
pub length_leads : (marks : MarksView) (f : Mark → Lead) (leads : List Lead) → leads ≡ map f (marks_of marks) → length marks.sets ≡ length marks.fates → length leads ≡ length marks.fates
length_leads marks f leads are long = ap length are ∙ (length-map (marks_of marks) f ∙ length-kept_marks marks.candidates marks.fates marks.sets long)

-- leads and next rows that are found by the marks of a layer are those of the layer
pub falls_by : (spot : PlainSpot) (old old_next : List PlainRow) (halves : List Half) (count : ℕ) (marks : List Mark) (leads : List Lead) (next : List Half)
    → length old_next ≡ count
    → marks ≡ flat_marks (mark_at spot old old_next) (members spot.values) halves
    → leads ≡ map (λ mark. lead_of spot.width (steps_of (arcs_of_marks marks)) mark) marks
    → next ≡ next_halves (group_down_shape spot.group) spot.width count (arcs_of_marks marks)
    → IsDown spot old old_next halves leads next
falls_by spot old old_next halves count marks leads next counted marked led found =
    let arcs : arcs_of_marks marks ≡ arcs_at spot old old_next halves = ap arcs_of_marks marked ∙ arcs_of_layer (mark_at spot old old_next) (members spot.values) halves in
    let steps = steps_of (arcs_at spot old old_next halves) in
    record {
      leads_are =
          led
          ∙ ap (λ found_arcs. map (λ mark. lead_of spot.width (steps_of found_arcs) mark) marks) arcs
          ∙ ap (map (λ mark. lead_of spot.width steps mark)) marked
          ∙ leads_of_layer spot.width steps (mark_at spot old old_next) (members spot.values) halves;
      next_are =
          found
          ∙ ap (next_halves (group_down_shape spot.group) spot.width count) arcs
          ∙ ap (λ n. next_halves (group_down_shape spot.group) spot.width n (arcs_at spot old old_next halves)) (sym counted);
    }
