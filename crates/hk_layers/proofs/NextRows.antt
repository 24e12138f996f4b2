-- The rows of the next layer, from the joins of distinct steps and the sets of old rows that values lead to.
use Rattle.std.proofs.Common.{◌≡◌, ℕ, zero, suc, ◌+◌, ◌-◌, ◌<◌, ◌≤◌, ◌==◌, ◌||◌, ◌↔◌, ◌^◌, min, Bool, true, false, cond, List, [], ◌∷◌, length, map, filter, get_or, All, arith, refl, sym, ap, ap₂, ◌∙◌, subst}
use Rattle.std.specs.Int.{bit_at}
use Rattle.std.specs.List.{list_any, range_with_len}
use Rattle.std.proofs.lemmas.Bool.{cond-true, eq-eqb, eqb-true, ne_eqb, or_right}
use Rattle.std.proofs.lemmas.List.{ext_get_or, length-map}
use Rattle.std.proofs.lemmas.List.Elements.{All-contains, Contains-get_or}
use Rattle.std.proofs.lemmas.List.FromFn.{length-range_with_len, get_or-map-range_with_len}
use Rattle.hk_base.specs.Sets.{Has}
use Rattle.hk_group.specs.Groups.{group_down_shape}
use Rattle.hk_kinds.specs.Distinct.{Ascends, distinct_states}
use Rattle.hk_kinds.specs.Shapes.{HasShape}
use Rattle.hk_kinds.specs.declared.kinds.Kind.{Kind}
use Rattle.hk_kinds.specs.declared.properties.Prop.{Prop}
use Rattle.hk_kinds.proofs.DistinctLaws.{contains_from_in, in_from_contains, distinct_ascends, distinct_only, length_distinct}
use Rattle.hk_table.specs.Members.{Member, first, later}
use Rattle.hk_table.proofs.Members.{Contains-from_member, Member-filter, Member-filtered, Member-range}
use Rattle.hk_text.specs.Sets.{members_below}
use Rattle.hk_text.proofs.Members.{members_below_none}
use Rattle.hk_layers.specs.Flat.{AreShaped, halves_of, lead_of}
use Rattle.hk_layers.specs.Layers.{Half, Arc, arcs_to, join_states, joined, next_halves, row_of_step, steps_of}
use Rattle.hk_layers.specs.Spots.{PlainSpot}
use Rattle.hk_layers.specs.declared.leads.Lead.{Lead}
use Rattle.hk_layers.specs.declared.leads.Lead.TheVariants as lead
use Rattle.hk_layers.specs.declared.marks.Fate.{Fate}
use Rattle.hk_layers.specs.declared.marks.Fate.TheVariants as fate
use Rattle.hk_layers.specs.inside.Leading.{joined_steps, steps_to}
use Rattle.hk_layers.specs.inside.Marked.{AreMarked, arcs_of_marks, kept_marks, marks_of}
use Rattle.hk_layers.specs.Views.{MarksView}
use Rattle.hk_layers.specs.inside.Uniting.{IsUnited, SendsTo, united_here, united_later}
use Rattle.hk_layers.proofs.MarkedSteps.{marked_shape, marked_steps, same_row}

-- ---- tests of lists

any_has : {A : Type 0} (test : A → Bool) (x : A) (xs : List A) → Member x xs → test x ≡ true → list_any test xs ≡ true
any_has test x _ (first {xs = xs}) h = ap (λ b. b || list_any test xs) h
any_has test x _ (later {y = y} {xs = xs} m) h = or_right (test y) (list_any test xs) (any_has test x xs m h)

any_by : {A : Type 0} (test : A → Bool) (y : A) (ys : List A) (b : Bool) → test y ≡ b → (b || list_any test ys) ≡ true → (list_any test ys ≡ true → (x : A) × Member x ys × (test x ≡ true)) → (x : A) × Member x (y ∷ ys) × (test x ≡ true)
any_by test y ys true h any more = (y, first, h)
any_by test y ys false h any more = let on = more any in (on.0, later on.1, on.2)

any_from : {A : Type 0} (test : A → Bool) (xs : List A) → list_any test xs ≡ true → (x : A) × Member x xs × (test x ≡ true)
any_from test [] any = cc
any_from test (y ∷ ys) any = any_by test y ys (test y) refl any (λ h. any_from test ys h)

same_bool : (a b : Bool) → (a ≡ true → b ≡ true) → (b ≡ true → a ≡ true) → a ≡ b
same_bool true b there back = sym (there refl)
same_bool false true there back = back refl
same_bool false false there back = refl

same_filter : (p q : ℕ → Bool) (xs : List ℕ) → ((x : ℕ) → p x ≡ q x) → filter p xs ≡ filter q xs
same_filter p q [] same = refl
same_filter p q (x ∷ xs) same = ap₂ (λ b rest. cond b (x ∷ rest) rest) (same x) (same_filter p q xs same)

-- ---- the rows of a set

target_has : (set end row : ℕ) → list_any (λ other. other == row) (members_below set end) ≡ true → Has set row
target_has set end row any =
    let h = any_from (λ other. other == row) (members_below set end) any in
    let same : h.0 ≡ row = eqb-true h.0 row h.2 in
    subst (Has set) same (eqb-true (bit_at set h.0) 1 (Member-filtered (λ value. bit_at set value == 1) (range_with_len 0 end) h.1).1)

has_target : (set end row : ℕ) → row < end → Has set row → list_any (λ other. other == row) (members_below set end) ≡ true
has_target set end row below has =
    any_has (λ other. other == row) row (members_below set end)
    (Member-filter (λ value. bit_at set value == 1) (Member-range 0 end row (omega arith) (omega arith)) (eq-eqb (bit_at set row) 1 has))
    (eq-eqb row row refl)

members_kept : (set n k : ℕ) → ((row : ℕ) → Has set row → row < n) → members_below set (n + k) ≡ members_below set n
members_kept set n zero below = ap (members_below set) (omega arith)
members_kept set n (suc k) below =
    let next : n + suc k ≡ n + k + 1 = omega arith in
    ap (members_below set) next ∙ (members_below_none set (n + k) (ne_eqb (bit_at set (n + k)) 1 (λ has. absurd (omega (arith, below (n + k) has)))) ∙ members_kept set n k below)

-- the rows below a number that pass a test are those of the set of them
same_members : (test : ℕ → Bool) (from rows end : ℕ) → rows ≤ end → ((row : ℕ) → test row ≡ true → Has from row) → ((row : ℕ) → Has from row → test row ≡ true) → ((row : ℕ) → Has from row → row < rows) → filter test (range_with_len 0 rows) ≡ members_below from end
same_members test from rows end few there back below =
    let all : rows + (end - rows) ≡ end = omega arith in
    same_filter test (λ value. bit_at from value == 1) (range_with_len 0 rows) (λ row. same_bool (test row) (bit_at from row == 1) (λ t. eq-eqb (bit_at from row) 1 (there row t)) (λ b. back row (eqb-true (bit_at from row) 1 b)))
    ∙ (sym (members_kept from rows (end - rows) below) ∙ ap (members_below from) all)

-- ---- the old rows that a row comes from

module _ (width : ℕ) (steps candidates : List (List Prop)) (c row : ℕ) where
  abbrev to_row : Arc → Bool
  to_row arc = row_of_step width steps arc.step == c

  abbrev has_row : Arc → Bool
  has_row arc = list_any (λ other. other == row) arc.targets

  abbrev kept_arc : ℕ → ℕ → Arc
  kept_arc number set = record { step = get_or candidates number []; targets = members_below set 256 }

  abbrev kept_leads : List Fate → List ℕ → List Lead
  kept_leads fates sets = map (λ mark. lead_of width steps mark) (kept_marks candidates fates sets)

  abbrev kept_arcs : List Fate → List ℕ → List Arc
  kept_arcs fates sets = arcs_of_marks (kept_marks candidates fates sets)

  here_or : (number set : ℕ) (leads : List Lead) (sets : List ℕ) (arcs : List Arc) (b : Bool) → row_of_step width steps (get_or candidates number []) ≡ c → has_row (kept_arc number set) ≡ b → (b || list_any has_row arcs) ≡ true → (list_any has_row arcs ≡ true → IsUnited c leads sets row)
      → IsUnited c (lead.To (row_of_step width steps (get_or candidates number [])) ∷ leads) (set ∷ sets) row
  here_or number set leads sets arcs true same is any more = united_here (record { leads = ap lead.To same; has = target_has set 256 row is })
  here_or number set leads sets arcs false same is any more = united_later (more any)

  on_or : (number set : ℕ) (leads : List Lead) (sets : List ℕ) (arcs : List Arc) (b : Bool) → to_row (kept_arc number set) ≡ b → list_any has_row (cond b (kept_arc number set ∷ arcs) arcs) ≡ true → (list_any has_row arcs ≡ true → IsUnited c leads sets row)
      → IsUnited c (lead.To (row_of_step width steps (get_or candidates number [])) ∷ leads) (set ∷ sets) row
  on_or number set leads sets arcs true is any more = here_or number set leads sets arcs (has_row (kept_arc number set)) (eqb-true (row_of_step width steps (get_or candidates number [])) c is) refl any more
  on_or number set leads sets arcs false is any more = united_later (more any)

  united_from : (fates : List Fate) (sets : List ℕ) → list_any has_row (filter to_row (kept_arcs fates sets)) ≡ true → IsUnited c (kept_leads fates sets) sets row
  united_from [] sets any = cc
  united_from (f ∷ fates) [] any = cc
  united_from (fate.Gone ∷ fates) (set ∷ sets) any = united_later (united_from fates sets any)
  united_from (fate.Cut ∷ fates) (set ∷ sets) any = united_later (united_from fates sets any)
  united_from (fate.On number ∷ fates) (set ∷ sets) any =
      on_or number set (kept_leads fates sets) sets (filter to_row (kept_arcs fates sets)) (to_row (kept_arc number set)) refl any (λ h. united_from fates sets h)

  any_later : (arc : Arc) (arcs : List Arc) (b : Bool) → list_any has_row arcs ≡ true → list_any has_row (cond b (arc ∷ arcs) arcs) ≡ true
  any_later arc arcs true any = or_right (has_row arc) (list_any has_row arcs) any
  any_later arc arcs false any = any

  any_here : (number set : ℕ) (arcs : List Arc) → row < 256 → SendsTo c (lead.To (row_of_step width steps (get_or candidates number []))) set row → list_any has_row (cond (to_row (kept_arc number set)) (kept_arc number set ∷ arcs) arcs) ≡ true
  any_here number set arcs below h =
      let leads : lead.To (row_of_step width steps (get_or candidates number [])) ≡ lead.To c = h.leads in
      let same : row_of_step width steps (get_or candidates number []) ≡ c = cc in
      ap (list_any has_row) (cond-true (to_row (kept_arc number set)) (kept_arc number set ∷ arcs) arcs (eq-eqb (row_of_step width steps (get_or candidates number [])) c same))
      ∙ any_has has_row (kept_arc number set) (kept_arc number set ∷ arcs) first (has_target set 256 row below h.has)

  united_to : (fates : List Fate) (sets : List ℕ) → row < 256 → IsUnited c (kept_leads fates sets) sets row → list_any has_row (filter to_row (kept_arcs fates sets)) ≡ true
  united_to [] sets below u = elim u [ ]
  united_to (f ∷ fates) [] below u = elim u [ ]
  united_to (fate.Gone ∷ fates) (set ∷ sets) below (united_here h) = let leads : lead.Gone ≡ lead.To c = h.leads in cc
  united_to (fate.Gone ∷ fates) (set ∷ sets) below (united_later u) = united_to fates sets below u
  united_to (fate.Cut ∷ fates) (set ∷ sets) below (united_here h) = let leads : lead.Cut ≡ lead.To c = h.leads in cc
  united_to (fate.Cut ∷ fates) (set ∷ sets) below (united_later u) = united_to fates sets below u
  united_to (fate.On number ∷ fates) (set ∷ sets) below (united_here h) = any_here number set (filter to_row (kept_arcs fates sets)) below h
  united_to (fate.On number ∷ fates) (set ∷ sets) below (united_later u) = any_later (kept_arc number set) (filter to_row (kept_arcs fates sets)) (to_row (kept_arc number set)) (united_to fates sets below u)

-- a row that is united is one of some set
united_set : (c row : ℕ) (leads : List Lead) (sets : List ℕ) → IsUnited c leads sets row → (set : ℕ) × Member set sets × Has set row
united_set c row _ _ (united_here {set = set} h) = (set, first, h.has)
united_set c row _ _ (united_later {leads = leads} {sets = sets} u) = let on = united_set c row leads sets u in (on.0, later on.1, on.2)

-- ---- rows in two lists

pub halves_long : (downs : List (List Prop)) (froms : List ℕ) → length froms ≡ length downs → length (halves_of downs froms) ≡ length downs
halves_long [] froms long = refl
halves_long (down ∷ downs) [] long = absurd (omega arith)
halves_long (down ∷ downs) (from ∷ froms) long = omega (arith, halves_long downs froms (omega arith))

halves_at : (downs : List (List Prop)) (froms : List ℕ) (c : ℕ) (other : Half) → length froms ≡ length downs → c < length downs → get_or (halves_of downs froms) c other ≡ record { down = get_or downs c []; from = members_below (get_or froms c 0) 256 }
halves_at [] froms c other long lt = absurd (omega arith)
halves_at (down ∷ downs) [] c other long lt = absurd (omega arith)
halves_at (down ∷ downs) (from ∷ froms) zero other long lt = refl
halves_at (down ∷ downs) (from ∷ froms) (suc c) other long lt = halves_at downs froms c other (omega arith) (omega arith)

pub halves_shaped : (kinds : List Kind) (downs : List (List Prop)) (froms : List ℕ) → length froms ≡ length downs → All (HasShape kinds) downs → AreShaped kinds (halves_of downs froms)
halves_shaped kinds downs froms long shapes k other lt =
    let within : k < length downs = omega (arith, lt, halves_long downs froms long) in
    subst (λ (half : Half). HasShape kinds half.down) (sym (halves_at downs froms k other long within)) (shapes k [] within)

-- there are at most as many rows as the width says
pub rows_within : (kinds : List Kind) (width : ℕ) (steps downs : List (List Prop)) (froms : List ℕ) → downs ≡ joined_steps kinds width steps → length froms ≡ length downs → length (halves_of downs froms) ≤ width
rows_within kinds width steps downs froms are long =
    let count : ℕ = min (length steps) width in
    let made : length downs ≡ count = ap length are ∙ (length-map (range_with_len 0 count) (λ c. join_states kinds (steps_to width steps c)) ∙ length-range_with_len 0 count) in
    omega (arith, halves_long downs froms long, made)

-- ---- the rows of the next layer

-- for each row, the set of old rows that values lead to it from
abbrev pub AreUnited : ℕ → List ℕ → List Lead → List ℕ → Type 0
AreUnited count froms leads sets = (c : ℕ) → c < count → (row : ℕ) → Has (get_or froms c 0) row ↔ IsUnited c leads sets row

same_half : {half made row : Half} {down other : List Prop} {rows : List ℕ} → half ≡ record { down = down; from = rows } → down ≡ other → row ≡ record { down = other; from = rows } → made ≡ row → half ≡ made
same_half half down row made = cc (half, down, row, made)

module _ (spot : PlainSpot) (old_rows : ℕ) (marks : MarksView) (marked : AreMarked spot old_rows marks) where
  -- the distinct steps of the marks
  abbrev steps_here : List (List Prop)
  steps_here = steps_of (arcs_of_marks (marks_of marks))

  abbrev leads_here : List Lead
  leads_here = map (λ mark. lead_of spot.width steps_here mark) (marks_of marks)

  steps_are : steps_here ≡ distinct_states marks.candidates
  steps_are = marked_steps marks.candidates marks.fates marks.sets marked.long marked.there marked.named

  united_below : (c row : ℕ) → IsUnited c leads_here marks.sets row → row < old_rows
  united_below c row u =
      let on = united_set c row leads_here marks.sets u in
      All-contains (λ (set : ℕ). (r : ℕ) → Has set r → r < old_rows) marks.sets on.0 marked.within (Contains-from_member on.1) row on.2

  row_is : (c from : ℕ) → old_rows ≤ 256 → ((row : ℕ) → Has from row ↔ IsUnited c leads_here marks.sets row)
      → joined (group_down_shape spot.group) old_rows (arcs_to spot.width (arcs_of_marks (marks_of marks)) c) ≡ record { down = join_states (group_down_shape spot.group) (steps_to spot.width steps_here c); from = members_below from 256 }
  row_is c from few united =
      let below : (row : ℕ) → Has from row → row < old_rows = λ row has. united_below c row ((united row).0 has) in
      ap₂ (λ down rows. record { down = down; from = rows })
      (same_row (group_down_shape spot.group) spot.width (arcs_of_marks (marks_of marks)) c (marked_shape (group_down_shape spot.group) marks.candidates marks.fates marks.sets marked.shapes marked.there))
      (same_members _ from old_rows 256 few
      (λ row any. (united row).1 (united_from spot.width steps_here marks.candidates c row marks.fates marks.sets any))
      (λ row has. united_to spot.width steps_here marks.candidates c row marks.fates marks.sets (omega (arith, below row has)) ((united row).0 has))
      below)

  rows_are : (downs : List (List Prop)) (froms : List ℕ) → old_rows ≤ 256 → downs ≡ joined_steps (group_down_shape spot.group) spot.width steps_here → length froms ≡ length downs → AreUnited (length downs) froms leads_here marks.sets
      → halves_of downs froms ≡ next_halves (group_down_shape spot.group) spot.width old_rows (arcs_of_marks (marks_of marks))
  rows_are downs froms few are long united =
      let kinds = group_down_shape spot.group in
      let count : ℕ = min (length steps_here) spot.width in
      let nothing : Half = record { down = []; from = [] } in
      let row : ℕ → Half = λ c. joined kinds old_rows (arcs_to spot.width (arcs_of_marks (marks_of marks)) c) in
      let join : ℕ → List Prop = λ c. join_states kinds (steps_to spot.width steps_here c) in
      let made : length downs ≡ count = ap length are ∙ (length-map (range_with_len 0 count) join ∙ length-range_with_len 0 count) in
      let halves : length (halves_of downs froms) ≡ count = halves_long downs froms long ∙ made in
      ext_get_or nothing (halves_of downs froms) (map row (range_with_len 0 count)) (halves ∙ sym (length-map (range_with_len 0 count) row ∙ length-range_with_len 0 count))
      (λ c lt.
      let within : c < length downs = omega (arith, lt, halves, made) in
      let below : c < count = omega (arith, within, made) in
      let down : get_or downs c [] ≡ join c = ap (λ xs. get_or xs c []) are ∙ get_or-map-range_with_len join 0 count c c [] below (omega arith) in
      let made_at : get_or (map row (range_with_len 0 count)) c nothing ≡ row c = get_or-map-range_with_len row 0 count c c nothing below (omega arith) in
      same_half (halves_at downs froms c nothing long within) down (row_is c (get_or froms c 0) few (united c within)) made_at)

  -- the steps that are found are those of the marks
  found_steps : (steps : List (List Prop)) → steps ≡ distinct_states marks.candidates → steps ≡ steps_here
  found_steps steps found = found ∙ sym steps_are

  pub found_leads : (steps : List (List Prop)) (leads : List Lead) → steps ≡ distinct_states marks.candidates → leads ≡ map (λ mark. lead_of spot.width steps mark) (marks_of marks) → leads ≡ leads_here
  found_leads steps leads found are = are ∙ ap (λ states. map (λ mark. lead_of spot.width states mark) (marks_of marks)) (found_steps steps found)

  -- the rows that are made of the steps and leads that are found
  pub found_rows : (steps downs : List (List Prop)) (leads : List Lead) (sets froms : List ℕ) → old_rows ≤ 256 → steps ≡ distinct_states marks.candidates → leads ≡ map (λ mark. lead_of spot.width steps mark) (marks_of marks) → sets ≡ marks.sets
      → downs ≡ joined_steps (group_down_shape spot.group) spot.width steps → length froms ≡ length downs → AreUnited (length downs) froms leads sets
      → halves_of downs froms ≡ next_halves (group_down_shape spot.group) spot.width old_rows (arcs_of_marks (marks_of marks))
  found_rows steps downs leads sets froms few found are same made long united =
      rows_are downs froms few (made ∙ ap (joined_steps (group_down_shape spot.group) spot.width) (found_steps steps found)) long
      (subst (λ s. AreUnited (length downs) froms leads_here s) same (subst (λ l. AreUnited (length downs) froms l sets) (found_leads steps leads found are) united))

  -- the steps that are found have the shape
  pub found_shapes : (steps : List (List Prop)) → steps ≡ distinct_states marks.candidates → All (HasShape (group_down_shape spot.group)) steps
  found_shapes steps found =
      let kinds = group_down_shape spot.group in
      subst (All (HasShape kinds)) (sym found)
      (λ k other lt. All-contains (HasShape kinds) marks.candidates _ marked.shapes (contains_from_in _ marks.candidates (distinct_only _ marks.candidates (in_from_contains _ (distinct_states marks.candidates) (Contains-get_or (distinct_states marks.candidates) k other lt)))))

  -- there are few of them
  pub found_few : (steps : List (List Prop)) → steps ≡ distinct_states marks.candidates → length steps < 2 ^ 32
  found_few steps found = omega (arith, ap length found, length_distinct marks.candidates, marked.few)

  -- they ascend
  pub found_ascend : (steps : List (List Prop)) → steps ≡ distinct_states marks.candidates → Ascends steps
  found_ascend steps found = subst Ascends (sym found) (distinct_ascends marks.candidates)
