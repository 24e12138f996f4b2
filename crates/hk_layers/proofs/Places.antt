-- The places of steps: where the step of a candidate stands, and where values lead by these places.
use Rattle.std.proofs.Common.{◌≡◌, ℕ, zero, suc, ◌+◌, ◌<◌, List, [], ◌∷◌, All, length, map, get_or, arith, ap, refl, sym, ◌∙◌, subst}
use Rattle.std.specs.Prelude.{slice_index}
use Rattle.std.specs.declared.cmp.Ordering.TheVariants.{Greater}
use Rattle.std.proofs.lemmas.Cmp.{tied_itself}
use Rattle.std.proofs.lemmas.List.Elements.{All-head, All-tail}
use Rattle.hk_kinds.proofs.DistinctLaws.{Rises, rises_more, above_in, distinct_ascends, in_at, less_turned, rises_from_ascends}
use Rattle.hk_kinds.proofs.StateOrder.{state_total}
use Rattle.hk_kinds.specs.Distinct.{Ascends, IsPlaced, distinct_states}
use Rattle.hk_kinds.specs.Orders.{state_order}
use Rattle.hk_kinds.specs.declared.properties.Prop.{Prop}
use Rattle.hk_layers.specs.Flat.{lead_of}
use Rattle.hk_layers.specs.Layers.{place_by, place_of, row_for}
use Rattle.hk_layers.specs.declared.leads.Lead.TheVariants as lead
use Rattle.hk_layers.specs.declared.marks.Fate.{Fate}
use Rattle.hk_layers.specs.declared.marks.Fate.TheVariants as fate
use Rattle.hk_layers.specs.inside.Marked.{kept_mark, kept_marks}
use Rattle.hk_layers.specs.inside.Uniting.{lead_of_fate}

-- the place of a step, among steps that rise
rising_place : (steps : List (List Prop)) (k : ℕ) → Rises steps → k < length steps → place_of steps (get_or steps k []) ≡ k
rising_place [] k _ lt = absurd (omega arith)
rising_place (first ∷ rest) zero _ lt = ap (λ o. place_by o (place_of rest first)) (tied_itself state_total first)
rising_place (first ∷ rest) (suc k) (rises_more above more) lt =
    let there : k < length rest = omega arith in
    let state = get_or rest k [] in
    let after : state_order state first ≡ Greater = less_turned first state (above_in first state rest above (in_at rest k there)) in
    ap (λ o. place_by o (place_of rest state)) after ∙ (ap (λ n. n + 1) (rising_place rest k more there) ∙ omega arith)

-- the place of the step that stands at some place is that place
pub place_of_at : (steps : List (List Prop)) (k : ℕ) → Ascends steps → k < length steps → place_of steps (get_or steps k []) ≡ k
place_of_at steps k ascends lt = rising_place steps k (rises_from_ascends steps ascends) lt

-- what goes on does so to a candidate that is there
abbrev pub IsThere : List (List Prop) → Fate → Type 0
IsThere candidates kept = (number : ℕ) → kept ≡ fate.On number → number < length candidates

-- one fate, and its mark
lead_same : (width : ℕ) (candidates steps : List (List Prop)) (places : List ℕ) (kept : Fate) (set : ℕ) → IsPlaced candidates steps places → Ascends steps → IsThere candidates kept
    → lead_of_fate width (length steps) places kept ≡ lead_of width steps (kept_mark candidates kept set)
lead_same width candidates steps places fate.Gone set placed ascends there = refl
lead_same width candidates steps places fate.Cut set placed ascends there = refl
lead_same width candidates steps places (fate.On number) set placed ascends there =
    let at = placed.each number (there number refl) in
    let place : place_of steps (get_or candidates number []) ≡ slice_index places number = ap (place_of steps) (sym at.same) ∙ place_of_at steps (slice_index places number) ascends at.within in
    ap (λ k. lead.To (row_for width (length steps) k)) (sym place)

-- where values lead by the places that are noted for candidates is where their marks lead
pub leads_same : (width : ℕ) (candidates steps : List (List Prop)) (places : List ℕ) (fates : List Fate) (sets : List ℕ) → IsPlaced candidates steps places → steps ≡ distinct_states candidates
    → All (IsThere candidates) fates → length sets ≡ length fates
    → map (lead_of_fate width (length steps) places) fates ≡ map (λ mark. lead_of width steps mark) (kept_marks candidates fates sets)
leads_same width candidates steps places fates sets placed distinct there long = along fates sets there long
  where
    ascends : Ascends steps
    ascends = subst Ascends (sym distinct) (distinct_ascends candidates)

    along : (fates : List Fate) (sets : List ℕ) → All (IsThere candidates) fates → length sets ≡ length fates
        → map (lead_of_fate width (length steps) places) fates ≡ map (λ mark. lead_of width steps mark) (kept_marks candidates fates sets)
    along [] sets there long = refl
    along (kept ∷ fates) [] there long = absurd (omega arith)
    along (kept ∷ fates) (set ∷ sets) there long =
        let rest = along fates sets (All-tail (IsThere candidates) kept fates there) (omega arith) in
        let same = lead_same width candidates steps places kept set placed ascends (All-head (IsThere candidates) kept fates there) in
        cc
