-- The steps of the marks of a layer are its candidates, and what leads to a row is the same by arcs and by distinct steps.
use Rattle.std.proofs.Common.{◌≡◌, ℕ, ◌<◌, ◌==◌, Bool, true, false, cond, List, [], ◌∷◌, length, map, filter, get_or, All, Contains, arith, refl, sym, ap, ◌∙◌, subst}
use Rattle.std.proofs.lemmas.Bool.{cond-true}
use Rattle.std.proofs.lemmas.List.{get_or_default}
use Rattle.std.proofs.lemmas.List.Elements.{All-contains}
use Rattle.hk_kinds.specs.Distinct.{distinct_states}
use Rattle.hk_kinds.specs.Shapes.{HasShape}
use Rattle.hk_kinds.specs.declared.kinds.Kind.{Kind}
use Rattle.hk_kinds.specs.declared.properties.Prop.{Prop}
use Rattle.hk_kinds.proofs.DistinctLaws.{IsIn, is_first, is_later, in_at, contains_from_in, distinct_has, distinct_only, same_distinct}
use Rattle.hk_table.specs.Members.{Member, first, later}
use Rattle.hk_table.proofs.Members.{Contains-from_member, Member-from_contains}
use Rattle.hk_layers.specs.Layers.{Arc, arcs_to, join_states, row_of_step, steps_of}
use Rattle.hk_layers.specs.declared.marks.Fate.{Fate}
use Rattle.hk_layers.specs.declared.marks.Fate.TheVariants as fate
use Rattle.hk_layers.specs.inside.Leading.{steps_to}
use Rattle.hk_layers.specs.inside.Marked.{arcs_of_marks, kept_marks}
use Rattle.hk_layers.proofs.SameJoins.{Shaped, same_join}

-- the steps of arcs, with repeats
abbrev pub all_steps : List Arc → List (List Prop)
all_steps arcs = map (λ (arc : Arc). arc.step) arcs

-- ---- the steps of marks are the candidates

-- each value that goes on goes on to a candidate that is there
abbrev pub AreThere : List (List Prop) → List Fate → Type 0
AreThere candidates fates = (number : ℕ) → Member (fate.On number) fates → number < length candidates

kept_there : (candidates : List (List Prop)) (fates : List Fate) (sets : List ℕ) → AreThere candidates fates → (s : List Prop) → IsIn s (all_steps (arcs_of_marks (kept_marks candidates fates sets))) → IsIn s candidates
kept_there candidates [] sets there s m = elim m [ ]
kept_there candidates (f ∷ fates) [] there s m = elim m [ ]
kept_there candidates (fate.Gone ∷ fates) (set ∷ sets) there s m = kept_there candidates fates sets (λ n k. there n (later k)) s m
kept_there candidates (fate.Cut ∷ fates) (set ∷ sets) there s m = kept_there candidates fates sets (λ n k. there n (later k)) s m
kept_there candidates (fate.On number ∷ fates) (set ∷ sets) there s is_first = in_at candidates number (there number first)
kept_there candidates (fate.On number ∷ fates) (set ∷ sets) there s (is_later m) = kept_there candidates fates sets (λ n k. there n (later k)) s m

kept_back : (candidates : List (List Prop)) (fates : List Fate) (sets : List ℕ) (number : ℕ) → length sets ≡ length fates → Member (fate.On number) fates → IsIn (get_or candidates number []) (all_steps (arcs_of_marks (kept_marks candidates fates sets)))
kept_back candidates [] sets number long m = elim m [ ]
kept_back candidates (f ∷ fates) [] number long m = absurd (omega arith)
kept_back candidates (fate.Gone ∷ fates) (set ∷ sets) number long (later m) = kept_back candidates fates sets number (omega arith) m
kept_back candidates (fate.Cut ∷ fates) (set ∷ sets) number long (later m) = kept_back candidates fates sets number (omega arith) m
kept_back candidates (fate.On other ∷ fates) (set ∷ sets) number long first = is_first
kept_back candidates (fate.On other ∷ fates) (set ∷ sets) number long (later m) = is_later (kept_back candidates fates sets number (omega arith) m)

are_there : (candidates : List (List Prop)) (fates : List Fate) → All (λ (kept : Fate). (number : ℕ) → kept ≡ fate.On number → number < length candidates) fates → AreThere candidates fates
are_there candidates fates all number m = All-contains (λ (kept : Fate). (k : ℕ) → kept ≡ fate.On k → k < length candidates) fates (fate.On number) all (Contains-from_member m) number refl

named_back : (candidates : List (List Prop)) (fates : List Fate) (sets : List ℕ) → length sets ≡ length fates → ((number : ℕ) → number < length candidates → Contains fates (fate.On number)) → (s : List Prop) → Contains candidates s → IsIn s (all_steps (arcs_of_marks (kept_marks candidates fates sets)))
named_back candidates fates sets long named s (k, lt, same) =
    subst (λ state. IsIn state (all_steps (arcs_of_marks (kept_marks candidates fates sets)))) (get_or_default candidates k [] s lt ∙ same)
    (kept_back candidates fates sets k long (Member-from_contains fates (fate.On k) (named k lt)))

-- the distinct steps of marks are the distinct candidates
pub marked_steps : (candidates : List (List Prop)) (fates : List Fate) (sets : List ℕ) → length sets ≡ length fates
    → All (λ (kept : Fate). (number : ℕ) → kept ≡ fate.On number → number < length candidates) fates
    → ((number : ℕ) → number < length candidates → Contains fates (fate.On number))
    → steps_of (arcs_of_marks (kept_marks candidates fates sets)) ≡ distinct_states candidates
marked_steps candidates fates sets long there named =
    same_distinct (all_steps (arcs_of_marks (kept_marks candidates fates sets))) candidates
    (λ s m. kept_there candidates fates sets (are_there candidates fates there) s m)
    (λ s m. named_back candidates fates sets long named s (contains_from_in s candidates m))

-- the steps of marks have the shape that the candidates have
pub marked_shape : (kinds : List Kind) (candidates : List (List Prop)) (fates : List Fate) (sets : List ℕ)
    → All (HasShape kinds) candidates → All (λ (kept : Fate). (number : ℕ) → kept ≡ fate.On number → number < length candidates) fates
    → Shaped kinds (all_steps (arcs_of_marks (kept_marks candidates fates sets)))
marked_shape kinds candidates fates sets shapes there s m =
    All-contains (HasShape kinds) candidates s shapes (contains_from_in s candidates (kept_there candidates fates sets (are_there candidates fates there) s m))

-- ---- what leads to a row

filter_in : (p : List Prop → Bool) (s : List Prop) (xs : List (List Prop)) → IsIn s xs → p s ≡ true → IsIn s (filter p xs)
filter_in p s [] m passes = elim m [ ]
filter_in p s (x ∷ xs) is_first passes = subst (IsIn s) (sym (cond-true (p s) (s ∷ filter p xs) (filter p xs) passes)) is_first
filter_in p s (x ∷ xs) (is_later m) passes = kept (p x) (filter_in p s xs m passes)
  where
    kept : (b : Bool) → IsIn s (filter p xs) → IsIn s (cond b (x ∷ filter p xs) (filter p xs))
    kept true m = is_later m
    kept false m = m

pub record Passes (p : List Prop → Bool) (s : List Prop) (xs : List (List Prop)) : Type 0 where
  pub passes : p s ≡ true
  pub stands : IsIn s xs

passes_on : (p : List Prop → Bool) (s x : List Prop) (xs : List (List Prop)) → Passes p s xs → Passes p s (x ∷ xs)
passes_on p s x xs h = record { passes = h.passes; stands = is_later h.stands }

passes_by : (p : List Prop → Bool) (s x : List Prop) (xs : List (List Prop)) (b : Bool) → p x ≡ b → (IsIn s (filter p xs) → Passes p s xs) → IsIn s (cond b (x ∷ filter p xs) (filter p xs)) → Passes p s (x ∷ xs)
passes_by p s x xs true is rest is_first = record { passes = is; stands = is_first }
passes_by p s x xs true is rest (is_later m) = passes_on p s x xs (rest m)
passes_by p s x xs false is rest m = passes_on p s x xs (rest m)

filter_only : (p : List Prop → Bool) (s : List Prop) (xs : List (List Prop)) → IsIn s (filter p xs) → Passes p s xs
filter_only p s [] m = elim m [ ]
filter_only p s (x ∷ xs) m = passes_by p s x xs (p x) refl (filter_only p s xs) m

led_by : (b : Bool) (arc : Arc) (led : List Arc) (steps : List (List Prop)) → all_steps led ≡ steps → all_steps (cond b (arc ∷ led) led) ≡ cond b (arc.step ∷ steps) steps
led_by true arc led steps same = ap (λ rest. arc.step ∷ rest) same
led_by false arc led steps same = same

steps_led : (p : List Prop → Bool) (arcs : List Arc) → all_steps (filter (λ (arc : Arc). p arc.step) arcs) ≡ filter p (all_steps arcs)
steps_led p [] = refl
steps_led p (arc ∷ arcs) = led_by (p arc.step) arc _ _ (steps_led p arcs)

filter_distinct : (kinds : List Kind) (p : List Prop → Bool) (xs : List (List Prop)) → Shaped kinds xs → join_states kinds (filter p xs) ≡ join_states kinds (filter p (distinct_states xs))
filter_distinct kinds p xs shaped =
    same_join kinds (filter p xs) (filter p (distinct_states xs))
    (λ s m. shaped s (filter_only p s xs m).stands)
    (λ s m. shaped s (distinct_only s xs (filter_only p s (distinct_states xs) m).stands))
    (λ s m. let h = filter_only p s xs m in filter_in p s (distinct_states xs) (distinct_has s xs h.stands) h.passes)
    (λ s m. let h = filter_only p s (distinct_states xs) m in filter_in p s xs (distinct_only s xs h.stands) h.passes)

-- the join of the steps of arcs that lead to a row is that of the distinct steps that lead to it
pub same_row : (kinds : List Kind) (width : ℕ) (arcs : List Arc) (c : ℕ) → Shaped kinds (all_steps arcs) → join_states kinds (all_steps (arcs_to width arcs c)) ≡ join_states kinds (steps_to width (steps_of arcs) c)
same_row kinds width arcs c shaped =
    ap (join_states kinds) (steps_led (λ step. row_of_step width (steps_of arcs) step == c) arcs)
    ∙ filter_distinct kinds (λ step. row_of_step width (steps_of arcs) step == c) (all_steps arcs) shaped
