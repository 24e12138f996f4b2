-- A mark that is added to those that are kept in flat lists.
use Rattle.std.proofs.Common.{◌≡◌, ◌<◌, ◌≤◌, ◌+◌, ◌^◌, ◌⊎◌, inl, inr, ℕ, suc, Bool, true, false, if◌then◌else◌, Result, Ok, Err, OnOk, List, [], ◌∷◌, ◌++◌, length, All, refl, sym, ◌∙◌, ap, subst, arith}
use Rattle.std.specs.List.{Contains}
use Rattle.std.proofs.lemmas.Bool.{cases_lt}
use Rattle.std.proofs.lemmas.List.{get_or_append_left, length-append}
use Rattle.std.proofs.lemmas.List.Elements.{All-push, All-weaker, Contains-append_left, Contains-append_right}
use Rattle.std.proofs.Math.Seq.{get_or-append_seam}
use Rattle.std.specs.Result.{IsErr}
use Rattle.hk_base.specs.Sets.{Has}
use Rattle.hk_group.specs.Groups.{PlainGroup, group_down_shape}
use Rattle.hk_kinds.proofs.StateLaws.{length-HasShape}
use Rattle.hk_kinds.specs.Shapes.{HasShape}
use Rattle.hk_kinds.specs.declared.properties.Prop.{Prop}
use Rattle.hk_text.specs.Sets.{members_below}
use Rattle.hk_layers.specs.Layers.{is_gone, is_cut, goes_on}
use Rattle.hk_layers.specs.Spots.{PlainSpot}
use Rattle.hk_layers.specs.declared.marks.Fate.{Fate}
use Rattle.hk_layers.specs.declared.marks.Fate.TheVariants as fate
use Rattle.hk_layers.specs.inside.Marked.{AreMarked, IsNumberOf, again, added, kept_mark, kept_marks, marks_of}
use Rattle.hk_layers.specs.Views.{MarksView}

-- a fate and a set at the end are a mark more
kept_push : (candidates : List (List Prop)) (fates : List Fate) (sets : List ℕ) (kept : Fate) (set : ℕ) → length sets ≡ length fates → kept_marks candidates (fates ++ kept ∷ []) (sets ++ set ∷ []) ≡ kept_marks candidates fates sets ++ kept_mark candidates kept set ∷ []
kept_push candidates [] [] kept set long = refl
kept_push candidates [] (other ∷ sets) kept set long = absurd (omega (arith, long))
kept_push candidates (first ∷ fates) [] kept set long = absurd (omega (arith, long))
kept_push candidates (first ∷ fates) (other ∷ sets) kept set long = ap (λ marks. kept_mark candidates first other ∷ marks) (kept_push candidates fates sets kept set (omega (arith, long)))

-- a fate names a candidate that is there
abbrev pub IsThere : List (List Prop) → Fate → Type 0
IsThere candidates kept = (number : ℕ) → kept ≡ fate.On number → number < length candidates

same_number : (number other : ℕ) → fate.On number ≡ fate.On other → number ≡ other
same_number number other is = cc

place_there : (candidates : List (List Prop)) (number : ℕ) → number < length candidates → IsThere candidates (fate.On number)
place_there candidates number lt other is = subst (λ n. n < length candidates) (same_number number other is) lt

-- candidates that are added change no mark that is there
mark_same : (candidates more : List (List Prop)) (kept : Fate) (set : ℕ) → IsThere candidates kept → kept_mark (candidates ++ more) kept set ≡ kept_mark candidates kept set
mark_same candidates more fate.Gone set there = refl
mark_same candidates more fate.Cut set there = refl
mark_same candidates more (fate.On number) set there = ap (λ step. goes_on step (members_below set 256)) (get_or_append_left candidates more [] number (there number refl))

marks_same : (candidates more : List (List Prop)) (fates : List Fate) (sets : List ℕ) → All (IsThere candidates) fates → kept_marks (candidates ++ more) fates sets ≡ kept_marks candidates fates sets
marks_same candidates more [] sets there = refl
marks_same candidates more (first ∷ fates) [] there = refl
marks_same candidates more (first ∷ fates) (set ∷ sets) there = cc (mark_same candidates more first set (there 0 first (omega arith)), marks_same candidates more fates sets (λ k d lt. there (suc k) d (omega (arith, lt))))

-- a value that stops has a fate that names no candidate, and the mark of what stops it
pub record IsStop (cut : Bool) (kept : Fate) : Type 0 where
  pub there : (candidates : List (List Prop)) → IsThere candidates kept
  pub mark_is : (candidates : List (List Prop)) (set : ℕ) → kept_mark candidates kept set ≡ (if cut then is_cut else is_gone)

pub stop_cut : (cut : Bool) (kept : Fate) → cut ≡ true → kept ≡ fate.Cut → IsStop cut kept
stop_cut cut kept is named = record {
  there = λ candidates number on. let both : fate.Cut ≡ fate.On number = sym named ∙ on in cc;
  mark_is = λ candidates set. ap (λ k. kept_mark candidates k set) named ∙ ap (λ b. if b then is_cut else is_gone) (sym is);
}

pub stop_gone : (cut : Bool) (kept : Fate) → cut ≡ false → kept ≡ fate.Gone → IsStop cut kept
stop_gone cut kept is named = record {
  there = λ candidates number on. let both : fate.Gone ≡ fate.On number = sym named ∙ on in cc;
  mark_is = λ candidates set. ap (λ k. kept_mark candidates k set) named ∙ ap (λ b. if b then is_cut else is_gone) (sym is);
}

-- a refusal owes nothing that holds after a success
pub refused : {T E : Type 0} (result : Result T E) (P : Type 0) → IsErr result → OnOk result P
refused (Ok value) P is = cc
refused (Err reason) P is = tt

-- a step has as many properties as the candidates
pub wide_as_candidates : (group : PlainGroup) (spot : PlainSpot) (old_rows : ℕ) (marks : MarksView) (width : ℕ) (step : List Prop) → HasShape (group_down_shape group) step → group ≡ spot.group → AreMarked spot old_rows marks → width ≡ marks.width → length step ≡ width
wide_as_candidates group spot old_rows marks width step shape same marked wide = length-HasShape shape ∙ (ap (λ g. length (group_down_shape g)) same ∙ (sym marked.wide ∙ sym wide))

-- marks with one more, over these candidates
abbrev pub with_mark : MarksView → List (List Prop) → Fate → ℕ → MarksView
with_mark old candidates kept set = record { width = old.width; candidates = candidates; fates = old.fates ++ kept ∷ []; sets = old.sets ++ set ∷ [] }

module _ (spot : PlainSpot) (old_rows : ℕ) (old : MarksView) (marked : AreMarked spot old_rows old) (set : ℕ) (within : (c : ℕ) → Has set c → c < old_rows) where
  -- a mark over the same candidates
  pub marks_stay : (kept : Fate) → marks_of (with_mark old old.candidates kept set) ≡ marks_of old ++ kept_mark old.candidates kept set ∷ []
  marks_stay kept = kept_push old.candidates old.fates old.sets kept set marked.long

  pub marked_stay : (kept : Fate) → IsThere old.candidates kept → AreMarked spot old_rows (with_mark old old.candidates kept set)
  marked_stay kept there = record {
    wide = marked.wide;
    shapes = marked.shapes;
    few = marked.few;
    there = All-push (IsThere old.candidates) old.fates kept marked.there there;
    named = λ number lt. Contains-append_left old.fates (kept ∷ []) (fate.On number) (marked.named number lt);
    long = length-append old.sets (set ∷ []) ∙ (ap (λ n. n + 1) marked.long ∙ sym (length-append old.fates (kept ∷ [])));
    within = All-push (λ (s : ℕ). (c : ℕ) → Has s c → c < old_rows) old.sets set marked.within within;
  }

  -- a mark whose step is a new candidate
  module _ (step : List Prop) (shape : HasShape (group_down_shape spot.group) step) (few : length old.candidates + 1 < 2 ^ 32) where
    abbrev more : List (List Prop)
    more = old.candidates ++ step ∷ []

    abbrev one : Fate
    one = fate.On (length old.candidates)

    named_more : (number : ℕ) → number < length more → (number < length old.candidates) ⊎ (length old.candidates ≤ number) → Contains (old.fates ++ one ∷ []) (fate.On number)
    named_more number lt (inl before) = Contains-append_left old.fates (one ∷ []) (fate.On number) (marked.named number before)
    named_more number lt (inr le) = subst (λ n. Contains (old.fates ++ one ∷ []) (fate.On n)) (omega (arith, lt, le, length-append old.candidates (step ∷ []))) (Contains-append_right old.fates (one ∷ []) one (0, omega arith, refl))

    number_more : IsThere more one
    number_more = place_there more (length old.candidates) (omega (arith, length-append old.candidates (step ∷ [])))

    there_before : (kept : Fate) → IsThere old.candidates kept → IsThere more kept
    there_before kept there number is = omega (arith, length-append old.candidates (step ∷ []), there number is)

    marks_more : marks_of (with_mark old more one set) ≡ marks_of old ++ goes_on step (members_below set 256) ∷ []
    marks_more =
        kept_push more old.fates old.sets one set marked.long
        ∙ (ap (λ marks. marks ++ kept_mark more one set ∷ []) (marks_same old.candidates (step ∷ []) old.fates old.sets marked.there)
        ∙ ap (λ state. marks_of old ++ goes_on state (members_below set 256) ∷ []) (get_or-append_seam old.candidates step [] []))

    marked_more : AreMarked spot old_rows (with_mark old more one set)
    marked_more = record {
      wide = marked.wide;
      shapes = All-push (HasShape (group_down_shape spot.group)) old.candidates step marked.shapes shape;
      few = omega (arith, few, length-append old.candidates (step ∷ []));
      there = All-push (IsThere more) old.fates one (All-weaker (IsThere old.candidates) (IsThere more) there_before old.fates marked.there) number_more;
      named = λ number lt. named_more number lt (cases_lt number (length old.candidates));
      long = length-append old.sets (set ∷ []) ∙ (ap (λ n. n + 1) marked.long ∙ sym (length-append old.fates (one ∷ [])));
      within = All-push (λ (s : ℕ). (c : ℕ) → Has s c → c < old_rows) old.sets set marked.within within;
    }

    -- the mark of a step, by its number
    pub marks_on : (first number : ℕ) (new : List (List Prop)) → IsNumberOf step first old.candidates number new → marks_of (with_mark old new (fate.On number) set) ≡ marks_of old ++ goes_on step (members_below set 256) ∷ []
    marks_on first number new (again at is) =
        ap (λ candidates. marks_of (with_mark old candidates (fate.On number) set)) is
        ∙ (marks_stay (fate.On number)
        ∙ ap (λ state. marks_of old ++ goes_on state (members_below set 256) ∷ []) at.same)
    marks_on first number new (added none numbered is) =
        ap (λ candidates. marks_of (with_mark old candidates (fate.On number) set)) is
        ∙ (ap (λ n. marks_of (with_mark old more (fate.On n) set)) numbered
        ∙ marks_more)

    pub marked_on : (first number : ℕ) (new : List (List Prop)) → IsNumberOf step first old.candidates number new → AreMarked spot old_rows (with_mark old new (fate.On number) set)
    marked_on first number new (again at is) =
        subst (λ candidates. AreMarked spot old_rows (with_mark old candidates (fate.On number) set)) (sym is) (marked_stay (fate.On number) (place_there old.candidates number at.within))
    marked_on first number new (added none numbered is) =
        subst (λ candidates. AreMarked spot old_rows (with_mark old candidates (fate.On number) set)) (sym is)
        (subst (λ n. AreMarked spot old_rows (with_mark old more (fate.On n) set)) (sym numbered) marked_more)
