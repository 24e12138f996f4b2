-- The bytes of a model have one outcome: the problem that they spell, or their refusal.
use Rattle.std.proofs.Common.{◌≡◌, ℕ, ◌+◌, List, [], ◌∷◌, ◌++◌, length, Option, None, Some, IsSome, is_some, refl, sym, ap, subst, ◌∙◌, append_assoc, ◌⊎◌, inl, inr, true≢false}
use Rattle.std.proofs.lemmas.List.{append-nil}
use Rattle.hk_text.specs.Lines.{lines}
use Rattle.hk_parse.specs.BlockLines.{Part}
use Rattle.hk_draft.specs.declared.kinds.RefusalKind.{RefusalKind}
use Rattle.hk_draft.specs.declared.kinds.RefusalKind.TheVariants.{Unfinished}
use Rattle.hk_model.specs.LineFaults.{IsFirstFault}
use Rattle.hk_model.specs.Models.{Declared, nothing_declared, IsGoodLine, AreGoodLines, no_line, then_line, Spells, IsBadLine, IsFirstBadLine}
use Rattle.hk_group.specs.Problems.{PlainProblem}
use Rattle.hk_draft.specs.Drafts.{PlainDraft, IsOf}
use Rattle.hk_draft.proofs.OneProblem.{one_problem as problem_of_draft}
use Rattle.hk_draft.proofs.SomeProblem.{problem_exists}
use Rattle.hk_draft.proofs.Validity.{IsValidSoFar}
use Rattle.hk_model.specs.Refused.{IsRefusal, refused_line, no_end}
use Rattle.hk_model.proofs.EachLine.{Judged, found_good, found_fault, judged}
use Rattle.hk_model.proofs.FaultRanks.{first_fault_one, fault_bad}
use Rattle.hk_model.proofs.GoodLines.{good_lines_one, good_lines_more, good_lines_sound}
use Rattle.hk_model.proofs.MeantEffects.{good_line_one}
use Rattle.hk_model.proofs.Soundness.{IsSound, nothing_sound, good_line_sound}

-- bytes spell one problem
pub one_problem : (bytes : List ℕ) (p q : PlainProblem) → Spells bytes p → Spells bytes q → p ≡ q
one_problem bytes p q x y =
    let same = good_lines_one nothing_sound x.good y.good in
    let first : y.after.problem ≡ Some x.draft = subst (λ after. after.problem ≡ Some x.draft) same x.declared in
    let second = y.declared in
    let draft : x.draft ≡ y.draft = cc in
    problem_of_draft (subst (λ d. IsOf d p) draft x.is_of) y.is_of

-- no line is bad where all are good
no_bad_line : (front rest : List (List ℕ)) {line : List ℕ} {start before after : Declared} → IsSound start → AreGoodLines start (front ++ line ∷ rest) after → AreGoodLines start front before → IsBadLine before line → ⊥
no_bad_line [] rest sound (then_line good more) no_line bad = bad _ good
no_bad_line (first ∷ front) rest {before = before} sound (then_line good more) (then_line good' more') bad =
    no_bad_line front rest (good_line_sound sound good) more (subst (λ between. AreGoodLines between front before) (good_line_one sound good' good) more') bad

-- the first bad line is not there where all lines are good
all_good : {bytes line : List ℕ} {number : ℕ} {before after : Declared} → AreGoodLines nothing_declared (lines bytes) after → IsFirstBadLine bytes number line before → ⊥
all_good {after = after} goods first =
    no_bad_line first.front first.rest nothing_sound (subst (λ all. AreGoodLines nothing_declared all after) first.parts goods) first.good first.bad

-- what is declared and ended is not unfinished
no_end_missed : (after : Declared) {p : PlainDraft} → after.problem ≡ Some p → after.block ≡ None → (after.problem ≡ None) ⊎ IsSome after.block → ⊥
no_end_missed after declared ended (inl none) = cc
no_end_missed after declared ended (inr some) = true≢false (sym some ∙ ap is_some ended)

-- bytes that spell a problem are not refused
pub no_refusal : (bytes : List ℕ) (p : PlainProblem) (number : ℕ) (kind : RefusalKind) → Spells bytes p → IsRefusal bytes number kind → ⊥
no_refusal bytes p number kind spells (refused_line first fault) = all_good spells.good first
no_refusal bytes p number kind spells (no_end {after = other} goods missed) =
    let same = good_lines_one nothing_sound goods spells.good in
    no_end_missed spells.after spells.declared spells.ended (subst (λ (after : Declared). (after.problem ≡ None) ⊎ IsSome after.block) same missed)

-- two bad lines, each after good ones, are one line after the same good ones
record SameFirst (front front' : List (List ℕ)) (line line' : List ℕ) (before before' : Declared) : Type 0 where
  fronts : front ≡ front'
  here : line ≡ line'
  befores : before ≡ before'

-- a list has one first bad line
same_first : (front front' rest rest' : List (List ℕ)) {line line' : List ℕ} {start before before' : Declared} → IsSound start → front ++ line ∷ rest ≡ front' ++ line' ∷ rest' → AreGoodLines start front before → AreGoodLines start front' before' → IsBadLine before line → IsBadLine before' line' → SameFirst front front' line line' before before'
same_first [] [] rest rest' sound same no_line no_line bad bad' = record { fronts = refl; here = cc; befores = refl }
same_first [] (first ∷ front') rest rest' {line = line} {start = start} sound same no_line (then_line {between = between} good goods) bad bad' =
    let here : first ≡ line = cc in
    absurd (bad between (subst (λ l. IsGoodLine start l between) here good))
same_first (first ∷ front) [] rest rest' {line' = line'} {start = start} sound same (then_line {between = between} good goods) no_line bad bad' =
    let here : first ≡ line' = cc in
    absurd (bad' between (subst (λ l. IsGoodLine start l between) here good))
same_first (first ∷ front) (first' ∷ front') rest rest' {line = line} {line' = line'} {start = start} {before = before} {before' = before'} sound same (then_line {between = between} good goods) (then_line {between = between'} good' goods') bad bad' =
    let here : first' ≡ first = cc in
    let later : front ++ line ∷ rest ≡ front' ++ line' ∷ rest' = cc in
    let between_same : between' ≡ between = good_line_one sound (subst (λ l. IsGoodLine start l between') here good') good in
    let more = same_first front front' rest rest' (good_line_sound sound good) later goods (subst (λ b. AreGoodLines b front' before') between_same goods') bad bad' in
    record { fronts = (let tails = more.fronts in cc); here = more.here; befores = more.befores }

-- first bad lines of one text are refused alike
same_refused : {bytes line line' : List ℕ} {number number' : ℕ} {before before' : Declared} {kind kind' : RefusalKind} → IsFirstBadLine bytes number line before → IsFirstBadLine bytes number' line' before' → IsFirstFault before line kind → IsFirstFault before' line' kind' → (number ≡ number') × (kind ≡ kind')
same_refused {line = line} {before' = before'} {kind' = kind'} x y fault fault' =
    let same = same_first x.front y.front x.rest y.rest nothing_sound (sym x.parts ∙ y.parts) x.good y.good x.bad y.bad in (
      x.counted ∙ ap (λ front. length front + 1) same.fronts ∙ sym y.counted,
      first_fault_one fault (subst (λ b. IsFirstFault b line kind') (sym same.befores) (subst (λ l. IsFirstFault before' l kind') (sym same.here) fault')),
    )

-- bytes have one refusal
pub one_refusal : (bytes : List ℕ) (number number' : ℕ) (kind kind' : RefusalKind) → IsRefusal bytes number kind → IsRefusal bytes number' kind' → (number ≡ number') × (kind ≡ kind')
one_refusal bytes number number' kind kind' (refused_line x fault) (refused_line y fault') = same_refused x y fault fault'
one_refusal bytes number number' kind kind' (refused_line x fault) (no_end goods missed) = absurd (all_good goods x)
one_refusal bytes number number' kind kind' (no_end goods missed) (refused_line y fault) = absurd (all_good goods y)
one_refusal bytes number number' kind kind' (no_end goods missed) (no_end goods' missed') = (refl, refl)

-- the problem that bytes spell, or their refusal
abbrev Outcome : List ℕ → Type 0
Outcome bytes = ((p : PlainProblem) × Spells bytes p) ⊎ ((number : ℕ) × (kind : RefusalKind) × IsRefusal bytes number kind)

-- bytes whose lines are all good spell a problem, or lack the header or an end
all_good_outcome : (bytes : List ℕ) (after : Declared) → AreGoodLines nothing_declared (lines bytes) after → Outcome bytes
all_good_outcome bytes after goods = by after.problem refl after.block refl
  where
    by : (problem : Option PlainDraft) → after.problem ≡ problem → (block : Option Part) → after.block ≡ block → Outcome bytes
    by None none block is = inr (length (lines bytes) + 1, Unfinished, no_end goods (inl none))
    by (Some draft) declared None ended =
        let found = problem_exists draft (subst IsValidSoFar declared (good_lines_sound goods).problem) in
        inl (found.0, record { after = after; draft = draft; good = goods; declared = declared; is_of = found.1; ended = ended })
    by (Some p) declared (Some part) is = inr (length (lines bytes) + 1, Unfinished, no_end goods (inr (ap is_some is)))

module _ (bytes : List ℕ) where
  -- bytes with good lines in front have an outcome
  outcome_after : (front rest : List (List ℕ)) {before : Declared} → lines bytes ≡ front ++ rest → AreGoodLines nothing_declared front before → Outcome bytes
  outcome_after front [] {before = before} parts goods = all_good_outcome bytes before (subst (λ all. AreGoodLines nothing_declared all before) (sym (parts ∙ append-nil front)) goods)
  outcome_after front (line ∷ rest) {before = before} parts goods =
      step (λ after good. outcome_after (front ++ line ∷ []) rest (parts ∙ sym (append_assoc front (line ∷ []) rest)) (good_lines_more goods good)) (judged before line (good_lines_sound goods))
    where
      step : ((after : Declared) → IsGoodLine before line after → Outcome bytes) → Judged before line → Outcome bytes
      step later (found_good after good) = later after good
      step later (found_fault kind fault) =
          let first : IsFirstBadLine bytes (length front + 1) line before = record { front = front; rest = rest; parts = parts; counted = refl; good = goods; bad = fault_bad (good_lines_sound goods).block fault.fault } in
          inr (length front + 1, kind, refused_line first fault)

-- bytes spell a problem, or have a refusal
pub some_outcome : (bytes : List ℕ) → ((p : PlainProblem) × Spells bytes p) ⊎ ((number : ℕ) × (kind : RefusalKind) × IsRefusal bytes number kind)
some_outcome bytes = outcome_after bytes [] (lines bytes) refl no_line
