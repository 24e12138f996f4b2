-- How far the lines of a model are read.
use Rattle.std.proofs.Common.{◌≡◌, ℕ, ◌+◌, ◌<◌, ◌≤◌, ◌⊎◌, List, [], ◌∷◌, ◌++◌, length, None, Some, IsSome, ap, sym, ◌∙◌, subst, arith, append_assoc, length-append}
use Rattle.std.proofs.lemmas.List.{append-nil, nil_from_length}
use Rattle.hk_text.specs.Lines.{lines}
use Rattle.hk_draft.specs.declared.faults.LineFault.{LineFault}
use Rattle.hk_draft.specs.declared.faults.LineFault.TheVariants.{Bad, NoMemory}
use Rattle.hk_model.specs.declared.refusal.ModelError.{ModelError}
use Rattle.hk_draft.specs.declared.kinds.RefusalKind.TheVariants.{Unfinished}
use Rattle.hk_model.specs.Models.{Declared, nothing_declared, IsGoodLine, AreGoodLines, Spells, IsBadLine, IsFirstBadLine}
use Rattle.hk_group.specs.Problems.{PlainProblem}
use Rattle.hk_draft.specs.Drafts.{PlainDraft, IsOf, IsValidDraft}
use Rattle.hk_model.specs.inside.Faults.{IsLineFault, IsErrorAt}
use Rattle.hk_model.specs.Refused.{IsRefusal, refused_line, no_end, IsErrorOf}
use Rattle.hk_model.proofs.GoodLines.{good_lines_more, good_lines_sound}
use Rattle.hk_draft.proofs.Validity.{IsValidSoFar}

-- the lines before the rest are good, they declare this, and the line of this number is the next
pub record Reached (bytes : List ℕ) (declared : Declared) (rest : List ℕ) (number : ℕ) : Type 0 where
  pub done : List (List ℕ)
  pub parts : lines bytes ≡ done ++ lines rest
  pub good : AreGoodLines nothing_declared done declared
  pub counted : number ≡ length done + 1
  pub room : number + length rest ≤ 1048577

-- one line more
pub reached_more : {bytes : List ℕ} {declared next : Declared} {rest line after : List ℕ} {number : ℕ} → Reached bytes declared rest number → lines rest ≡ line ∷ lines after → length after < length rest → IsGoodLine declared line next → Reached bytes next after (number + 1)
reached_more {line = line} {after = after} reached first shorter good = record {
  done = reached.done ++ line ∷ [];
  parts = reached.parts ∙ ap (λ ls. reached.done ++ ls) first ∙ sym (append_assoc reached.done (line ∷ []) (lines after));
  good = good_lines_more reached.good good;
  counted = omega (arith, reached.counted, length-append reached.done (line ∷ []));
  room = omega (arith, reached.room);
}

first_bad : {bytes : List ℕ} {declared : Declared} {rest line : List ℕ} {number : ℕ} (after : List ℕ) → Reached bytes declared rest number → lines rest ≡ line ∷ lines after → IsBadLine declared line → IsFirstBadLine bytes number line declared
first_bad after reached first bad = record {
  front = reached.done;
  rest = lines after;
  parts = reached.parts ∙ ap (λ ls. reached.done ++ ls) first;
  counted = reached.counted;
  good = reached.good;
  bad = bad;
}

-- the answer where the next line is refused
pub refused_at : {bytes : List ℕ} {declared : Declared} {rest line : List ℕ} {number : ℕ} (after : List ℕ) (fault : LineFault) (error : ModelError) → Reached bytes declared rest number → lines rest ≡ line ∷ lines after → IsLineFault declared line fault → IsErrorAt number fault error → IsErrorOf bytes error
refused_at {bytes = bytes} after (Bad kind) error reached first (bad, fault) is = subst (IsErrorOf bytes) (sym is) (refused_line (first_bad after reached first bad) fault)
refused_at {bytes = bytes} after NoMemory error reached first fault is = subst (IsErrorOf bytes) (sym is) tt

-- the lines that are read are all
all_done : {bytes : List ℕ} {declared : Declared} {rest : List ℕ} {number : ℕ} (reached : Reached bytes declared rest number) → length rest ≡ 0 → lines bytes ≡ reached.done
all_done {rest = rest} reached over = reached.parts ∙ ap (λ r. reached.done ++ lines r) (nil_from_length rest over) ∙ append-nil reached.done

all_good : {bytes : List ℕ} {declared : Declared} {rest : List ℕ} {number : ℕ} → Reached bytes declared rest number → length rest ≡ 0 → AreGoodLines nothing_declared (lines bytes) declared
all_good {declared = declared} reached over = subst (λ ls. AreGoodLines nothing_declared ls declared) (sym (all_done reached over)) reached.good

-- the answer where no line is the header, or a specification isn't ended
pub unfinished : {bytes rest : List ℕ} {declared : Declared} {number : ℕ} (error : ModelError) → Reached bytes declared rest number → length rest ≡ 0 → (declared.problem ≡ None) ⊎ IsSome declared.block → IsErrorAt number (Bad Unfinished) error → IsErrorOf bytes error
unfinished {bytes = bytes} {number = number} error reached over missed is =
    let last : length (lines bytes) + 1 ≡ number = ap (λ ls. length ls + 1) (all_done reached over) ∙ sym reached.counted in
    subst (IsErrorOf bytes) (sym is) (subst (λ n. IsRefusal bytes n Unfinished) last (no_end (all_good reached over) missed))

-- the problem of what is declared, where no specification is open, is what the bytes spell
pub all_spelled : {bytes rest : List ℕ} {declared : Declared} {number : ℕ} {draft : PlainDraft} {problem : PlainProblem} → Reached bytes declared rest number → length rest ≡ 0 → (declared.problem ≡ Some draft) × (declared.block ≡ None) → IsOf draft problem
    → Spells bytes problem
all_spelled {declared = declared} {draft = draft} reached over ends is = record { after = declared; draft = draft; good = all_good reached over; declared = ends.0; is_of = is; ended = ends.1 }

-- and it is valid
pub all_valid : {bytes rest : List ℕ} {declared : Declared} {number : ℕ} (draft : PlainDraft) → Reached bytes declared rest number → declared.problem ≡ Some draft → IsValidDraft draft
all_valid draft reached is = let sound = good_lines_sound reached.good in subst IsValidSoFar is sound.problem
