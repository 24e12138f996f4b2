-- Each line is good, or it has a first fault.
use Rattle.std.proofs.Common.{◌≡◌, ◌≢◌, ℕ, ◌⊎◌, inl, inr, List, [], ◌∷◌, Option, None, Some, refl}
use Rattle.hk_text.specs.declared.tokenizer.Token.{Token}
use Rattle.hk_text.specs.Texts.{texts_of}
use Rattle.hk_text.specs.Tokens.{AreTokensOf, IsBadByte, HasTexts}
use Rattle.hk_text.proofs.Existence.{tokens_or_bad_byte}
use Rattle.hk_draft.specs.declared.kinds.RefusalKind.{RefusalKind}
use Rattle.hk_draft.specs.declared.kinds.RefusalKind.TheVariants.{Text, Syntax, Name, Limit, Scope, Grade}
use Rattle.hk_model.specs.LineFaults.{IsFirstFault}
use Rattle.hk_model.specs.Models.{Declared, IsGoodLine, good_empty}
use Rattle.hk_draft.specs.Drafts.{PlainDraft}
use Rattle.hk_model.proofs.FaultRanks.{has_texts, first_text, first_syntax, first_name, first_limit, first_scope, first_grade}
use Rattle.hk_model.proofs.Meanings.{Meaning, Means, none_say_nothing, dec_means}
use Rattle.hk_model.proofs.MeantEffects.{meant_good}
use Rattle.hk_model.proofs.MeantFaults.{FaultIn, dec_name_in, dec_limit_in, dec_scope_in, dec_grade_in, meant_effect, header_effect}
use Rattle.hk_model.proofs.Soundness.{IsSound}

-- the line is good, or it has a first fault
pub data Judged (before : Declared) (line : List ℕ) : Type 0 where
  found_good : (after : Declared) → IsGoodLine before line after → Judged before line
  found_fault : (kind : RefusalKind) → IsFirstFault before line kind → Judged before line

module _ {before : Declared} {line : List ℕ} {texts : List (List ℕ)} {m : Meaning} (sound : IsSound before) (has : HasTexts line texts) (means : Means before texts m) where
  -- a line after the header that means something without faults has an effect
  by_faults : (problem : PlainDraft) → before.problem ≡ Some problem → Dec (FaultIn before problem Name m) → Dec (FaultIn before problem Limit m) → Dec (FaultIn before problem Scope m) → Judged before line
  by_faults problem started (yes named) limited unordered = found_fault Name (first_name has started means named)
  by_faults problem started (no named) (yes limited) unordered = found_fault Limit (first_limit has started means limited named)
  by_faults problem started (no named) (no limited) (yes unordered) = found_fault Scope (first_scope has started means unordered named limited)
  by_faults problem started (no named) (no limited) (no unordered) = by_grade (dec_grade_in problem sound means named limited)
    where
      by_grade : Dec (FaultIn before problem Grade m) → Judged before line
      by_grade (yes ungraded) = found_fault Grade (first_grade has started means ungraded named limited unordered)
      by_grade (no graded) = let effect = meant_effect sound started means named limited unordered graded in found_good effect.0 (meant_good has means effect.1)

  -- a line that means something is good or has a fault
  by_place : (problem : Option PlainDraft) → before.problem ≡ problem → Judged before line
  by_place None start = let effect = header_effect sound start means in found_good effect.0 (meant_good has means effect.1)
  by_place (Some problem) start = by_faults problem start (dec_name_in before problem m) (dec_limit_in before problem m) (dec_scope_in before problem m)

-- a line with tokens is good where they mean something and it has no fault
by_meaning : {before : Declared} {line : List ℕ} {texts : List (List ℕ)} → IsSound before → HasTexts line texts → texts ≢ [] → Dec ((m : Meaning) × Means before texts m) → Judged before line
by_meaning {before = before} sound has some (yes found) = by_place sound has found.1 before.problem refl
by_meaning sound has some (no none) = found_fault Syntax (first_syntax has some (none_say_nothing (λ m means. none (m, means))))

-- a line with texts is good or has a fault
by_texts : (before : Declared) {line : List ℕ} (texts : List (List ℕ)) → IsSound before → HasTexts line texts → Judged before line
by_texts before [] sound has = found_good before (good_empty has)
by_texts before {line = line} (word ∷ more) sound has = by_meaning sound has (λ same. cc) (dec_means before (word ∷ more))

-- each line is good, or has a first fault
pub judged : (before : Declared) (line : List ℕ) → IsSound before → Judged before line
judged before line sound = by (tokens_or_bad_byte line)
  where
    by : ((tokens : List Token) × AreTokensOf line tokens) ⊎ ((column : ℕ) × (byte : ℕ) × IsBadByte line column byte) → Judged before line
    by (inl found) = by_texts before (texts_of line found.0) sound (has_texts line found.0 found.1)
    by (inr bad) = found_fault Text (first_text bad.2)
