-- The first fault of a line: each kind's is built from what is known of the line, and a line has one.
use Rattle.std.proofs.Common.{◌≡◌, ◌≢◌, ◌≤◌, ◌==◌, ℕ, suc, true, List, [], None, Some, refl, ap, sym, ◌∙◌, subst, arith, ◌<◌, ◌⊎◌, inl, inr, get_or, ◌∷◌}
use Rattle.std.specs.Prelude.{IfSome}
use Rattle.std.proofs.lemmas.Bool.Decides.{nat_tests}
use Rattle.hk_parse.specs.Blocks.{IsPart}
use Rattle.hk_text.specs.declared.tokenizer.Token.{Token}
use Rattle.hk_text.specs.Texts.{texts_of}
use Rattle.hk_text.specs.Tokens.{AreTokensOf, IsBadByte, HasTexts}
use Rattle.hk_draft.specs.declared.kinds.RefusalKind.{RefusalKind}
use Rattle.hk_draft.specs.declared.kinds.RefusalKind.TheVariants.{Text, Syntax, Name, Limit, Scope, Grade, Unfinished}
use Rattle.hk_model.specs.LineFaults.{SayNothingAfter, IsFault, fault_text, fault_syntax, rank, IsFirstFault}
use Rattle.hk_model.specs.Models.{Declared, IsBadLine}
use Rattle.hk_draft.specs.Drafts.{PlainDraft}
use Rattle.hk_text.proofs.Reading.{same_texts, bad_byte_no_texts}
use Rattle.hk_model.proofs.Meanings.{Meaning, Means, nothing_means, say_nothing_none, means_one}
use Rattle.hk_model.proofs.MeantFaults.{FaultIn, Faulty, faulty_text, faulty_syntax, faulty_meaning, faulty, meant_fault, same_problem, faulty_nothing}
use Rattle.std.proofs.lemmas.Bool.{cases_lt}
use Rattle.hk_model.proofs.MeantEffects.{means_here, Seen, seen_nothing, seen_meaning, seen}

-- the kind at a place in the order of kinds
kind_at : ℕ → RefusalKind
kind_at n = get_or (Text ∷ Syntax ∷ Name ∷ Limit ∷ Scope ∷ Grade ∷ []) n Unfinished

kind_at_rank : (kind : RefusalKind) → kind_at (rank kind) ≡ kind
unfolding kind_at
kind_at_rank Text = refl
kind_at_rank Syntax = refl
kind_at_rank Name = refl
kind_at_rank Limit = refl
kind_at_rank Scope = refl
kind_at_rank Grade = refl
kind_at_rank Unfinished = refl

-- kinds at one place are one
rank_one : {k j : RefusalKind} → rank k ≡ rank j → k ≡ j
rank_one {k = k} {j = j} same = sym (kind_at_rank k) ∙ ap kind_at same ∙ kind_at_rank j

-- a line has one first fault
pub first_fault_one : {before : Declared} {line : List ℕ} {k j : RefusalKind} → IsFirstFault before line k → IsFirstFault before line j → k ≡ j
first_fault_one {k = k} {j = j} x y =
    let there = x.first j y.fault in
    let back = y.first k x.fault in
    rank_one (omega (arith, there, back))

-- a length that is tested to be 0 is 0
pub zero_from_test : (n : ℕ) → (n == 0) ≡ true → n ≡ 0
zero_from_test n is = grind (arith, nat_tests)

module _ (line : List ℕ) (tokens : List Token) (split : AreTokensOf line tokens) where
  -- a line has the texts of its tokens
  pub has_texts : HasTexts line (texts_of line tokens)
  has_texts = record { tokens = tokens; split = split; texts_are = refl }

-- what means something has the fault that its line has
pub fault_here : {before : Declared} {line : List ℕ} {texts : List (List ℕ)} {problem : PlainDraft} {m : Meaning} {kind : RefusalKind} → HasTexts line texts → before.problem ≡ Some problem → Means before texts m
    → Faulty before line kind → FaultIn before problem kind m
fault_here has started means (faulty_text bad) = absurd (bad_byte_no_texts bad has)
fault_here has started means (faulty_syntax has' some none) = absurd (say_nothing_none none (means_here has' has means))
fault_here {before = before} {problem = problem} has started means (faulty_meaning {m = other} {kind = kind} has' started' means' fault) =
    subst (FaultIn before problem kind) (means_one (means_here has has' means') means) (subst (λ p. FaultIn before p kind other) (same_problem started' started) fault)

-- the line has no fault of a kind before this place
abbrev NoneBefore : Declared → List ℕ → ℕ → Type 0
NoneBefore before line place = (other : RefusalKind) → IsFault before line other → place ≤ rank other

module _ {before : Declared} {line : List ℕ} where
  -- where it has none before the place of a kind, and none of the kind, it has none before the next place
  none_more : (kind : RefusalKind) → NoneBefore before line (rank kind) → (IsFault before line kind → ⊥) → NoneBefore before line (suc (rank kind))
  none_more kind early none other fault = by (cases_lt (rank kind) (rank other))
    where
      by : (rank kind < rank other) ⊎ (rank other ≤ rank kind) → suc (rank kind) ≤ rank other
      by (inl less) = omega (arith, less)
      by (inr le) =
          let there = early other fault in
          let same : other ≡ kind = rank_one (omega (arith, there, le)) in
          absurd (none (subst (IsFault before line) same fault))

  -- a line with a bad byte has the fault Text first
  pub first_text : {column byte : ℕ} → IsBadByte line column byte → IsFirstFault before line Text
  first_text bad = record { fault = fault_text bad; first = λ other fault. omega arith }

  -- a line with texts has no fault Text
  none_text : {texts : List (List ℕ)} → HasTexts line texts → NoneBefore before line 1
  none_text has = none_more Text (λ other fault. omega arith) none
    where
      none : IsFault before line Text → ⊥
      none (fault_text bad) = bad_byte_no_texts bad has

  -- a line with tokens that say nothing which may stand there has the fault Syntax first
  pub first_syntax : {texts : List (List ℕ)} → HasTexts line texts → texts ≢ [] → SayNothingAfter before texts → IsFirstFault before line Syntax
  first_syntax has some silent = record { fault = fault_syntax has some silent; first = none_text has }

module _ {before : Declared} {line : List ℕ} {texts : List (List ℕ)} {problem : PlainDraft} {m : Meaning} (has : HasTexts line texts) (started : before.problem ≡ Some problem) (means : Means before texts m) where
  -- a kind of which the line's meaning has no fault
  free : (kind : RefusalKind) → (FaultIn before problem kind m → ⊥) → IsFault before line kind → ⊥
  free kind none fault = none (fault_here has started means (faulty fault))

  -- a line that means something with a fault of a name has the fault Name first
  none_early : NoneBefore before line 2
  none_early = none_more Syntax (none_text has) (free Syntax (λ none. none))

  pub first_name : FaultIn before problem Name m → IsFirstFault before line Name
  first_name fault = record { fault = meant_fault has started means Name fault; first = none_early }

  -- a line that means something with a fault of a limit, and of no name, has the fault Limit first
  pub first_limit : FaultIn before problem Limit m → (FaultIn before problem Name m → ⊥) → IsFirstFault before line Limit
  first_limit fault no_name = record { fault = meant_fault has started means Limit fault; first = none_more Name none_early (free Name no_name) }

  -- a line that means something whose scope is not in order, with no other fault, has the fault Scope first
  pub first_scope : FaultIn before problem Scope m → (FaultIn before problem Name m → ⊥) → (FaultIn before problem Limit m → ⊥) → IsFirstFault before line Scope
  first_scope fault no_name no_limit = record { fault = meant_fault has started means Scope fault; first = none_more Limit (none_more Name none_early (free Name no_name)) (free Limit no_limit) }

  -- a line that means something whose test or step hasn't an allowed sense, with no other fault, has the fault Grade first
  pub first_grade : FaultIn before problem Grade m → (FaultIn before problem Name m → ⊥) → (FaultIn before problem Limit m → ⊥) → (FaultIn before problem Scope m → ⊥) → IsFirstFault before line Grade
  first_grade fault no_name no_limit no_scope =
      record { fault = meant_fault has started means Grade fault; first = none_more Scope (none_more Limit (none_more Name none_early (free Name no_name)) (free Limit no_limit)) (free Scope no_scope) }

-- where no specification is open, it keeps its rules
pub none_open : (before : Declared) → before.block ≡ None → IfSome before.block IsPart
none_open before out = subst (λ block. IfSome block IsPart) (sym out) tt

-- a line with a fault is bad, where the open specification keeps its rules
pub fault_bad : {before : Declared} {line : List ℕ} {kind : RefusalKind} → IfSome before.block IsPart → IsFault before line kind → IsBadLine before line
fault_bad {before = before} {line = line} parts fault after good = by (seen good) (faulty fault)
  where
    by : {after : Declared} {kind : RefusalKind} → Seen before line after → Faulty before line kind → ⊥
    by (seen_nothing has) (faulty_text bad) = bad_byte_no_texts bad has
    by (seen_nothing has) (faulty_syntax has' some none) = some (same_texts has' has)
    by (seen_nothing has) (faulty_meaning has' started means found) = nothing_means (means_here has has' means)
    by (seen_meaning has means effect) (faulty_text bad) = bad_byte_no_texts bad has
    by (seen_meaning has means effect) (faulty_syntax has' some none) = say_nothing_none none (means_here has' has means)
    by {kind = kind} (seen_meaning has means effect) (faulty_meaning has' started means' found) = faulty_nothing parts started means effect kind (fault_here has started means (faulty_meaning has' started means' found))

-- a line with a bad byte is bad, whatever is open
pub text_bad : {before : Declared} {line : List ℕ} {column byte : ℕ} → IsBadByte line column byte → IsBadLine before line
text_bad {line = line} bad after good = by (seen good)
  where
    by : {before after : Declared} → Seen before line after → ⊥
    by (seen_nothing has) = bad_byte_no_texts bad has
    by (seen_meaning has means effect) = bad_byte_no_texts bad has
