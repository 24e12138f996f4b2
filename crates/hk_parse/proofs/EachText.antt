-- Each text writes a specification, or has a fault besides want of memory.
use Rattle.std.proofs.Common.{◌≡◌, ◌≢◌, ℕ, ◌+◌, ◌⊎◌, inl, inr, List, [], ◌∷◌, ◌++◌, length, Option, None, Some, IsSome, false, true, refl, ap, subst}
use Rattle.hk_spec.specs.Specifications.{Specification}
use Rattle.hk_spec.specs.declared.expressions.Cond.{Cond}
use Rattle.hk_text.specs.Lines.{lines}
use Rattle.hk_text.specs.Texts.{texts_of}
use Rattle.hk_text.specs.Tokens.{AreTokensOf, IsBadByte, HasTexts}
use Rattle.hk_text.specs.declared.tokenizer.Token.{Token}
use Rattle.hk_text.proofs.Existence.{tokens_or_bad_byte}
use Rattle.hk_parse.specs.declared.faults.BlockFault.{BlockFault}
use Rattle.hk_parse.specs.declared.faults.BlockFault.TheVariants.{Syntax, Name, Limit, Memory}
use Rattle.hk_parse.specs.declared.faults.SpecFault.{SpecFault}
use Rattle.hk_parse.specs.declared.faults.SpecFault.TheVariants as spec
use Rattle.hk_parse.specs.BlockLines.{Part, MayStand, BeginNameFault, BeginLimitFault, LineNameFault, LineLimitFault, whole_spec}
use Rattle.hk_parse.specs.Blocks.{IsPart, IsWhole}
use Rattle.hk_parse.specs.LineTexts.{ParamText, LineText, Begin, Property, Test, Step, End, SaysLine}
use Rattle.hk_parse.specs.SpecTexts.{Stage, Before, Within, Whole, IsGoodLine, good_empty, good_first, good_later, good_end, AreGoodLines, no_line, then_line, WritesSpec, IsBadAt, bad_byte, bad_texts, IsFirstBad, IsSpecFault}
use Rattle.hk_parse.proofs.LineDecisions.{dec_opening, dec_inside, dec_begin_name, dec_begin_limit, dec_line_name, dec_line_limit}
use Rattle.hk_parse.proofs.LineEffects.{begins_exists, good_after_exists}
use Rattle.hk_parse.proofs.PartRules.{begins_valid, good_after_valid}
use Rattle.hk_parse.proofs.ReadSpecs.{has_texts, before_no_end, within_no_end}
use Rattle.hk_parse.proofs.SpecOutcomes.{IsSound}

-- the line is good and leads to what is as in a specification, or it has a fault besides want of memory
data Judged (stage : Stage) (line : List ℕ) : Type 0 where
  found_good : (next : Stage) → IsSound next → IsGoodLine stage line next → Judged stage line
  found_fault : (fault : BlockFault) → fault ≢ Memory → IsBadAt stage line fault → Judged stage line

-- with a test that is there, the lines say a whole specification
is_whole : (part : Part) (test : Cond) → part.test ≡ Some test → IsWhole part (whole_spec part test)
is_whole part test is = subst (λ found. part ≡ record part { test = found }) is refl

-- a line of a specification is its end, or it is not
end_or_more : (line : LineText) → (line ≡ End) ⊎ (line ≢ End)
end_or_more (Begin name params) = inr (λ same. cc)
end_or_more (Property side name kind init) = inr (λ same. cc)
end_or_more (Test test) = inr (λ same. cc)
end_or_more (Step name step) = inr (λ same. cc)
end_or_more End = inl refl

module _ {line : List ℕ} {texts : List (List ℕ)} (has : HasTexts line texts) (some : texts ≢ []) where
  -- a first line begins a specification or has a fault
  judged_first : {name : List ℕ} {params : List ParamText} → SaysLine texts (Begin name params) → Dec (BeginNameFault params) → Dec (BeginLimitFault name params) → Judged Before line
  judged_first {name = name} {params = params} says (yes taken) limit = found_fault Name (λ same. cc) (bad_texts has some (name, params, says, taken))
  judged_first {name = name} {params = params} says (no free) (yes large) = found_fault Limit (λ same. cc) (bad_texts has some (name, params, says, free, large))
  judged_first {name = name} {params = params} says (no free) (no small) =
      let (part, begins) = begins_exists name params free small in
      found_good (Within part) (begins_valid says.written begins) (good_first has (record { name = name; params = params; says = says; begins = begins }))

  -- before the first line, texts are those of a first line, or Syntax
  judged_before : Dec ((name : List ℕ) × (params : List ParamText) × SaysLine texts (Begin name params)) → Judged Before line
  judged_before (yes (name, params, says)) = judged_first says (dec_begin_name params) (dec_begin_limit name params)
  judged_before (no none) = found_fault Syntax (λ same. cc) (bad_texts has some (λ name params says. none (name, params, says)))

  module _ (part : Part) (is : IsPart part) where
    -- the end tells the whole specification
    judged_end : SaysLine texts End → MayStand part End → Judged (Within part) line
    judged_end says stands = by part.test refl stands.0
      where
        by : (found : Option Cond) → part.test ≡ found → IsSome found → Judged (Within part) line
        by None none tested = let never : false ≡ true = tested in cc
        by (Some test) found tested = found_good (Whole (whole_spec part test)) tt (good_end has (record { says = says; stands = stands }) (is_whole part test found))

    -- a line that may stand and has no fault is good
    judged_good : (text : LineText) → SaysLine texts text → MayStand part text → (LineNameFault part text → ⊥) → (LineLimitFault part text → ⊥) → (text ≡ End) ⊎ (text ≢ End) → Judged (Within part) line
    judged_good text says stands named small (inl same) = judged_end (subst (SaysLine texts) same says) (subst (MayStand part) same stands)
    judged_good text says stands named small (inr more) =
        let (after, good) = good_after_exists part text is says.written stands named small more in
        found_good (Within after) (good_after_valid is says.written good) (good_later has (record { line = text; says = says; good = good }))

    -- a line that may stand is good or has a fault
    judged_line : (text : LineText) → SaysLine texts text → MayStand part text → Dec (LineNameFault part text) → Dec (LineLimitFault part text) → Judged (Within part) line
    judged_line text says stands (yes fault) limit = found_fault Name (λ same. cc) (bad_texts has some (text, says, stands, fault))
    judged_line text says stands (no named) (yes fault) = found_fault Limit (λ same. cc) (bad_texts has some (text, says, stands, named, fault))
    judged_line text says stands (no named) (no small) = judged_good text says stands named small (end_or_more text)

    -- after the first line, texts are those of a line that may stand, or Syntax
    judged_within : Dec ((text : LineText) × SaysLine texts text × MayStand part text) → Judged (Within part) line
    judged_within (yes (text, says, stands)) = judged_line text says stands (dec_line_name part text) (dec_line_limit part text)
    judged_within (no none) = found_fault Syntax (λ same. cc) (bad_texts has some (λ text says stands. none (text, says, stands)))

  -- a line with tokens is good or has a fault
  judged_some : (stage : Stage) → IsSound stage → Judged stage line
  judged_some Before sound = judged_before (dec_opening texts)
  judged_some (Within part) sound = judged_within part sound (dec_inside part texts)
  judged_some (Whole s) sound = found_fault Syntax (λ same. cc) (bad_texts has some some)

judged_texts : (stage : Stage) {line : List ℕ} (texts : List (List ℕ)) → IsSound stage → HasTexts line texts → Judged stage line
judged_texts stage [] sound has = found_good stage sound (good_empty has)
judged_texts stage (first ∷ more) sound has = judged_some has (λ same. cc) stage sound

-- each line is good or has a fault
judged : (stage : Stage) (line : List ℕ) → IsSound stage → Judged stage line
judged stage line sound = by (tokens_or_bad_byte line)
  where
    by : ((tokens : List Token) × AreTokensOf line tokens) ⊎ ((column : ℕ) × (byte : ℕ) × IsBadByte line column byte) → Judged stage line
    by (inl (tokens, split)) = judged_texts stage (texts_of line tokens) sound (has_texts line tokens split)
    by (inr (column, byte, bad)) = found_fault Syntax (λ same. cc) (bad_byte bad)

-- the first bad line of some lines, with its fault
record FirstBad (stage : Stage) (all : List (List ℕ)) : Type 0 where
  front : List (List ℕ)
  line : List ℕ
  rest : List (List ℕ)
  parts : all ≡ front ++ line ∷ rest
  at : Stage
  good : AreGoodLines stage front at
  fault : BlockFault
  real : fault ≢ Memory
  bad : IsBadAt at line fault

-- lines are all good, or there is a first bad one
abbrev Lines : Stage → List (List ℕ) → Type 0
Lines stage all = ((last : Stage) × AreGoodLines stage all last) ⊎ FirstBad stage all

-- a good line goes before others
lines_after : {stage next : Stage} {line : List ℕ} {more : List (List ℕ)} → IsGoodLine stage line next → Lines next more → Lines stage (line ∷ more)
lines_after good (inl (last, goods)) = inl (last, then_line good goods)
lines_after {line = line} good (inr first) =
    inr (record { front = line ∷ first.front; line = first.line; rest = first.rest; parts = ap (λ all. line ∷ all) first.parts; at = first.at; good = then_line good first.good; fault = first.fault; real = first.real; bad = first.bad })

lines_from : {stage : Stage} {line : List ℕ} (more : List (List ℕ)) → ((next : Stage) → IsSound next → Lines next more) → Judged stage line → Lines stage (line ∷ more)
lines_from more later (found_good next sound good) = lines_after good (later next sound)
lines_from {stage = stage} {line = line} more later (found_fault fault real bad) = inr (record { front = []; line = line; rest = more; parts = refl; at = stage; good = no_line; fault = fault; real = real; bad = bad })

judged_lines : (stage : Stage) (all : List (List ℕ)) → IsSound stage → Lines stage all
judged_lines stage [] sound = inl (stage, no_line)
judged_lines stage (line ∷ more) sound = lines_from more (λ next kept. judged_lines next more kept) (judged stage line sound)

-- the specification that bytes write, or their fault
abbrev Outcome : List ℕ → Type 0
Outcome bytes = ((s : Specification) × WritesSpec bytes s) ⊎ ((fault : SpecFault) × (fault ≢ spec.Memory) × IsSpecFault bytes fault)

-- a first bad line is a fault of the bytes
fault_outcome : (bytes : List ℕ) (number : ℕ) (fault : BlockFault) → fault ≢ Memory → IsFirstBad bytes number fault → Outcome bytes
fault_outcome bytes number Syntax real bad = inr (spec.Syntax number, (λ same. cc), inl bad)
fault_outcome bytes number Name real bad = inr (spec.Name number, (λ same. cc), bad)
fault_outcome bytes number Limit real bad = inr (spec.Limit number, (λ same. cc), bad)
fault_outcome bytes number Memory real bad = absurd (real refl)

-- good lines write a specification, or their end is wanting
good_outcome : (bytes : List ℕ) (stage : Stage) → AreGoodLines Before (lines bytes) stage → Outcome bytes
good_outcome bytes Before goods = inr (spec.Syntax (length (lines bytes) + 1), (λ same. cc), inr (record { stage = Before; good = goods; no_end = before_no_end; counted = refl }))
good_outcome bytes (Within part) goods = inr (spec.Syntax (length (lines bytes) + 1), (λ same. cc), inr (record { stage = Within part; good = goods; no_end = within_no_end part; counted = refl }))
good_outcome bytes (Whole s) goods = inl (s, goods)

-- each text writes a specification, or has a fault besides want of memory
pub spec_or_fault : (bytes : List ℕ) → ((s : Specification) × WritesSpec bytes s) ⊎ ((fault : SpecFault) × (fault ≢ spec.Memory) × IsSpecFault bytes fault)
spec_or_fault bytes = by (judged_lines Before (lines bytes) tt)
  where
    by : Lines Before (lines bytes) → Outcome bytes
    by (inl (stage, goods)) = good_outcome bytes stage goods
    by (inr first) =
        fault_outcome bytes (length first.front + 1) first.fault first.real (record { front = first.front; line = first.line; rest = first.rest; parts = first.parts; counted = refl; stage = first.at; good = first.good; bad = first.bad })
