-- How far a specification is read, line by line.
use Rattle.std.proofs.Common.{◌≡◌, ℕ, ◌+◌, ◌<◌, ◌≤◌, ◌==◌, inl, inr, List, [], ◌∷◌, ◌++◌, Bool, true, false, Result, Ok, Err, IfOk, IfErr, length, refl, ap, sym, ◌∙◌, subst, arith, append_assoc, length-append}
use Rattle.std.proofs.lemmas.Bool.Decides.{nat_tests}
use Rattle.std.proofs.lemmas.List.{append-nil, nil_from_length}
use Rattle.hk_spec.specs.Specifications.{Specification}
use Rattle.hk_text.specs.Lines.{lines}
use Rattle.hk_text.specs.Texts.{texts_of}
use Rattle.hk_text.specs.Tokens.{AreTokensOf, HasTexts, IsFaultOf}
use Rattle.hk_text.specs.declared.tokenizer.TextFault.{TextFault}
use Rattle.hk_text.specs.declared.tokenizer.TextFault.TheVariants as text
use Rattle.hk_text.specs.declared.tokenizer.Token.{Token}
use Rattle.hk_parse.specs.BlockFaults.{IsAdded, Ends}
use Rattle.hk_parse.specs.BlockLines.{Part}
use Rattle.hk_parse.specs.Blocks.{IsWhole}
use Rattle.hk_parse.specs.SpecTexts.{Stage, Before, Within, Whole, IsGoodLine, good_empty, good_later, good_end, AreGoodLines, no_line, then_line, IsBadAt, bad_byte, bad_texts, IsFaultAt, IsFirstBad, WritesSpec, IsSpecFault}
use Rattle.hk_parse.specs.inside.Stages.{StopsAt, text_fault, fault_of}
use Rattle.hk_parse.specs.declared.faults.BlockFault.{BlockFault}
use Rattle.hk_parse.specs.declared.faults.BlockFault.TheVariants.{Syntax, Name, Limit, Memory}
use Rattle.hk_parse.specs.declared.faults.SpecFault.{SpecFault}
use Rattle.hk_parse.specs.declared.faults.SpecFault.TheVariants as spec
use Rattle.hk_text.proofs.TokenTexts.{texts_over, texts_go_on}

-- a line has the texts of its tokens
pub has_texts : (line : List ℕ) (tokens : List Token) → AreTokensOf line tokens → HasTexts line (texts_of line tokens)
has_texts line tokens split = record { tokens = tokens; split = split; texts_are = refl }

-- a line that adds something is good
pub line_added : (line : List ℕ) (tokens : List Token) {before after : Part} {ended : Bool} → AreTokensOf line tokens → IsAdded before (texts_of line tokens) after ended → ended ≡ false → IsGoodLine (Within before) line (Within after)
line_added line tokens {before} {after} split added is =
    good_later (has_texts line tokens split) (subst (IsAdded before (texts_of line tokens) after) is added)

-- the end is good, and tells the whole specification
pub line_ended : (line : List ℕ) (tokens : List Token) {before after : Part} {ended : Bool} {s : Specification} → AreTokensOf line tokens → IsAdded before (texts_of line tokens) after ended → ended ≡ true → IsWhole after s → IsGoodLine (Within before) line (Whole s)
line_ended line tokens {before} {after} split added is whole =
    let ends : Ends before (texts_of line tokens) × (after ≡ before) = subst (IsAdded before (texts_of line tokens) after) is added in
    good_end (has_texts line tokens split) ends.0 (sym ends.1 ∙ whole)

-- a line without tokens is good
pub line_empty : (line : List ℕ) (tokens : List Token) (stage : Stage) → AreTokensOf line tokens → (length tokens == 0) ≡ true → IsGoodLine stage line stage
line_empty line tokens stage split none = good_empty (record { tokens = tokens; split = split; texts_are = texts_over line tokens none })

-- a line whose texts are no good line is bad
pub texts_stop : (line : List ℕ) (tokens : List Token) (stage : Stage) (fault : BlockFault) → AreTokensOf line tokens → (length tokens == 0) ≡ false → IsFaultAt stage (texts_of line tokens) fault → StopsAt stage line fault
texts_stop line tokens stage fault split some bad = inl (bad_texts (has_texts line tokens split) (texts_go_on line tokens some) bad)

-- the same of what was made of the texts
pub made_stops : {A : Type 0} (line : List ℕ) (tokens : List Token) (stage : Stage) (made : Result A BlockFault) → AreTokensOf line tokens → (length tokens == 0) ≡ false → IfErr made (IsFaultAt stage (texts_of line tokens)) → IfErr made (StopsAt stage line)
made_stops line tokens stage (Ok next) split some bad = tt
made_stops line tokens stage (Err fault) split some bad = texts_stop line tokens stage fault split some bad

-- after the end each text is too many
pub whole_stops : (line : List ℕ) (tokens : List Token) (s : Specification) → AreTokensOf line tokens → (length tokens == 0) ≡ false → StopsAt (Whole s) line Syntax
whole_stops line tokens s split some = texts_stop line tokens (Whole s) Syntax split some (texts_go_on line tokens some)

-- a line with a byte that is in no token is bad
pub byte_stops : (line : List ℕ) (stage : Stage) (fault : TextFault) → IsFaultOf line fault → StopsAt stage line (text_fault fault)
byte_stops line stage (text.NotAscii column) bad = inl (bad_byte bad.1)
byte_stops line stage (text.BadByte column) bad = inl (bad_byte bad.1)
byte_stops line stage text.Memory bad = inr refl

-- the lines before the rest are good and bring the reader to this stage, and the line of this number is the next
pub record Reached (bytes : List ℕ) (stage : Stage) (rest : List ℕ) (number : ℕ) : Type 0 where
  pub done : List (List ℕ)
  pub parts : lines bytes ≡ done ++ lines rest
  pub good : AreGoodLines Before done stage
  pub counted : number ≡ length done + 1
  pub room : number + length rest ≤ 1048577

-- good lines go on with a good line
good_lines_more : {a b c : Stage} {front : List (List ℕ)} {line : List ℕ} → AreGoodLines a front b → IsGoodLine b line c → AreGoodLines a (front ++ line ∷ []) c
good_lines_more no_line good = then_line good no_line
good_lines_more (then_line first goods) good = then_line first (good_lines_more goods good)

-- one line more
pub reached_more : {bytes : List ℕ} {stage next : Stage} {rest line after : List ℕ} {number : ℕ} → Reached bytes stage rest number → lines rest ≡ line ∷ lines after → length after < length rest → IsGoodLine stage line next → Reached bytes next after (number + 1)
reached_more {bytes} {stage} {next} {rest} {line} {after} {number} reached first shorter good = record {
  done = reached.done ++ line ∷ [];
  parts = reached.parts ∙ ap (λ ls. reached.done ++ ls) first ∙ sym (append_assoc reached.done (line ∷ []) (lines after));
  good = good_lines_more reached.good good;
  counted = omega (arith, reached.counted, length-append reached.done (line ∷ []));
  room = omega (arith, reached.room);
}

first_bad : {bytes : List ℕ} {stage : Stage} {rest line : List ℕ} {number : ℕ} {fault : BlockFault} (after : List ℕ) → Reached bytes stage rest number → lines rest ≡ line ∷ lines after → IsBadAt stage line fault → IsFirstBad bytes number fault
first_bad {stage = stage} {line = line} after reached first bad = record {
  front = reached.done;
  line = line;
  rest = lines after;
  parts = reached.parts ∙ ap (λ ls. reached.done ++ ls) first;
  counted = reached.counted;
  stage = stage;
  good = reached.good;
  bad = bad;
}

-- the answer where the reader stops at the next line
pub stopped_at : {bytes : List ℕ} {stage : Stage} {rest line : List ℕ} {number : ℕ} (after : List ℕ) (fault : BlockFault) → Reached bytes stage rest number → lines rest ≡ line ∷ lines after → StopsAt stage line fault → IsSpecFault bytes (fault_of number fault)
stopped_at after Syntax reached first (inl bad) = inl (first_bad after reached first bad)
stopped_at after Name reached first (inl bad) = first_bad after reached first bad
stopped_at after Limit reached first (inl bad) = first_bad after reached first bad
stopped_at after Memory reached first (inl bad) = tt
stopped_at {bytes = bytes} {number = number} after fault reached first (inr is) = subst (λ f. IsSpecFault bytes (fault_of number f)) (sym is) tt

-- all lines are read
module _ {bytes : List ℕ} {stage : Stage} {rest : List ℕ} {number : ℕ} (reached : Reached bytes stage rest number) (over : (length rest == 0) ≡ true) where
  whole : lines bytes ≡ reached.done
  whole =
      let none : length rest ≡ 0 = grind (arith, nat_tests) in
      reached.parts ∙ ap (λ r. reached.done ++ lines r) (nil_from_length rest none) ∙ append-nil reached.done

  all_good : AreGoodLines Before (lines bytes) stage
  all_good = subst (λ ls. AreGoodLines Before ls stage) (sym whole) reached.good

  -- the answer where the end is wanting
  pub wants_end : ((s : Specification) → stage ≡ Whole s → ⊥) → IsSpecFault bytes (spec.Syntax number)
  wants_end no_end = inr (record { stage = stage; good = all_good; no_end = no_end; counted = reached.counted ∙ sym (ap (λ ls. length ls + 1) whole) })

-- the answer where the end is read
pub whole_read : {bytes : List ℕ} {s : Specification} {rest : List ℕ} {number : ℕ} → Reached bytes (Whole s) rest number → (length rest == 0) ≡ true → WritesSpec bytes s
whole_read reached over = all_good reached over

-- the answer about the last stage is one about the bytes
pub whole_answer : {bytes : List ℕ} {stage : Stage} {rest : List ℕ} {number : ℕ} (answer : Result Specification SpecFault) → Reached bytes stage rest number → (length rest == 0) ≡ true → IfOk answer (λ s. stage ≡ Whole s) → IfOk answer (WritesSpec bytes)
whole_answer {bytes = bytes} {rest = rest} {number = number} (Ok s) reached over is = whole_read (subst (λ stage. Reached bytes stage rest number) is reached) over
whole_answer (Err fault) reached over is = tt

pub wanting_answer : {bytes : List ℕ} {stage : Stage} {rest : List ℕ} {number : ℕ} (answer : Result Specification SpecFault) → Reached bytes stage rest number → (length rest == 0) ≡ true
    → IfErr answer (λ fault. (fault ≡ spec.Syntax number) × ((s : Specification) → stage ≡ Whole s → ⊥)) → IfErr answer (IsSpecFault bytes)
wanting_answer (Ok s) reached over wanting = tt
wanting_answer {bytes = bytes} (Err fault) reached over wanting = subst (IsSpecFault bytes) (sym wanting.0) (wants_end reached over wanting.1)

-- before the first line there is no end
pub before_no_end : (s : Specification) → Before ≡ Whole s → ⊥
before_no_end s is = cc

-- among its lines there is no end
pub within_no_end : (part : Part) (s : Specification) → Within part ≡ Whole s → ⊥
within_no_end part s is = cc
