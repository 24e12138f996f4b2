-- The texts of good lines, and the lines that have them.
use Rattle.std.proofs.Common.{◌≢◌, ℕ, List, [], ◌∷◌, ◌++◌, map, sym, ◌∙◌, subst}
use Rattle.std.proofs.lemmas.List.{map-append}
use Rattle.hk_spec.specs.Specifications.{Specification}
use Rattle.hk_text.specs.Tokens.{HasTexts}
use Rattle.hk_parse.specs.BlockFaults.{BeginsWith, GoesOn, Ends}
use Rattle.hk_parse.specs.BlockLines.{Part}
use Rattle.hk_parse.specs.Blocks.{IsWhole}
use Rattle.hk_parse.specs.LineTexts.{LineText, Begin, Property, Test, Step, End, line_texts, SaysLine}
use Rattle.hk_print.specs.Pieces.{tokens_of}
use Rattle.hk_parse.specs.SpecTexts.{Stage, Before, Within, Whole, IsGoodLine, good_empty, good_first, good_later, good_end, AreGoodLines, no_line, then_line, AreTextsOf, no_lines, without_texts, with_texts}
use Rattle.hk_print.proofs.PrintedLines.{PrintedAs, printed_none, printed_next}

-- the texts of a good line: the first; one after it; the end
pub data IsGoodText : Stage → List (List ℕ) → Stage → Type 0 where
  text_first : {texts : List (List ℕ)} {part : Part} → BeginsWith texts part → IsGoodText Before texts (Within part)
  text_later : {texts : List (List ℕ)} {part after : Part} → GoesOn part texts after → IsGoodText (Within part) texts (Within after)
  text_end : {texts : List (List ℕ)} {part : Part} {s : Specification} → Ends part texts → IsWhole part s → IsGoodText (Within part) texts (Whole s)

-- the texts of good lines, one after the other
pub data AreGoodTexts : Stage → List (List (List ℕ)) → Stage → Type 0 where
  no_text : {stage : Stage} → AreGoodTexts stage [] stage
  then_text : {stage between after : Stage} {texts : List (List ℕ)} {more : List (List (List ℕ))}
      → IsGoodText stage texts between → AreGoodTexts between more after → AreGoodTexts stage (texts ∷ more) after

then_texts : {a b c : Stage} {xs ys : List (List (List ℕ))} → AreGoodTexts a xs b → AreGoodTexts b ys c → AreGoodTexts a (xs ++ ys) c
then_texts no_text after = after
then_texts (then_text first more) after = then_text first (then_texts more after)

-- good lines of pieces
abbrev pub AreGoodPieces : Stage → List (List (List (List ℕ))) → Stage → Type 0
AreGoodPieces a lines b = AreGoodTexts a (map tokens_of lines) b

-- good lines of pieces, and others after them
pub then_pieces : {a b c : Stage} (xs ys : List (List (List (List ℕ)))) → AreGoodPieces a xs b → AreGoodPieces b ys c → AreGoodPieces a (xs ++ ys) c
then_pieces {a = a} {c = c} xs ys first after = subst (λ texts. AreGoodTexts a texts c) (sym (map-append tokens_of xs ys)) (then_texts first after)

good_line : {a b : Stage} {line : List ℕ} {texts : List (List ℕ)} → HasTexts line texts → IsGoodText a texts b → IsGoodLine a line b
good_line has (text_first begins) = good_first has begins
good_line has (text_later goes) = good_later has goes
good_line has (text_end ends whole) = good_end has ends whole

-- lines with good texts are good
pub good_lines : {a b : Stage} {lines : List (List ℕ)} {all : List (List (List ℕ))} → PrintedAs lines all → AreGoodTexts a all b → AreGoodLines a lines b
good_lines printed_none no_text = no_line
good_lines (printed_next has more) (then_text good goods) = then_line (good_line has good) (good_lines more goods)

line_some : (line : LineText) → line_texts line ≢ []
line_some (Begin name params) = λ none. cc
line_some (Property side name kind init) = λ none. cc
line_some (Test test) = λ none. cc
line_some (Step name step) = λ none. cc
line_some End = λ none. cc

says_some : {texts : List (List ℕ)} {line : LineText} → SaysLine texts line → texts ≢ []
says_some {line = line} says none = line_some line (sym says.texts_are ∙ none)

text_some : {a b : Stage} {texts : List (List ℕ)} → IsGoodText a texts b → texts ≢ []
text_some (text_first begins) = says_some begins.says
text_some (text_later goes) = says_some goes.says
text_some (text_end ends whole) = says_some ends.says

-- the texts of these lines, and they are good
pub record GoodTextsOf (a b : Stage) (lines : List (List ℕ)) : Type 0 where
  pub all : List (List (List ℕ))
  pub are : AreTextsOf lines all
  pub good : AreGoodTexts a all b

one_more : {a b c : Stage} {line : List ℕ} {texts : List (List ℕ)} {more : List (List ℕ)} → HasTexts line texts → IsGoodText a texts b → GoodTextsOf b c more → GoodTextsOf a c (line ∷ more)
one_more {texts = texts} has good rest = record { all = texts ∷ rest.all; are = with_texts has (text_some good) rest.are; good = then_text good rest.good }

-- good lines have good texts, but for those without tokens
pub texts_of_good : {a b : Stage} {lines : List (List ℕ)} → AreGoodLines a lines b → GoodTextsOf a b lines
texts_of_good no_line = record { all = []; are = no_lines; good = no_text }
texts_of_good (then_line (good_empty has) more) = let rest = texts_of_good more in record { all = rest.all; are = without_texts has rest.are; good = rest.good }
texts_of_good (then_line (good_first has begins) more) = one_more has (text_first begins) (texts_of_good more)
texts_of_good (then_line (good_later has goes) more) = one_more has (text_later goes) (texts_of_good more)
texts_of_good (then_line (good_end has ends whole) more) = one_more has (text_end ends whole) (texts_of_good more)
