-- The bytes of a text write one specification at most, or have one fault, and not both.
use Rattle.std.proofs.Common.{◌≡◌, ◌≢◌, ℕ, suc, ◌+◌, inl, inr, List, [], ◌∷◌, ◌++◌, length, Some, refl, sym, ap, subst, ◌∙◌}
use Rattle.hk_spec.specs.Specifications.{Specification}
use Rattle.hk_spec.specs.declared.expressions.Cond.{Cond}
use Rattle.hk_text.specs.Lines.{lines}
use Rattle.hk_text.specs.Tokens.{HasTexts}
use Rattle.hk_text.proofs.Reading.{same_texts, bad_byte_no_texts}
use Rattle.hk_parse.specs.declared.faults.BlockFault.{BlockFault}
use Rattle.hk_parse.specs.declared.faults.BlockFault.TheVariants.{Syntax, Name, Limit, Memory}
use Rattle.hk_parse.specs.declared.faults.SpecFault.{SpecFault}
use Rattle.hk_parse.specs.declared.faults.SpecFault.TheVariants as spec
use Rattle.hk_parse.specs.BlockFaults.{BeginsWith, IsBeginFault, GoesOn, Ends, IsLineFault}
use Rattle.hk_parse.specs.BlockLines.{Part, BeginNameFault, BeginLimitFault, LineNameFault, LineLimitFault, Begins, IsGoodAfter, whole_spec}
use Rattle.hk_parse.specs.Blocks.{IsPart, IsWhole}
use Rattle.hk_parse.specs.LineTexts.{ParamText, LineText, Begin, Property, Test, Step, End, SaysLine}
use Rattle.hk_parse.specs.SpecTexts.{Stage, Before, Within, Whole, IsGoodLine, good_empty, good_first, good_later, good_end, AreGoodLines, no_line, then_line, WritesSpec, IsFaultAt, IsBadAt, bad_byte, bad_texts, IsFirstBad, WantsEnd, IsSpecFault}
use Rattle.hk_parse.proofs.LineEffects.{begins_one, good_after_one}
use Rattle.hk_parse.proofs.LineReadings.{opening_one, says_inside_one}
use Rattle.hk_parse.proofs.PartRules.{begins_valid, good_after_valid}

-- what the lines so far say is as in a specification
abbrev pub IsSound : Stage → Type 0
IsSound Before = Unit {0}
IsSound (Within part) = IsPart part
IsSound (Whole s) = Unit {0}

-- a line of a specification has texts
no_cons : {X : Type 0} {x : X} {xs : List X} → [] ≡ x ∷ xs → ⊥
no_cons same = cc

says_some : (line : LineText) → SaysLine [] line → ⊥
says_some (Begin name params) says = no_cons says.texts_are
says_some (Property side name kind init) says = no_cons says.texts_are
says_some (Test test) says = no_cons says.texts_are
says_some (Step name step) says = no_cons says.texts_are
says_some End says = no_cons says.texts_are

module _ {line : List ℕ} {texts others : List (List ℕ)} (has : HasTexts line texts) (also : HasTexts line others) where
  -- what other texts of the line say is said by these
  says_along : {text : LineText} → SaysLine others text → SaysLine texts text
  says_along {text = text} says = subst (λ ts. SaysLine ts text) (same_texts also has) says

-- a line without texts says nothing
quiet : {line : List ℕ} {texts : List (List ℕ)} {text : LineText} → HasTexts line [] → HasTexts line texts → SaysLine texts text → ⊥
quiet {text = text} none has says = says_some text (says_along none has says)

-- lines say one specification when they end
whole_same : {part : Part} {s : Specification} → IsWhole part s → whole_spec part s.test ≡ s
whole_same {s = s} is = ap (λ p. whole_spec p s.test) is

test_same : {a b : Cond} → Some a ≡ Some b → a ≡ b
test_same same = cc

whole_one : {part : Part} {s t : Specification} → IsWhole part s → IsWhole part t → s ≡ t
whole_one {part = part} is also = sym (whole_same is) ∙ ap (whole_spec part) (test_same (sym (ap (λ p. p.test) is) ∙ ap (λ p. p.test) also)) ∙ whole_same also

no_more : {part after : Part} → IsGoodAfter part End after → ⊥
no_more good = elim good.adds [ ]

begins_same : {name other : List ℕ} {params others : List ParamText} {a b : Part} → name ≡ other → params ≡ others → Begins name params a → Begins other others b → a ≡ b
begins_same {name = name} {others = others} {a = a} name_is params_are x y =
    begins_one (subst (λ n. Begins n others a) name_is (subst (λ ps. Begins name ps a) params_are x)) y

-- what a good line leads to is as in a specification
good_sound : {stage next : Stage} {line : List ℕ} → IsSound stage → IsGoodLine stage line next → IsSound next
good_sound sound (good_empty has) = sound
good_sound sound (good_first has begins) = begins_valid begins.says.written begins.begins
good_sound sound (good_later has goes) = good_after_valid sound goes.says.written goes.good
good_sound sound (good_end has ends whole) = tt

-- a good line leads to one stage
good_line_one : {stage a b : Stage} {line : List ℕ} → IsSound stage → IsGoodLine stage line a → IsGoodLine stage line b → a ≡ b
good_line_one sound (good_empty has) (good_empty also) = refl
good_line_one sound (good_empty has) (good_first also begins) = absurd (quiet has also begins.says)
good_line_one sound (good_empty has) (good_later also goes) = absurd (quiet has also goes.says)
good_line_one sound (good_empty has) (good_end also ends whole) = absurd (quiet has also ends.says)
good_line_one sound (good_first has begins) (good_empty also) = absurd (quiet also has begins.says)
good_line_one sound (good_first has begins) (good_first also begins') =
    let same = opening_one begins.says (says_along has also begins'.says) in
    ap Within (begins_same same.0 same.1 begins.begins begins'.begins)
good_line_one sound (good_later has goes) (good_empty also) = absurd (quiet also has goes.says)
good_line_one sound (good_later {part = part} {after = after} has goes) (good_later also goes') =
    let same = says_inside_one part goes.says goes.good.stands (says_along has also goes'.says) goes'.good.stands in
    ap Within (good_after_one sound (subst (λ line. IsGoodAfter part line after) same goes.good) goes'.good)
good_line_one sound (good_later {part = part} {after = after} has goes) (good_end also ends whole) =
    let same = says_inside_one part goes.says goes.good.stands (says_along has also ends.says) ends.stands in
    absurd (no_more (subst (λ line. IsGoodAfter part line after) same goes.good))
good_line_one sound (good_end has ends whole) (good_empty also) = absurd (quiet also has ends.says)
good_line_one sound (good_end {part = part} has ends whole) (good_later {after = after} also goes) =
    let same = says_inside_one part goes.says goes.good.stands (says_along also has ends.says) ends.stands in
    absurd (no_more (subst (λ line. IsGoodAfter part line after) same goes.good))
good_line_one sound (good_end has ends whole) (good_end also ends' whole') = ap Whole (whole_one whole whole')

-- good lines lead to one stage
good_lines_sound : {stage next : Stage} {all : List (List ℕ)} → IsSound stage → AreGoodLines stage all next → IsSound next
good_lines_sound sound no_line = sound
good_lines_sound sound (then_line good more) = good_lines_sound (good_sound sound good) more

good_lines_one : {stage a b : Stage} {all : List (List ℕ)} → IsSound stage → AreGoodLines stage all a → AreGoodLines stage all b → a ≡ b
good_lines_one sound no_line no_line = refl
good_lines_one {a = a} sound (then_line {more = more} good goods) (then_line good' goods') =
    good_lines_one (good_sound sound good') (subst (λ stage. AreGoodLines stage more a) (good_line_one sound good good') goods) goods'

-- what good lines lead to before one of them
record Cut (stage : Stage) (front : List (List ℕ)) (line : List ℕ) : Type 0 where
  at : Stage
  next : Stage
  goods : AreGoodLines stage front at
  good : IsGoodLine at line next

cut : {stage after : Stage} {line : List ℕ} (front rest : List (List ℕ)) → AreGoodLines stage (front ++ line ∷ rest) after → Cut stage front line
cut {stage = stage} [] rest (then_line {between = between} good goods) = record { at = stage; next = between; goods = no_line; good = good }
cut (first ∷ front) rest (then_line good goods) = let more = cut front rest goods in record { at = more.at; next = more.next; goods = then_line good more.goods; good = more.good }

-- a good line has no fault
begins_no_fault : {texts : List (List ℕ)} {part : Part} (fault : BlockFault) → fault ≢ Memory → BeginsWith texts part → IsBeginFault texts fault → ⊥
begins_no_fault Syntax real begins is = is begins.name begins.params begins.says
begins_no_fault Name real begins is = begins.begins.free (subst BeginNameFault (opening_one is.2 begins.says).1 is.3)
begins_no_fault Limit real begins is =
    let same = opening_one is.2 begins.says in
    begins.begins.small (subst (BeginLimitFault begins.name) same.1 (subst (λ n. BeginLimitFault n is.1) same.0 is.4))
begins_no_fault Memory real begins is = real refl

goes_no_fault : {texts : List (List ℕ)} {part after : Part} (fault : BlockFault) → fault ≢ Memory → GoesOn part texts after → IsLineFault part texts fault → ⊥
goes_no_fault Syntax real goes is = is goes.line goes.says goes.good.stands
goes_no_fault {part = part} Name real goes is = goes.good.named (subst (LineNameFault part) (says_inside_one part is.1 is.2 goes.says goes.good.stands) is.3)
goes_no_fault {part = part} Limit real goes is = goes.good.small (subst (LineLimitFault part) (says_inside_one part is.1 is.2 goes.says goes.good.stands) is.4)
goes_no_fault Memory real goes is = real refl

ends_no_fault : {texts : List (List ℕ)} {part : Part} (fault : BlockFault) → fault ≢ Memory → Ends part texts → IsLineFault part texts fault → ⊥
ends_no_fault Syntax real ends is = is End ends.says ends.stands
ends_no_fault {part = part} Name real ends is = subst (LineNameFault part) (says_inside_one part is.1 is.2 ends.says ends.stands) is.3
ends_no_fault {part = part} Limit real ends is = subst (LineLimitFault part) (says_inside_one part is.1 is.2 ends.says ends.stands) is.4
ends_no_fault Memory real ends is = real refl

-- a good line isn't bad
good_not_bad : {stage next : Stage} {line : List ℕ} {fault : BlockFault} → fault ≢ Memory → IsGoodLine stage line next → IsBadAt stage line fault → ⊥
good_not_bad real (good_empty has) (bad_byte bad) = bad_byte_no_texts bad has
good_not_bad real (good_first has begins) (bad_byte bad) = bad_byte_no_texts bad has
good_not_bad real (good_later has goes) (bad_byte bad) = bad_byte_no_texts bad has
good_not_bad real (good_end has ends whole) (bad_byte bad) = bad_byte_no_texts bad has
good_not_bad real (good_empty has) (bad_texts also some is) = some (same_texts also has)
good_not_bad real (good_first has begins) (bad_texts {fault = fault} also some is) = begins_no_fault fault real begins (subst (λ texts. IsBeginFault texts fault) (same_texts also has) is)
good_not_bad real (good_later {part = part} has goes) (bad_texts {fault = fault} also some is) = goes_no_fault fault real goes (subst (λ texts. IsLineFault part texts fault) (same_texts also has) is)
good_not_bad real (good_end {part = part} has ends whole) (bad_texts {fault = fault} also some is) = ends_no_fault fault real ends (subst (λ texts. IsLineFault part texts fault) (same_texts also has) is)

-- texts that are no good line have one fault
begin_fault_one : (texts : List (List ℕ)) (f g : BlockFault) → f ≢ Memory → g ≢ Memory → IsBeginFault texts f → IsBeginFault texts g → f ≡ g
begin_fault_one texts Syntax Syntax real also is other = refl
begin_fault_one texts Syntax Name real also is other = absurd (is other.0 other.1 other.2)
begin_fault_one texts Syntax Limit real also is other = absurd (is other.0 other.1 other.2)
begin_fault_one texts Syntax Memory real also is other = absurd (also refl)
begin_fault_one texts Name Syntax real also is other = absurd (other is.0 is.1 is.2)
begin_fault_one texts Name Name real also is other = refl
begin_fault_one texts Name Limit real also is other = absurd (other.3 (subst BeginNameFault (opening_one is.2 other.2).1 is.3))
begin_fault_one texts Name Memory real also is other = absurd (also refl)
begin_fault_one texts Limit Syntax real also is other = absurd (other is.0 is.1 is.2)
begin_fault_one texts Limit Name real also is other = absurd (is.3 (subst BeginNameFault (opening_one other.2 is.2).1 other.3))
begin_fault_one texts Limit Limit real also is other = refl
begin_fault_one texts Limit Memory real also is other = absurd (also refl)
begin_fault_one texts Memory g real also is other = absurd (real refl)

line_fault_one : (part : Part) (texts : List (List ℕ)) (f g : BlockFault) → f ≢ Memory → g ≢ Memory → IsLineFault part texts f → IsLineFault part texts g → f ≡ g
line_fault_one part texts Syntax Syntax real also is other = refl
line_fault_one part texts Syntax Name real also is other = absurd (is other.0 other.1 other.2)
line_fault_one part texts Syntax Limit real also is other = absurd (is other.0 other.1 other.2)
line_fault_one part texts Syntax Memory real also is other = absurd (also refl)
line_fault_one part texts Name Syntax real also is other = absurd (other is.0 is.1 is.2)
line_fault_one part texts Name Name real also is other = refl
line_fault_one part texts Name Limit real also is other = absurd (other.3 (subst (LineNameFault part) (says_inside_one part is.1 is.2 other.1 other.2) is.3))
line_fault_one part texts Name Memory real also is other = absurd (also refl)
line_fault_one part texts Limit Syntax real also is other = absurd (other is.0 is.1 is.2)
line_fault_one part texts Limit Name real also is other = absurd (is.3 (subst (LineNameFault part) (says_inside_one part other.1 other.2 is.1 is.2) other.3))
line_fault_one part texts Limit Limit real also is other = refl
line_fault_one part texts Limit Memory real also is other = absurd (also refl)
line_fault_one part texts Memory g real also is other = absurd (real refl)

whole_fault_one : (s : Specification) (texts : List (List ℕ)) (f g : BlockFault) → f ≢ Memory → g ≢ Memory → IsFaultAt (Whole s) texts f → IsFaultAt (Whole s) texts g → f ≡ g
whole_fault_one s texts Syntax Syntax real also is other = refl
whole_fault_one s texts Syntax Name real also is other = absurd other
whole_fault_one s texts Syntax Limit real also is other = absurd other
whole_fault_one s texts Syntax Memory real also is other = absurd (also refl)
whole_fault_one s texts Name g real also is other = absurd is
whole_fault_one s texts Limit g real also is other = absurd is
whole_fault_one s texts Memory g real also is other = absurd (real refl)

fault_at_one : (stage : Stage) (texts : List (List ℕ)) (f g : BlockFault) → f ≢ Memory → g ≢ Memory → IsFaultAt stage texts f → IsFaultAt stage texts g → f ≡ g
fault_at_one Before texts f g real also is other = begin_fault_one texts f g real also is other
fault_at_one (Within part) texts f g real also is other = line_fault_one part texts f g real also is other
fault_at_one (Whole s) texts f g real also is other = whole_fault_one s texts f g real also is other

-- a bad line has one fault
bad_one : {stage : Stage} {line : List ℕ} {f g : BlockFault} → f ≢ Memory → g ≢ Memory → IsBadAt stage line f → IsBadAt stage line g → f ≡ g
bad_one real also (bad_byte bad) (bad_byte bad') = refl
bad_one real also (bad_byte bad) (bad_texts has some is) = absurd (bad_byte_no_texts bad has)
bad_one real also (bad_texts has some is) (bad_byte bad) = absurd (bad_byte_no_texts bad has)
bad_one {stage = stage} real also (bad_texts {texts = texts} {fault = f} has some is) (bad_texts {fault = g} has' some' other) =
    fault_at_one stage texts f g real also is (subst (λ texts. IsFaultAt stage texts g) (same_texts has' has) other)

same_head : {X : Type 0} {x y : X} {xs ys : List X} → x ∷ xs ≡ y ∷ ys → x ≡ y
same_head same = cc

same_tail : {X : Type 0} {x y : X} {xs ys : List X} → x ∷ xs ≡ y ∷ ys → xs ≡ ys
same_tail same = cc

-- lines have one first bad line, with one fault
first_bad_one : {stage a b : Stage} {line other : List ℕ} {f g : BlockFault} → IsSound stage → f ≢ Memory → g ≢ Memory → (front before rest more : List (List ℕ)) → front ++ line ∷ rest ≡ before ++ other ∷ more
    → AreGoodLines stage front a → IsBadAt a line f → AreGoodLines stage before b → IsBadAt b other g → (length front ≡ length before) × (f ≡ g)
first_bad_one {stage = stage} {g = g} sound real also [] [] rest more same no_line bad no_line bad' = (refl, bad_one real also bad (subst (λ line. IsBadAt stage line g) (sym (same_head same)) bad'))
first_bad_one {stage = stage} {f = f} sound real also [] (first ∷ before) rest more same no_line bad (then_line good goods) bad' = absurd (good_not_bad real good (subst (λ line. IsBadAt stage line f) (same_head same) bad))
first_bad_one {stage = stage} {g = g} sound real also (first ∷ front) [] rest more same (then_line good goods) bad no_line bad' = absurd (good_not_bad also good (subst (λ line. IsBadAt stage line g) (sym (same_head same)) bad'))
first_bad_one {stage = stage} {a = a} sound real also (first ∷ front) (second ∷ before) rest more same (then_line {between = between} good goods) bad (then_line {between = next} good' goods') bad' =
    let led : between ≡ next = good_line_one sound good (subst (λ line. IsGoodLine stage line next) (sym (same_head same)) good') in
    let one = first_bad_one (good_sound sound good') real also front before rest more (same_tail same) (subst (λ stage. AreGoodLines stage front a) led goods) bad goods' bad' in
    (ap (λ n. suc n) one.0, one.1)

spec_same : {s t : Specification} → Whole s ≡ Whole t → s ≡ t
spec_same same = cc

-- bytes write one specification
pub writes_one : (bytes : List ℕ) (s t : Specification) → WritesSpec bytes s → WritesSpec bytes t → s ≡ t
writes_one bytes s t writes also = spec_same (good_lines_one tt writes also)

first_bad_none : {bytes : List ℕ} {stage : Stage} {number : ℕ} {fault : BlockFault} → fault ≢ Memory → AreGoodLines Before (lines bytes) stage → IsFirstBad bytes number fault → ⊥
first_bad_none {stage = stage} {fault = fault} real goods bad =
    let parts = cut bad.front bad.rest (subst (λ all. AreGoodLines Before all stage) bad.parts goods) in
    good_not_bad real parts.good (subst (λ stage. IsBadAt stage bad.line fault) (good_lines_one tt bad.good parts.goods) bad.bad)

wanted_none : {bytes : List ℕ} {s : Specification} {number : ℕ} → WritesSpec bytes s → WantsEnd bytes number → ⊥
wanted_none {s = s} writes wants = wants.no_end s (good_lines_one tt wants.good writes)

syntax_real : Syntax ≢ Memory
syntax_real same = cc

name_real : Name ≢ Memory
name_real same = cc

limit_real : Limit ≢ Memory
limit_real same = cc

-- bytes that write a specification have no fault but want of memory
pub writes_no_fault : (bytes : List ℕ) (s : Specification) (fault : SpecFault) → WritesSpec bytes s → IsSpecFault bytes fault → fault ≡ spec.Memory
writes_no_fault bytes s (spec.Syntax number) writes (inl bad) = absurd (first_bad_none syntax_real writes bad)
writes_no_fault bytes s (spec.Syntax number) writes (inr wants) = absurd (wanted_none writes wants)
writes_no_fault bytes s (spec.Name number) writes bad = absurd (first_bad_none name_real writes bad)
writes_no_fault bytes s (spec.Limit number) writes bad = absurd (first_bad_none limit_real writes bad)
writes_no_fault bytes s spec.Memory writes is = refl

numbers_one : {bytes : List ℕ} {m n : ℕ} {f g : BlockFault} → f ≢ Memory → g ≢ Memory → IsFirstBad bytes m f → IsFirstBad bytes n g → (m ≡ n) × (f ≡ g)
numbers_one real also bad other =
    let same = first_bad_one tt real also bad.front other.front bad.rest other.rest (sym bad.parts ∙ other.parts) bad.good bad.bad other.good other.bad in
    (bad.counted ∙ ap (λ k. k + 1) same.0 ∙ sym other.counted, same.1)

wants_first : {bytes : List ℕ} {m n : ℕ} {f : BlockFault} → f ≢ Memory → WantsEnd bytes m → IsFirstBad bytes n f → ⊥
wants_first real wants bad = first_bad_none real wants.good bad

syntax_name : Syntax ≡ Name → ⊥
syntax_name same = cc

syntax_limit : Syntax ≡ Limit → ⊥
syntax_limit same = cc

name_limit : Name ≡ Limit → ⊥
name_limit same = cc

-- bytes have one fault but want of memory
pub fault_one : (bytes : List ℕ) (f g : SpecFault) → f ≢ spec.Memory → g ≢ spec.Memory → IsSpecFault bytes f → IsSpecFault bytes g → f ≡ g
fault_one bytes (spec.Syntax m) (spec.Syntax n) real also (inl bad) (inl other) = ap spec.Syntax (numbers_one syntax_real syntax_real bad other).0
fault_one bytes (spec.Syntax m) (spec.Syntax n) real also (inl bad) (inr wants) = absurd (wants_first syntax_real wants bad)
fault_one bytes (spec.Syntax m) (spec.Syntax n) real also (inr wants) (inl bad) = absurd (wants_first syntax_real wants bad)
fault_one bytes (spec.Syntax m) (spec.Syntax n) real also (inr wants) (inr others) = ap spec.Syntax (wants.counted ∙ sym others.counted)
fault_one bytes (spec.Syntax m) (spec.Name n) real also (inl bad) other = absurd (syntax_name (numbers_one syntax_real name_real bad other).1)
fault_one bytes (spec.Syntax m) (spec.Name n) real also (inr wants) other = absurd (wants_first name_real wants other)
fault_one bytes (spec.Syntax m) (spec.Limit n) real also (inl bad) other = absurd (syntax_limit (numbers_one syntax_real limit_real bad other).1)
fault_one bytes (spec.Syntax m) (spec.Limit n) real also (inr wants) other = absurd (wants_first limit_real wants other)
fault_one bytes (spec.Syntax m) spec.Memory real also is other = absurd (also refl)
fault_one bytes (spec.Name m) (spec.Syntax n) real also bad (inl other) = absurd (syntax_name (numbers_one syntax_real name_real other bad).1)
fault_one bytes (spec.Name m) (spec.Syntax n) real also bad (inr wants) = absurd (wants_first name_real wants bad)
fault_one bytes (spec.Name m) (spec.Name n) real also bad other = ap spec.Name (numbers_one name_real name_real bad other).0
fault_one bytes (spec.Name m) (spec.Limit n) real also bad other = absurd (name_limit (numbers_one name_real limit_real bad other).1)
fault_one bytes (spec.Name m) spec.Memory real also is other = absurd (also refl)
fault_one bytes (spec.Limit m) (spec.Syntax n) real also bad (inl other) = absurd (syntax_limit (numbers_one syntax_real limit_real other bad).1)
fault_one bytes (spec.Limit m) (spec.Syntax n) real also bad (inr wants) = absurd (wants_first limit_real wants bad)
fault_one bytes (spec.Limit m) (spec.Name n) real also bad other = absurd (name_limit (numbers_one name_real limit_real other bad).1)
fault_one bytes (spec.Limit m) (spec.Limit n) real also bad other = ap spec.Limit (numbers_one limit_real limit_real bad other).0
fault_one bytes (spec.Limit m) spec.Memory real also is other = absurd (also refl)
fault_one bytes spec.Memory g real also is other = absurd (real refl)
