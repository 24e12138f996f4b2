-- Whether texts are those of a line that may stand, and whether the line is bad, is decided.
use Rattle.std.proofs.Common.{◌≡◌, ℕ, ◌⊎◌, inl, inr, false, true, List, [], ◌∷◌, Option, Some, None, length, refl, ap, ap₂, ◌∙◌}
use Rattle.std.specs.Prelude.{Contains, codes, IfSome, IsSome}
use Rattle.std.proofs.Math.Decide.{map_dec, dec_le, dec_lt}
use Rattle.hk_kinds.specs.declared.kinds.Kind.{Kind}
use Rattle.hk_spec.specs.Names.{reserved_words, are_distinct}
use Rattle.hk_spec.specs.declared.expressions.Side.{Side}
use Rattle.hk_spec.specs.declared.expressions.Side.TheVariants.{Down, Up}
use Rattle.hk_spec.specs.declared.parts.PropDecl.{PropDecl}
use Rattle.hk_text.specs.Lexemes.{IsWord}
use Rattle.hk_terms.specs.CondTexts.{CondText, cond_texts, IsCondText}
use Rattle.hk_parse.specs.inside.Headers.{AreParams}
use Rattle.hk_parse.specs.LineTexts.{ParamText, InitText, StepText, LineText, Begin, Property, Test, Step, End, side_word, step_texts, IsInitText, IsStepText, HasForm, SaysLine}
use Rattle.hk_print.specs.Printed.{kind_word}
use Rattle.hk_parse.specs.BlockLines.{Part, part_names, due, test_names, step_names, param_names, side_of, MayStand, BeginNameFault, BeginLimitFault, LineNameFault, LineLimitFault}
use Rattle.hk_parse.proofs.LineReadings.{InitForm, min_number, max_number, two_numbers, some_numbers, all_numbers, init_form, StepForm, min_step, max_step, two_steps, some_step, all_step, step_form}
use Rattle.hk_text.proofs.Deciding.{dec_true, dec_false, dec_both, dec_either, dec_not, dec_none, dec_any, dec_empty, dec_text, dec_word, Begins, dec_begins, After, dec_after}
use Rattle.hk_terms.proofs.DecidingFacts.{dec_listed}
use Rattle.hk_exprs.proofs.DecidingTexts.{dec_cond}
use Rattle.hk_parse.proofs.DecidingParts.{dec_alone, dec_kind, dec_params, Inits, dec_init, Moves, dec_moves}
use Rattle.hk_parse.proofs.DecidingNames.{dec_names_cond, dec_names_step, dec_within_cond, dec_small_step, dec_small_init, dec_if_some}

-- the parts of a first line
abbrev Opening : List (List ℕ) → Type 0
Opening texts = After (codes "spec") (Begins (λ name rest. IsWord name × After (codes "(") (λ more. (params : List ParamText) × AreParams more params) rest)) texts

-- whether texts are those of a first line
pub dec_opening : (texts : List (List ℕ)) → Dec ((name : List ℕ) × (params : List ParamText) × SaysLine texts (Begin name params))
dec_opening texts = map_dec to (λ some. from some.0 some.1 some.2)
    (dec_after (codes "spec") _ (dec_begins _ (λ name rest. dec_both (dec_word name) (dec_after (codes "(") _ dec_params rest))) texts)
  where
    to : Opening texts → (name : List ℕ) × (params : List ParamText) × SaysLine texts (Begin name params)
    to (rest, spec, (name, more, named, (word, (inner, open_is, (params, are))))) = (
      name,
      params,
      record {
        texts_are = spec ∙ ap (λ ts. codes "spec" ∷ ts) (named ∙ ap (λ ts. name ∷ ts) (open_is ∙ ap (λ ts. codes "(" ∷ ts) are.texts_are));
        written = (word, are.words);
      },
    )

    from : (name : List ℕ) (params : List ParamText) → SaysLine texts (Begin name params) → Opening texts
    from name params says = (_, says.texts_are, (name, _, refl, (says.written.0, (_, refl, (params, record { texts_are = refl; words = says.written.1 })))))

-- the parts of a property of a side
abbrev SaysProperty : Side → List (List ℕ) → Type 0
SaysProperty side texts = After (side_word side) (Begins (λ name rest. IsWord name × Begins (λ word more. (kind : Kind) × ((word ≡ kind_word kind) × Inits kind more)) rest)) texts

dec_property : (side : Side) (texts : List (List ℕ)) → Dec (SaysProperty side texts)
dec_property side texts = dec_after (side_word side) _ (dec_begins _ (λ name rest. dec_both (dec_word name) (dec_begins _ (λ word more. dec_kind _ (λ kind. dec_both (dec_text word (kind_word kind)) (dec_init kind more))) rest))) texts

init_written : {kind : Kind} {init : InitText} → InitForm kind init → IsInitText kind init
init_written (min_number is) = is
init_written (max_number is) = is
init_written (two_numbers low high) = (low, high)
init_written (some_numbers rising) = rising
init_written (all_numbers rising) = rising

property_to : (side : Side) (texts : List (List ℕ)) → SaysProperty side texts → (name : List ℕ) × (kind : Kind) × (init : InitText) × SaysLine texts (Property side name kind init)
property_to side texts (rest, side_is, (name, more, named, (word, (text, last, kinded, (kind, (kind_is, (init, form, same))))))) = (
  name,
  kind,
  init,
  record {
    texts_are = side_is ∙ ap (λ ts. side_word side ∷ ts) (named ∙ ap (λ ts. name ∷ ts) (kinded ∙ ap₂ (λ t ts. t ∷ ts) kind_is same));
    written = (word, init_written form);
  },
)

property_from : (side : Side) (texts : List (List ℕ)) {name : List ℕ} {kind : Kind} {init : InitText} → SaysLine texts (Property side name kind init) → SaysProperty side texts
property_from side texts {name = name} {kind = kind} {init = init} says =
    (_, says.texts_are, (name, _, refl, (says.written.0, (kind_word kind, _, refl, (kind, (refl, (init, init_form kind init says.written.1, refl)))))))

-- the parts of a test
abbrev SaysTest : List (List ℕ) → Type 0
SaysTest texts = After (codes "test") (λ rest. (c : CondText) × IsCondText c × (rest ≡ cond_texts c)) texts

-- the parts of the step that is due
abbrev DueMoves : Option PropDecl → List (List ℕ) → Type 0
DueMoves None texts = ⊥
DueMoves (Some p) texts = Moves p.kind texts

dec_due_moves : (o : Option PropDecl) (texts : List (List ℕ)) → Dec (DueMoves o texts)
dec_due_moves None texts = no (λ none. none)
dec_due_moves (Some p) texts = dec_moves p.kind texts

abbrev SaysStep : Part → List (List ℕ) → Type 0
SaysStep part texts = After (codes "step") (Begins (λ name rest. IsWord name × DueMoves (due part) rest)) texts

step_formed : {kind : Kind} {step : StepText} → StepForm kind step → HasForm kind step × IsStepText step
step_formed (min_step is) = (tt, is)
step_formed (max_step is) = (tt, is)
step_formed (two_steps low high) = (tt, (low, high))
step_formed (some_step is) = (tt, is)
step_formed (all_step is) = (tt, is)

due_to : (o : Option PropDecl) (texts : List (List ℕ)) → DueMoves o texts → (step : StepText) × (IsSome o × IfSome o (λ p. HasForm p.kind step)) × (IsStepText step × (texts ≡ step_texts step))
due_to None texts none = absurd none
due_to (Some p) texts (step, form, same) = let formed = step_formed form in (step, (refl, formed.0), (formed.1, same))

due_from : (o : Option PropDecl) (texts : List (List ℕ)) (step : StepText) → IsSome o → IfSome o (λ p. HasForm p.kind step) → IsStepText step → texts ≡ step_texts step → DueMoves o texts
due_from None texts step some form is same = let none : false ≡ true = some in cc
due_from (Some p) texts step some form is same = (step, step_form p.kind step form is, same)

-- the lines that may stand after the first
abbrev Inside : Part → List (List ℕ) → Type 0
Inside part texts = (text : LineText) × SaysLine texts text × MayStand part text

abbrev Lines : Part → List (List ℕ) → Type 0
Lines part texts =
    (((part.test ≡ None) × (part.up ≡ [])) × SaysProperty Down texts)
    ⊎ (((part.test ≡ None) × SaysProperty Up texts)
    ⊎ (((part.test ≡ None) × SaysTest texts)
    ⊎ ((IsSome part.test × SaysStep part texts)
    ⊎ ((IsSome part.test × (due part ≡ None)) × (texts ≡ codes "end" ∷ [])))))

lines_inside : (part : Part) (texts : List (List ℕ)) → Lines part texts → Inside part texts
lines_inside part texts (inl (stands, says)) = let (name, kind, init, line) = property_to Down texts says in (Property Down name kind init, line, stands)
lines_inside part texts (inr (inl (stands, says))) = let (name, kind, init, line) = property_to Up texts says in (Property Up name kind init, line, stands)
lines_inside part texts (inr (inr (inl (stands, (rest, test, (c, is, same)))))) = (Test c, record { texts_are = test ∙ ap (λ ts. codes "test" ∷ ts) same; written = is }, stands)
lines_inside part texts (inr (inr (inr (inl (tested, (rest, word, (name, more, named, (letter, moves)))))))) =
    let (step, stands, says) = due_to (due part) more moves in (
      Step name step,
      record { texts_are = word ∙ ap (λ ts. codes "step" ∷ ts) (named ∙ ap (λ ts. name ∷ ts) says.1); written = (letter, says.0) },
      (tested, stands.0, stands.1),
    )
lines_inside part texts (inr (inr (inr (inr (stands, same))))) = (End, record { texts_are = same; written = tt }, stands)

inside_lines : (part : Part) (texts : List (List ℕ)) (text : LineText) → SaysLine texts text → MayStand part text → Lines part texts
inside_lines part texts (Begin name params) says stands = absurd stands
inside_lines part texts (Property Down name kind init) says stands = inl (stands, property_from Down texts says)
inside_lines part texts (Property Up name kind init) says stands = inr (inl (stands, property_from Up texts says))
inside_lines part texts (Test test) says stands = inr (inr (inl (stands, (cond_texts test, says.texts_are, (test, says.written, refl)))))
inside_lines part texts (Step name step) says stands =
    inr (inr (inr (inl (stands.0, (name ∷ step_texts step, says.texts_are, (name, step_texts step, refl, (says.written.0, due_from (due part) (step_texts step) step stands.1 stands.2 says.written.1 refl)))))))
inside_lines part texts End says stands = inr (inr (inr (inr (stands, says.texts_are))))

-- whether texts are those of a line that may stand after the first
pub dec_inside : (part : Part) (texts : List (List ℕ)) → Dec ((text : LineText) × SaysLine texts text × MayStand part text)
dec_inside part texts = map_dec (lines_inside part texts) (λ some. inside_lines part texts some.0 some.1 some.2)
    (dec_either (dec_both (dec_both (dec_none part.test) (dec_empty part.up)) (dec_property Down texts))
    (dec_either (dec_both (dec_none part.test) (dec_property Up texts))
    (dec_either (dec_both (dec_none part.test) (dec_after (codes "test") _ dec_cond texts))
    (dec_either (dec_both (dec_true _) (dec_after (codes "step") _ (dec_begins _ (λ name rest. dec_both (dec_word name) (dec_due_moves (due part) rest))) texts))
    (dec_both (dec_both (dec_true _) (dec_none (due part))) (dec_alone (codes "end") texts))))))

-- whether a name of the first line is taken
pub dec_begin_name : (params : List ParamText) → Dec (BeginNameFault params)
dec_begin_name params = dec_either (dec_any (Contains reserved_words) (dec_listed reserved_words) (param_names params)) (dec_false (are_distinct (param_names params)))

-- whether a quantity of the first line passes its limit
pub dec_begin_limit : (name : List ℕ) (params : List ParamText) → Dec (BeginLimitFault name params)
dec_begin_limit name params = dec_either (dec_lt 32 (length name)) (dec_either (dec_any _ (λ p. dec_lt 32 (length p.name)) params) (dec_lt 16 (length params)))

-- whether a name of a line is taken, or stands for something else than its place asks
pub dec_line_name : (part : Part) (text : LineText) → Dec (LineNameFault part text)
dec_line_name part (Begin name params) = no (λ none. none)
dec_line_name part (Property side name kind init) = dec_either (dec_listed reserved_words name) (dec_listed (part_names part) name)
dec_line_name part (Test test) = dec_not (dec_names_cond (test_names part) test)
dec_line_name part (Step name step) = dec_not (dec_if_some _ (λ p. dec_both (dec_text p.name name) (dec_names_step (step_names part) step)) (due part))
dec_line_name part End = no (λ none. none)

-- whether a quantity of a line passes its limit
pub dec_line_limit : (part : Part) (text : LineText) → Dec (LineLimitFault part text)
dec_line_limit part (Begin name params) = no (λ none. none)
dec_line_limit part (Property side name kind init) = dec_either (dec_lt 32 (length name)) (dec_either (dec_le 32 (length (side_of part side))) (dec_not (dec_small_init init)))
dec_line_limit part (Test test) = dec_not (dec_within_cond test)
dec_line_limit part (Step name step) = dec_not (dec_small_step step)
dec_line_limit part End = no (λ none. none)
