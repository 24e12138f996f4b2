-- What a good line adds to what is read so far, printed again, is one line more with its tokens.
use Rattle.std.proofs.Common.{◌≡◌, ℕ, ◌+◌, ◌≤◌, ◌<◌, nat_lt, if◌then◌else◌, Bool, true, false, List, [], ◌∷◌, ◌++◌, length, Option, None, Some, IsSome, slice_get, refl, sym, ap, ◌∙◌, subst, arith}
use Rattle.std.specs.Prelude.{codes}
use Rattle.std.proofs.lemmas.Bool.{both_ways}
use Rattle.std.proofs.lemmas.Bool.Decides.{nat_tests}
use Rattle.std.proofs.lemmas.List.{length-append}
use Rattle.hk_spec.specs.Scopes.{is_good_cond}
use Rattle.hk_spec.specs.Specifications.{is_step}
use Rattle.hk_spec.specs.declared.expressions.Cond.{Cond}
use Rattle.hk_spec.specs.declared.expressions.Side.TheVariants.{Down, Up}
use Rattle.hk_spec.specs.declared.parts.PropDecl.{PropDecl}
use Rattle.hk_spec.specs.declared.parts.StepExpr.{StepExpr}
use Rattle.hk_parse.specs.BlockLines.{Part, due, test_names, step_names, MayStand, with_property, with_step, Adds, adds_property, adds_test, adds_step}
use Rattle.hk_terms.specs.Names.{scope_of}
use Rattle.hk_print.specs.Expressions.{Naming, cond_pieces}
use Rattle.hk_parse.specs.LineTexts.{LineText, Property, Test, Step, line_texts}
use Rattle.hk_print.specs.Pieces.{piece, tokens_of}
use Rattle.hk_print.specs.Printed.{property_line, step_line}
use Rattle.hk_parse.specs.LineTrees.{init_text, step_text}
use Rattle.hk_terms.specs.Trees.{cond_text}
use Rattle.hk_parse.proofs.LineTokens.{property_tokens, test_tokens, step_tokens}
use Rattle.hk_parse.proofs.NamesOfSpecs.{naming_for, all_covered, down_covered, up_covered}
use Rattle.hk_parse.proofs.PartsPrinted.{test_lines, declared_lines, declared_down, declared_up, part_lines, no_steps, untested_lines, down_step_lines, up_step_lines, AreInOrder, got_first, got_second}
use Rattle.hk_parse.proofs.PrintedTexts.{Covers}

-- what a line adds is one printed line more, with the tokens of the line
pub record AddsPrinted (part after : Part) (texts : List (List ℕ)) : Type 0 where
  pub line : List (List (List ℕ))
  pub lines_are : part_lines after ≡ part_lines part ++ line ∷ []
  pub tokens_are : tokens_of line ≡ texts
  pub ordered : AreInOrder after

below_tested : (m n : ℕ) → nat_lt m n ≡ true → m < n
below_tested m n test = grind (arith, nat_tests)

over_tested : (m n : ℕ) → nat_lt m n ≡ false → n ≤ m
over_tested m n test = grind (arith, nat_tests)

module _ (part : Part) (order : AreInOrder part) where
  abbrev naming : Naming
  naming = naming_for part.params part.down part.up

  abbrev declared : List (List (List (List ℕ)))
  declared = declared_lines part.name part.params part.down part.up

  module _ (none : part.test ≡ None) where
    lines_before : part_lines part ≡ declared
    lines_before = let steps = order.untested none in untested_lines naming declared part.down part.up none steps.0 steps.1

    -- a property of the down side, where none of the up side stands yet
    down_declared : (p : PropDecl) → part.up ≡ [] → AddsPrinted part (with_property part Down p) (line_texts (Property Down p.name p.kind (init_text p.init)))
    down_declared p alone =
        let tokens = property_tokens Down p in
        let steps = order.untested none in
        record {
          line = property_line (codes "down") p;
          lines_are =
              untested_lines (naming_for part.params (part.down ++ p ∷ []) part.up) (declared_lines part.name part.params (part.down ++ p ∷ []) part.up) (part.down ++ p ∷ []) part.up none steps.0 steps.1
              ∙ declared_down part.name part.params part.down part.up p alone
              ∙ ap (λ lines. lines ++ property_line (codes "down") p ∷ []) (sym lines_before);
          tokens_are = tokens.are;
          ordered = record { untested = order.untested; down_first = λ below. steps.1; few = omega (arith, ap (λ ds. length ds) steps.0) };
        }

    -- a property of the up side
    up_declared : (p : PropDecl) → AddsPrinted part (with_property part Up p) (line_texts (Property Up p.name p.kind (init_text p.init)))
    up_declared p =
        let tokens = property_tokens Up p in
        let steps = order.untested none in
        record {
          line = property_line (codes "up") p;
          lines_are =
              untested_lines (naming_for part.params part.down (part.up ++ p ∷ [])) (declared_lines part.name part.params part.down (part.up ++ p ∷ [])) part.down (part.up ++ p ∷ []) none steps.0 steps.1
              ∙ declared_up part.name part.params part.down part.up p
              ∙ ap (λ lines. lines ++ property_line (codes "up") p ∷ []) (sym lines_before);
          tokens_are = tokens.are;
          ordered = record { untested = order.untested; down_first = λ below. steps.1; few = order.few };
        }

    -- the test
    test_added : (c : Cond) → is_good_cond (scope_of (test_names part)) c ≡ true → AddsPrinted part (record part { test = Some c }) (line_texts (Test (cond_text (test_names part) c)))
    test_added c good =
        let tokens = test_tokens (all_covered part.params part.down part.up) c good in
        let steps = order.untested none in
        record {
          line = piece (codes "test") ++ cond_pieces naming c;
          lines_are =
              no_steps naming declared part.down part.up ((piece (codes "test") ++ cond_pieces naming c) ∷ []) steps.0 steps.1
              ∙ ap (λ lines. lines ++ (piece (codes "test") ++ cond_pieces naming c) ∷ []) (sym lines_before);
          tokens_are = tokens.are;
          ordered = record { untested = λ is. cc; down_first = order.down_first; few = order.few };
        }

  step_covers : Covers naming (step_names part)
  step_covers = by (nat_lt (length part.down_step) (length part.down))
    where
      by : (test : Bool) → Covers naming (if test then record { params = part.params; down = part.down; up = [] } else record { params = part.params; down = []; up = part.up })
      by true = down_covered part.params part.down part.up
      by false = up_covered part.params part.down part.up

  module _ (tested : IsSome part.test) where
    untested_never : {P : Type 0} → part.test ≡ None → P
    untested_never none = let never : false ≡ true = subst (λ (test : Option Cond). IsSome test) none tested in absurd (both_ways _ refl never)

    -- the step that is due
    step_added : (p : PropDecl) (e : StepExpr) → due part ≡ Some p → is_step (scope_of (step_names part)) p.kind e ≡ true → AddsPrinted part (with_step part e) (line_texts (Step p.name (step_text (step_names part) e)))
    step_added p e is good = by (nat_lt (length part.down_step) (length part.down)) refl
      where
        by : (test : Bool) → nat_lt (length part.down_step) (length part.down) ≡ test
            → AddsPrinted part (if test then record part { down_step = part.down_step ++ e ∷ [] } else record part { up_step = part.up_step ++ e ∷ [] }) (line_texts (Step p.name (step_text (step_names part) e)))
        by true test =
            let tokens = step_tokens step_covers p e good in
            let below = below_tested (length part.down_step) (length part.down) test in
            let alone = order.down_first below in
            let place : length part.down_step + length part.up_step ≡ length part.down_step = omega (arith, ap (λ us. length us) alone) in
            let got = got_first part.down part.up (length part.down_step) p below (ap (slice_get (part.down ++ part.up)) (sym place) ∙ is) in
            record {
              line = step_line naming p e;
              lines_are = down_step_lines naming declared part.down part.up (test_lines naming part.test) part.down_step part.up_step p e alone got;
              tokens_are = tokens.are;
              ordered = record { untested = λ none. untested_never none; down_first = λ more. alone; few = omega (arith, below, length-append part.down_step (e ∷ [])) };
            }
        by false test =
            let tokens = step_tokens step_covers p e good in
            let over = over_tested (length part.down_step) (length part.down) test in
            let place : length part.down_step + length part.up_step ≡ length part.down + length part.up_step = omega (arith, over, order.few) in
            let got = sym (got_second part.down part.up (length part.down_step + length part.up_step) (length part.up_step) place) ∙ is in
            record {
              line = step_line naming p e;
              lines_are = up_step_lines naming declared part.down part.up (test_lines naming part.test) part.down_step part.up_step p e got;
              tokens_are = tokens.are;
              ordered = record { untested = λ none. untested_never none; down_first = λ below. let never : ⊥ = omega (arith, below, over) in absurd never; few = order.few };
            }

-- what a good line adds
pub line_added : {part after : Part} {line : LineText} → AreInOrder part → MayStand part line → Adds part line after → AddsPrinted part after (line_texts line)
line_added {part = part} order stands (adds_property {side = Down} {name = name} {kind = kind} {value = value} written of_kind) =
    subst (λ init. AddsPrinted part (with_property part Down (record { name = name; kind = kind; init = value })) (line_texts (Property Down name kind init))) written (down_declared part order stands.0 (record { name = name; kind = kind; init = value }) stands.1)
line_added {part = part} order stands (adds_property {side = Up} {name = name} {kind = kind} {value = value} written of_kind) =
    subst (λ init. AddsPrinted part (with_property part Up (record { name = name; kind = kind; init = value })) (line_texts (Property Up name kind init))) written (up_declared part order stands (record { name = name; kind = kind; init = value }))
line_added {part = part} order stands (adds_test {c = c} good) = test_added part order stands c good
line_added {part = part} order stands (adds_step {p = p} e is good) = step_added part order stands.0 p e is good
