-- Printed lines that are good after the lines before them.
use Rattle.std.proofs.Common.{◌≡◌, ℕ, zero, suc, ◌≤◌, ◌<◌, true, List, [], ◌∷◌, ◌++◌, length, None, Some, IfSome, IsSome, slice_get, inl, inr, ◌⊎◌, refl, sym, subst, arith}
use Rattle.std.specs.Prelude.{codes}
use Rattle.hk_kinds.specs.Shapes.{IsOfKind}
use Rattle.hk_spec.specs.Scopes.{is_good_cond}
use Rattle.hk_spec.specs.Specifications.{is_step}
use Rattle.hk_spec.specs.declared.expressions.Cond.{Cond}
use Rattle.hk_spec.specs.declared.expressions.Side.{Side}
use Rattle.hk_spec.specs.declared.parts.PropDecl.{PropDecl}
use Rattle.hk_spec.specs.declared.parts.StepExpr.{StepExpr}
use Rattle.hk_text.specs.Lexemes.{IsWord}
use Rattle.hk_parse.specs.BlockFaults.{GoesOn}
use Rattle.hk_parse.specs.BlockLines.{Part, part_names, due, test_names, step_names, side_of, MayStand, NamesStep, SmallInit, with_property, with_step, adds_property, adds_test, adds_step}
use Rattle.hk_terms.specs.Names.{scope_of}
use Rattle.hk_print.specs.Expressions.{Naming, cond_pieces}
use Rattle.hk_parse.specs.LineTexts.{Property, Test, Step, side_word, HasForm}
use Rattle.hk_print.specs.Pieces.{piece, tokens_of}
use Rattle.hk_print.specs.Printed.{property_line, step_line}
use Rattle.hk_parse.specs.LineTrees.{init_text, step_text}
use Rattle.hk_terms.specs.Trees.{cond_text}
use Rattle.hk_parse.proofs.FittingLines.{init_written, init_small, step_fitting, cond_fitting}
use Rattle.hk_parse.proofs.FittingTexts.{AreWords}
use Rattle.hk_parse.proofs.LineTokens.{property_tokens, test_tokens, step_tokens}
use Rattle.hk_parse.proofs.NamesOfSpecs.{IsNewName}
use Rattle.hk_parse.proofs.PrintedTexts.{Covers}

-- what stands after others stands at their number
pub got_after : {X : Type 0} (xs : List X) (x : X) (ys : List X) (place : ℕ) → place ≡ length xs → slice_get (xs ++ x ∷ ys) place ≡ Some x
got_after [] x ys zero is = refl
got_after [] x ys (suc place) is = let never : ⊥ = omega (arith, is) in absurd never
got_after (first ∷ xs) x ys zero is = let never : ⊥ = omega (arith, is) in absurd never
got_after (first ∷ xs) x ys (suc place) is = got_after xs x ys place (omega (arith, is))

-- the line of a property with a new name is good after those before it, up properties after down ones, and all before the test
pub property_goes_on : (part : Part) (side : Side) (p : PropDecl) → MayStand part (Property side p.name p.kind (init_text p.init)) → IsNewName (part_names part) p.name → length (side_of part side) < 32 → IsOfKind p.kind p.init
    → GoesOn part (tokens_of (property_line (side_word side) p)) (with_property part side p)
property_goes_on part side p stands new few of_kind =
    let tokens = property_tokens side p in
    record {
      line = Property side p.name p.kind (init_text p.init);
      says = record { texts_are = tokens.are; written = (new.word, init_written of_kind) };
      good = record { stands = stands; named = new.free; small = small; adds = adds_property refl of_kind };
    }
  where
    small : (32 < length p.name) ⊎ ((32 ≤ length (side_of part side)) ⊎ (SmallInit (init_text p.init) → ⊥)) → ⊥
    small (inl long) = omega (arith, long, new.short)
    small (inr (inl many)) = omega (arith, many, few)
    small (inr (inr large)) = large (init_small of_kind)

-- the line of a good test is good after the properties
pub test_goes_on : (part : Part) (naming : Naming) (c : Cond) → part.test ≡ None → Covers naming (test_names part) → AreWords (test_names part) → is_good_cond (scope_of (test_names part)) c ≡ true
    → GoesOn part (tokens_of (piece (codes "test") ++ cond_pieces naming c)) (record part { test = Some c })
test_goes_on part naming c none covers words good =
    let tokens = test_tokens covers c good in
    let fitting = cond_fitting words c good in
    record {
      line = Test (cond_text (test_names part) c);
      says = record { texts_are = tokens.are; written = fitting.written };
      good = record { stands = none; named = λ fails. fails fitting.named; small = λ fails. fails fitting.small; adds = adds_test good };
    }

-- the line of the step that is due is good
pub step_goes_on : (part : Part) (naming : Naming) (p : PropDecl) (e : StepExpr) → IsSome part.test → due part ≡ Some p → IsWord p.name → Covers naming (step_names part) → AreWords (step_names part) → is_step (scope_of (step_names part)) p.kind e ≡ true
    → GoesOn part (tokens_of (step_line naming p e)) (with_step part e)
step_goes_on part naming p e tested is word covers words good =
    let tokens = step_tokens covers p e good in
    let fitting = step_fitting words p.kind e good in
    let stands : IsSome (due part) × IfSome (due part) (λ q. HasForm q.kind (step_text (step_names part) e)) = subst (λ d. IsSome d × IfSome d (λ q. HasForm q.kind (step_text (step_names part) e))) (sym is) (refl, fitting.form) in
    let named : IfSome (due part) (λ q. (q.name ≡ p.name) × NamesStep (step_names part) (step_text (step_names part) e)) = subst (λ d. IfSome d (λ q. (q.name ≡ p.name) × NamesStep (step_names part) (step_text (step_names part) e))) (sym is) (refl, fitting.named) in
    record {
      line = Step p.name (step_text (step_names part) e);
      says = record { texts_are = tokens.are; written = (word, fitting.written) };
      good = record { stands = (tested, stands.0, stands.1); named = λ fails. fails named; small = λ fails. fails fitting.small; adds = adds_step e is good };
    }
