-- The lines that have been read so far, as they are printed.
use Rattle.std.proofs.Common.{◌≡◌, ℕ, zero, suc, ◌+◌, ◌≤◌, ◌<◌, List, [], ◌∷◌, ◌++◌, length, map, Option, None, Some, slice_get, refl, sym, ap, ◌∙◌, arith, append_assoc, append-nil}
use Rattle.std.specs.Prelude.{codes}
use Rattle.std.proofs.lemmas.List.{map-append}
use Rattle.hk_spec.specs.declared.expressions.Cond.{Cond}
use Rattle.hk_spec.specs.declared.parts.Param.{Param}
use Rattle.hk_spec.specs.declared.parts.PropDecl.{PropDecl}
use Rattle.hk_spec.specs.declared.parts.StepExpr.{StepExpr}
use Rattle.hk_parse.specs.BlockLines.{Part}
use Rattle.hk_print.specs.Expressions.{Naming, cond_pieces}
use Rattle.hk_print.specs.Pieces.{piece}
use Rattle.hk_print.specs.Printed.{params_pieces, property_line, step_line, step_lines}
use Rattle.hk_parse.proofs.NamesOfSpecs.{naming_for, none_there}

-- the line of the test, where there is one
abbrev pub test_lines : Naming → Option Cond → List (List (List (List ℕ)))
test_lines naming None = []
test_lines naming (Some c) = (piece (codes "test") ++ cond_pieces naming c) ∷ []

-- the first line and those of the properties
abbrev pub declared_lines : List ℕ → List Param → List PropDecl → List PropDecl → List (List (List (List ℕ)))
declared_lines name params down up = (piece (codes "spec") ++ (piece name ++ params_pieces params)) ∷ (map (property_line (codes "down")) down ++ map (property_line (codes "up")) up)

-- the lines of what is read so far
abbrev pub part_lines : Part → List (List (List (List ℕ)))
part_lines part =
    declared_lines part.name part.params part.down part.up
    ++ (test_lines (naming_for part.params part.down part.up) part.test
    ++ (step_lines (naming_for part.params part.down part.up) part.down part.down_step ++ step_lines (naming_for part.params part.down part.up) part.up part.up_step))

-- a property more is one line more, of the down side where none of the up side stands yet
pub declared_down : (name : List ℕ) (params : List Param) (down up : List PropDecl) (p : PropDecl) → up ≡ [] → declared_lines name params (down ++ p ∷ []) up ≡ declared_lines name params down up ++ property_line (codes "down") p ∷ []
declared_down name params down up p alone =
    ap (declared_lines name params (down ++ p ∷ [])) alone
    ∙ ap (λ lines. first ∷ (lines ++ [])) (map-append (property_line (codes "down")) down (p ∷ []))
    ∙ regroup (map (property_line (codes "down")) down) (property_line (codes "down") p)
    ∙ ap (λ ps. declared_lines name params down ps ++ property_line (codes "down") p ∷ []) (sym alone)
  where
    first : List (List (List ℕ))
    first = piece (codes "spec") ++ (piece name ++ params_pieces params)

    regroup : (lines : List (List (List (List ℕ)))) (line : List (List (List ℕ))) → first ∷ ((lines ++ line ∷ []) ++ []) ≡ (first ∷ (lines ++ [])) ++ line ∷ []
    regroup lines line = simp (append_assoc, append-nil)

-- and of the up side
pub declared_up : (name : List ℕ) (params : List Param) (down up : List PropDecl) (p : PropDecl) → declared_lines name params down (up ++ p ∷ []) ≡ declared_lines name params down up ++ property_line (codes "up") p ∷ []
declared_up name params down up p =
    ap (λ lines. first ∷ (map (property_line (codes "down")) down ++ lines)) (map-append (property_line (codes "up")) up (p ∷ []))
    ∙ sym (append_assoc (first ∷ map (property_line (codes "down")) down) (map (property_line (codes "up")) up) (property_line (codes "up") p ∷ []))
  where
    first : List (List (List ℕ))
    first = piece (codes "spec") ++ (piece name ++ params_pieces params)

no_step_lines : (naming : Naming) (properties : List PropDecl) → step_lines naming properties [] ≡ []
no_step_lines naming [] = refl
no_step_lines naming (p ∷ properties) = refl

-- one step more is one line more
step_lines_more : (naming : Naming) (properties : List PropDecl) (steps : List StepExpr) (place : ℕ) (p : PropDecl) (e : StepExpr) → place ≡ length steps → slice_get properties place ≡ Some p
    → step_lines naming properties (steps ++ e ∷ []) ≡ step_lines naming properties steps ++ step_line naming p e ∷ []
step_lines_more naming [] steps place p e is got = none_there place got
step_lines_more naming (q ∷ properties) [] zero p e is got =
    let same : q ≡ p = cc in
    ap (λ lines. step_line naming q e ∷ lines) (no_step_lines naming properties) ∙ ap (λ r. step_line naming r e ∷ []) same
step_lines_more naming (q ∷ properties) [] (suc place) p e is got = let never : ⊥ = omega (arith, is) in absurd never
step_lines_more naming (q ∷ properties) (d ∷ steps) zero p e is got = let never : ⊥ = omega (arith, is) in absurd never
step_lines_more naming (q ∷ properties) (d ∷ steps) (suc place) p e is got = ap (λ lines. step_line naming q d ∷ lines) (step_lines_more naming properties steps place p e (omega (arith, is)) got)

module _ (naming : Naming) (declared : List (List (List (List ℕ)))) (down up : List PropDecl) where
  -- before the first step
  pub no_steps : {steps more : List StepExpr} (test : List (List (List (List ℕ)))) → steps ≡ [] → more ≡ [] → declared ++ (test ++ (step_lines naming down steps ++ step_lines naming up more)) ≡ declared ++ test
  no_steps {more = more} test h k =
      ap (λ ds. declared ++ (test ++ (step_lines naming down ds ++ step_lines naming up more))) h
      ∙ ap (λ us. declared ++ (test ++ (step_lines naming down [] ++ step_lines naming up us))) k
      ∙ ap (λ ds. declared ++ (test ++ (ds ++ step_lines naming up []))) (no_step_lines naming down)
      ∙ ap (λ us. declared ++ (test ++ us)) (no_step_lines naming up)
      ∙ ap (λ rest. declared ++ rest) (append-nil test)

  -- before the test
  pub untested_lines : {test : Option Cond} {steps more : List StepExpr} → test ≡ None → steps ≡ [] → more ≡ [] → declared ++ (test_lines naming test ++ (step_lines naming down steps ++ step_lines naming up more)) ≡ declared
  untested_lines {test = test} none h k = no_steps (test_lines naming test) h k ∙ ap (λ t. declared ++ test_lines naming t) none ∙ append-nil declared

  -- a step of the down side
  pub down_step_lines : (test : List (List (List (List ℕ)))) (steps more : List StepExpr) (p : PropDecl) (e : StepExpr) → more ≡ [] → slice_get down (length steps) ≡ Some p
      → declared ++ (test ++ (step_lines naming down (steps ++ e ∷ []) ++ step_lines naming up more)) ≡ (declared ++ (test ++ (step_lines naming down steps ++ step_lines naming up more))) ++ step_line naming p e ∷ []
  down_step_lines test steps more p e none got =
      ap (λ us. declared ++ (test ++ (step_lines naming down (steps ++ e ∷ []) ++ us))) empty
      ∙ ap (λ ds. declared ++ (test ++ (ds ++ []))) (step_lines_more naming down steps (length steps) p e refl got)
      ∙ regroup (step_lines naming down steps) (step_line naming p e)
      ∙ ap (λ us. (declared ++ (test ++ (step_lines naming down steps ++ us))) ++ step_line naming p e ∷ []) (sym empty)
    where
      empty : step_lines naming up more ≡ []
      empty = ap (step_lines naming up) none ∙ no_step_lines naming up

      regroup : (lines : List (List (List (List ℕ)))) (line : List (List (List ℕ))) → declared ++ (test ++ ((lines ++ line ∷ []) ++ [])) ≡ (declared ++ (test ++ (lines ++ []))) ++ line ∷ []
      regroup lines line = simp (append_assoc, append-nil)

  -- a step of the up side
  pub up_step_lines : (test : List (List (List (List ℕ)))) (steps more : List StepExpr) (p : PropDecl) (e : StepExpr) → slice_get up (length more) ≡ Some p
      → declared ++ (test ++ (step_lines naming down steps ++ step_lines naming up (more ++ e ∷ []))) ≡ (declared ++ (test ++ (step_lines naming down steps ++ step_lines naming up more))) ++ step_line naming p e ∷ []
  up_step_lines test steps more p e got =
      ap (λ us. declared ++ (test ++ (step_lines naming down steps ++ us))) (step_lines_more naming up more (length more) p e refl got)
      ∙ regroup (step_lines naming down steps) (step_lines naming up more) (step_line naming p e)
    where
      regroup : (lines others : List (List (List (List ℕ)))) (line : List (List (List ℕ))) → declared ++ (test ++ (lines ++ (others ++ line ∷ []))) ≡ (declared ++ (test ++ (lines ++ others))) ++ line ∷ []
      regroup lines others line = simp append_assoc

-- what holds of the steps of what is read so far
pub record AreInOrder (part : Part) : Type 0 where
  pub untested : part.test ≡ None → (part.down_step ≡ []) × (part.up_step ≡ [])
  pub down_first : length part.down_step < length part.down → part.up_step ≡ []
  pub few : length part.down_step ≤ length part.down

-- what stands at a place of the first of two lists, and of the second
pub got_first : {X : Type 0} (xs ys : List X) (place : ℕ) (x : X) → place < length xs → slice_get (xs ++ ys) place ≡ Some x → slice_get xs place ≡ Some x
got_first [] ys place x inside got = let never : ⊥ = omega (arith, inside) in absurd never
got_first (first ∷ xs) ys zero x inside got = got
got_first (first ∷ xs) ys (suc place) x inside got = got_first xs ys place x (omega (arith, inside)) got

pub got_second : {X : Type 0} (xs ys : List X) (place more : ℕ) → place ≡ length xs + more → slice_get (xs ++ ys) place ≡ slice_get ys more
got_second [] ys place more is = ap (slice_get ys) (omega (arith, is))
got_second (first ∷ xs) ys zero more is = let never : ⊥ = omega (arith, is) in absurd never
got_second (first ∷ xs) ys (suc place) more is = got_second xs ys place more (omega (arith, is))
