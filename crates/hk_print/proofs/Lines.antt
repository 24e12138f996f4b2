-- Lines that are printed in part.
use Rattle.std.proofs.Common.{◌≡◌, ℕ, List, [], ◌∷◌, ◌++◌, ◌⊎◌, inl, inr, length, codes, refl, sym, subst, ap, ◌∙◌, append_assoc}
use Rattle.std.proofs.lemmas.Grind.{flat_map-append}
use Rattle.std.proofs.lemmas.List.{append-nil, nil_from_length}
use Rattle.hk_base.specs.Lists.{AppendsFront}
use Rattle.hk_spec.specs.declared.parts.PropDecl.{PropDecl}
use Rattle.hk_spec.specs.declared.parts.StepExpr.{StepExpr}
use Rattle.hk_text.proofs.Appending.{AppendsFront-after, AppendsFront-first}
use Rattle.hk_print.specs.Printed.{lines_text, step_line, step_lines}
use Rattle.hk_print.specs.Expressions.{Naming}
use Rattle.hk_print.specs.Pieces.{line_text, piece, spaced}
use Rattle.hk_print.proofs.Joined.{appended_after, AppendsFront-none}
use Rattle.hk_print.proofs.Spacing.{spaced_append}

-- the text of a line that begins with a word and a name
pub line_parts : (word name : List ℕ) (more : List (List (List ℕ))) → line_text (piece word ++ (piece name ++ more)) ≡ word ++ (spaced (piece name) ++ (spaced more ++ codes "\n"))
line_parts word name more =
    ap (λ xs. xs ++ (spaced (piece name ++ more) ++ codes "\n")) (append-nil word)
    ∙ ap (λ xs. word ++ (xs ++ codes "\n")) (spaced_append (piece name) more)
    ∙ ap (λ xs. word ++ xs) (append_assoc (spaced (piece name)) (spaced more) (codes "\n"))

-- a front of the name after the word
pub line_name : (word name shown : List ℕ) (more : List (List (List ℕ))) (old middle new : List ℕ) → shown ≡ name → middle ≡ old ++ word → AppendsFront middle new (spaced (piece shown)) → AppendsFront old new (line_text (piece word ++ (piece name ++ more)))
line_name word name shown more old middle new named before part =
    let left = spaced more ++ codes "\n" in
    subst (AppendsFront old new) (sym (line_parts word name more))
    (AppendsFront-after old middle new word (spaced (piece name) ++ left) before
    (AppendsFront-first middle new (spaced (piece name)) left
    (subst (λ (text : List ℕ). AppendsFront middle new (spaced (piece text))) named part)))

-- a front of the rest after the word and the name
pub line_rest : (word name shown : List ℕ) (more : List (List (List ℕ))) (old middle next new : List ℕ) → shown ≡ name → middle ≡ old ++ word → next ≡ middle ++ spaced (piece shown) → AppendsFront next new (spaced more)
    → AppendsFront old new (line_text (piece word ++ (piece name ++ more)))
line_rest word name shown more old middle next new named before then part =
    let left = spaced more ++ codes "\n" in
    subst (AppendsFront old new) (sym (line_parts word name more))
    (AppendsFront-after old middle new word (spaced (piece name) ++ left) before
    (AppendsFront-after middle next new (spaced (piece name)) left (then ∙ ap (λ text. middle ++ spaced (piece text)) named)
    (AppendsFront-first next new (spaced more) (codes "\n") part)))

-- the whole line
pub line_whole : (word name shown : List ℕ) (more : List (List (List ℕ))) (old middle next last new : List ℕ) → shown ≡ name → middle ≡ old ++ word → next ≡ middle ++ spaced (piece shown) → last ≡ next ++ spaced more
    → new ≡ last ++ codes "\n" → new ≡ old ++ line_text (piece word ++ (piece name ++ more))
line_whole word name shown more old middle next last new named before then rest ended =
    let left = spaced more ++ codes "\n" in
    subst (λ (text : List ℕ). new ≡ old ++ text) (sym (line_parts word name more))
    (appended_after old middle new word (spaced (piece name) ++ left) before
    (appended_after middle next new (spaced (piece name)) left (then ∙ ap (λ text. middle ++ spaced (piece text)) named)
    (appended_after next last new (spaced more) (codes "\n") rest ended)))

-- all of the line but its end
pub line_end : (word name shown : List ℕ) (more : List (List (List ℕ))) (old middle next last new : List ℕ) → shown ≡ name → middle ≡ old ++ word → next ≡ middle ++ spaced (piece shown) → last ≡ next ++ spaced more
    → new ≡ last → AppendsFront old new (line_text (piece word ++ (piece name ++ more)))
line_end word name shown more old middle next last new named before then rest same =
    let left = spaced more ++ codes "\n" in
    subst (AppendsFront old new) (sym (line_parts word name more))
    (AppendsFront-after old middle new word (spaced (piece name) ++ left) before
    (AppendsFront-after middle next new (spaced (piece name)) left (then ∙ ap (λ text. middle ++ spaced (piece text)) named)
    (AppendsFront-after next last new (spaced more) (codes "\n") rest (AppendsFront-none last new (codes "\n") same))))

-- a front of the first lines
pub lines_first : (old new : List ℕ) (first more : List (List (List (List ℕ)))) → AppendsFront old new (lines_text first) → AppendsFront old new (lines_text (first ++ more))
lines_first old new first more part = subst (AppendsFront old new) (sym (flat_map-append line_text first more)) (AppendsFront-first old new (lines_text first) (lines_text more) part)

-- the first lines, and a front of the others
pub lines_after : (old middle new : List ℕ) (first more : List (List (List (List ℕ)))) → middle ≡ old ++ lines_text first → AppendsFront middle new (lines_text more) → AppendsFront old new (lines_text (first ++ more))
lines_after old middle new first more before part = subst (AppendsFront old new) (sym (flat_map-append line_text first more)) (AppendsFront-after old middle new (lines_text first) (lines_text more) before part)

-- the same properties and steps have the same lines
pub steps_same : (naming : Naming) (shown properties : List PropDecl) (listed steps : List StepExpr) → shown ≡ properties → listed ≡ steps → step_lines naming shown listed ≡ step_lines naming properties steps
steps_same naming shown properties listed steps first second = ap (λ all. step_lines naming all listed) first ∙ ap (step_lines naming properties) second

-- the text of the steps begins with that of the first, where there is one
pub steps_first : (naming : Naming) (properties after : List PropDecl) (steps rest : List StepExpr) (p : PropDecl) (e : StepExpr) → properties ≡ p ∷ after → steps ≡ e ∷ rest
    → lines_text (step_lines naming properties steps) ≡ line_text (step_line naming p e) ++ lines_text (step_lines naming after rest)
steps_first naming properties after steps rest p e named stepped = ap (λ all. lines_text (step_lines naming all steps)) named ∙ ap (λ all. lines_text (step_lines naming (p ∷ after) all)) stepped

steps_none : (naming : Naming) (properties : List PropDecl) → lines_text (step_lines naming properties []) ≡ []
steps_none naming [] = refl
steps_none naming (p ∷ properties) = refl

-- it ends where the properties end, and where the steps end
pub steps_end : (naming : Naming) (properties : List PropDecl) (steps : List StepExpr) → (length properties ≡ 0) ⊎ (length steps ≡ 0) → lines_text (step_lines naming properties steps) ≡ []
steps_end naming properties steps (inl ended) = ap (λ all. lines_text (step_lines naming all steps)) (nil_from_length properties ended)
steps_end naming properties steps (inr ended) = ap (λ all. lines_text (step_lines naming properties all)) (nil_from_length steps ended) ∙ steps_none naming properties
