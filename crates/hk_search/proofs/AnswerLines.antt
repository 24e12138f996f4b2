use Rattle.std.proofs.Common.{◌≡◌, ℕ, Option, Some, None, List, [], ◌∷◌, ◌++◌, length, ◌⊎◌, inl, inr, refl, ap, sym, subst, ◌∙◌}
use Rattle.std.proofs.lemmas.List.{nil_from_length}
use Rattle.hk_group.specs.Problems.{PlainProblem}
use Rattle.hk_search.specs.declared.found.Found.{Found}
use Rattle.hk_search.specs.AnswerTexts.{answer_line, answer_lines, first_line, finding_text, IsAnswerText, infeasible, solved}
use Rattle.hk_search.specs.Findings.{IsFinding}

answer_lines-nil : (names : List (List ℕ)) → answer_lines names [] ≡ []
answer_lines-nil [] = refl
answer_lines-nil (name ∷ names) = refl

-- the lines end where the names end, and where the values end
pub answer_lines-end : (names : List (List ℕ)) (values : List ℕ) → (length names ≡ 0) ⊎ (length values ≡ 0) → answer_lines names values ≡ []
answer_lines-end names values (inl ended) = ap (λ rest. answer_lines rest values) (nil_from_length names ended)
answer_lines-end names values (inr ended) = ap (answer_lines names) (nil_from_length values ended) ∙ answer_lines-nil names

-- the line of the first name and value, and the lines of the rest
pub answer_lines-first : (names more : List (List ℕ)) (values rest : List ℕ) (name : List ℕ) (value : ℕ) → names ≡ name ∷ more → values ≡ value ∷ rest → answer_lines names values ≡ answer_line name value ++ answer_lines more rest
answer_lines-first names more values rest name value named valued = ap (λ all. answer_lines all values) named ∙ ap (answer_lines (name ∷ more)) valued

-- what a finished search found is printed as the text that answers the problem
pub IsAnswerText-finding : (p : PlainProblem) (found : Option Found) → IsFinding p found → IsAnswerText p (finding_text p found)
IsAnswerText-finding p None none = infeasible none
IsAnswerText-finding p (Some found) finding = subst (λ cost. IsAnswerText p (first_line p.objective cost ++ answer_lines p.names found.values)) (sym finding.1) (solved found.values finding.0)
