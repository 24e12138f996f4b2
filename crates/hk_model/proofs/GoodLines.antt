-- Good lines, one after the other: what they declare is determined and sound.
use Rattle.std.proofs.Common.{◌≡◌, ℕ, List, [], ◌∷◌, ◌++◌, refl, sym, subst}
use Rattle.hk_model.specs.Models.{Declared, nothing_declared, IsGoodLine, AreGoodLines, no_line, then_line, Spells}
use Rattle.hk_group.specs.Problems.{PlainProblem, IsValid}
use Rattle.hk_model.proofs.MeantEffects.{good_line_one}
use Rattle.hk_model.proofs.Soundness.{IsSound, nothing_sound, good_line_sound}
use Rattle.hk_draft.proofs.OneProblem.{problem_valid}
use Rattle.hk_draft.proofs.Validity.{IsValidSoFar}

-- good lines have one effect
pub good_lines_one : {before after other : Declared} {lines : List (List ℕ)} → IsSound before → AreGoodLines before lines after → AreGoodLines before lines other → after ≡ other
good_lines_one sound no_line no_line = refl
good_lines_one {other = other} sound (then_line {line = line} {more = more} good goods) (then_line good' goods') =
    good_lines_one (good_line_sound sound good) goods (subst (λ between. AreGoodLines between more other) (sym (good_line_one sound good good')) goods')

-- good lines go on with good lines
pub good_lines_append : {a b c : Declared} {front rest : List (List ℕ)} → AreGoodLines a front b → AreGoodLines b rest c → AreGoodLines a (front ++ rest) c
good_lines_append no_line goods' = goods'
good_lines_append (then_line good goods) goods' = then_line good (good_lines_append goods goods')

-- good lines go on with a good line
pub good_lines_more : {a b c : Declared} {front : List (List ℕ)} {line : List ℕ} → AreGoodLines a front b → IsGoodLine b line c → AreGoodLines a (front ++ line ∷ []) c
good_lines_more goods good = good_lines_append goods (then_line good no_line)

-- good lines keep what is declared sound
pub good_lines_keep : {before after : Declared} {lines : List (List ℕ)} → AreGoodLines before lines after → IsSound before → IsSound after
good_lines_keep no_line sound = sound
good_lines_keep (then_line good goods) sound = good_lines_keep goods (good_line_sound sound good)

-- what good lines declare from the start is sound
pub good_lines_sound : {lines : List (List ℕ)} {after : Declared} → AreGoodLines nothing_declared lines after → IsSound after
good_lines_sound goods = good_lines_keep goods nothing_sound

-- bytes that spell a problem spell a valid one
pub spelled_valid : (bytes : List ℕ) (p : PlainProblem) → Spells bytes p → IsValid p
spelled_valid bytes p spells = let sound = good_lines_sound spells.good in problem_valid (subst IsValidSoFar spells.declared sound.problem) spells.is_of
