-- Parts of a longer state, and what a write on them does.
use Rattle.std.proofs.Common.{◌≡◌, ℕ, ◌+◌, ◌<◌, ◌≤◌, List, [], ◌∷◌, ◌++◌, length, map, take, drop, set, get_or, suc, arith, ap, sym, ◌∙◌, drop-cons}
use Rattle.std.proofs.lemmas.Grind.{common_steps}
use Rattle.std.proofs.lemmas.List.{drop-drop, drop-set-lt}
use Rattle.std.proofs.Math.Seq.{take-suc-set}
use Rattle.hk_kinds.specs.declared.properties.Prop.{Prop}

-- a place within the part of a state that begins at a place is within the state
pub within_part : (state : List Prop) (first i count : ℕ) → i < count → count ≤ length (drop first state) → first + i < length state
within_part state first i count h k = grind (arith, common_steps)

-- what is due before a step is due after it: what is written, the value of the step, and the steps that are left
due_after : (before : List Prop) (x : Prop) (steps after : List Prop) → before ++ ((x ∷ steps) ++ after) ≡ (before ++ x ∷ []) ++ (steps ++ after)
due_after before x steps after = grind (arith, common_steps)

-- after a write at a place, what comes before the next place is what came before, and the value
take_written : (state : List Prop) (first i : ℕ) (x : Prop) → first + i < length state → take (first + (i + 1)) (set state (first + i) x) ≡ take (first + i) state ++ x ∷ []
take_written state first i x h =
    let next : first + (i + 1) ≡ suc (first + i) = omega arith in
    ap (λ k. take k (set state (first + i) x)) next ∙ take-suc-set state (first + i) x h

steps_left : {S : Type 0} (f : S → Prop) (steps : List S) (i : ℕ) (x : S) → i < length steps → x ≡ get_or steps i x → map f (drop i steps) ≡ f x ∷ map f (drop (i + 1) steps)
steps_left f steps i x h is = grind (arith, common_steps, drop-cons steps i x)

-- one more step is written
pub step_written : {S : Type 0} (f : S → Prop) (steps : List S) (x : S) (whole old after : List Prop) (first i : ℕ) → i < length steps → x ≡ get_or steps i x → first + i < length old → whole ≡ take (first + i) old ++ (map f (drop i steps) ++ after) → whole ≡ take (first + (i + 1)) (set old (first + i) (f x)) ++ (map f (drop (i + 1) steps) ++ after)
step_written f steps x whole old after first i h is within due =
    due ∙ (ap (λ left. take (first + i) old ++ (left ++ after)) (steps_left f steps i x h is) ∙ (due_after (take (first + i) old) (f x) (map f (drop (i + 1) steps)) after ∙ ap (λ before. before ++ (map f (drop (i + 1) steps) ++ after)) (sym (take_written old first i (f x) within))))

-- what two states have in common from a place on they have from the next on
drop_more : (a b : List Prop) (first i : ℕ) → drop (first + i) a ≡ drop (first + i) b → drop (first + (i + 1)) a ≡ drop (first + (i + 1)) b
drop_more a b first i same =
    let next : first + i + 1 ≡ first + (i + 1) = omega arith in
    ap (λ k. drop k a) (sym next) ∙ (sym (drop-drop 1 (first + i) a) ∙ (ap (drop 1) same ∙ (drop-drop 1 (first + i) b ∙ ap (λ k. drop k b) next)))

-- a write at a place leaves all after it
pub rest_after : (old initial : List Prop) (first i : ℕ) (x : Prop) → drop (first + i) old ≡ drop (first + i) initial → drop (first + (i + 1)) (set old (first + i) x) ≡ drop (first + (i + 1)) initial
rest_after old initial first i x same =
    let after : first + i < first + (i + 1) = omega arith in
    drop-set-lt (first + (i + 1)) old (first + i) x after ∙ drop_more old initial first i same
