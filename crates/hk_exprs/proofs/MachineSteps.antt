-- Steps, one at most from each place, and runs of steps.
use Rattle.std.proofs.Common.{◌≡◌, ℕ, true, false, List, [], ◌∷◌, Option, Some, codes, refl, sym, ap, subst, ◌∙◌}
use Rattle.hk_text.specs.Numbers.{IsNumber}
use Rattle.hk_terms.specs.Operands.{Signed}
use Rattle.hk_exprs.specs.inside.Machines.{Frame, After, place, received, BeginsNumber, Step, step_open, step_close, step_mark, step_signed, step_turned, step_atom, Steps, no_step, then_step}
use Rattle.hk_text.proofs.TokenTexts.{apart, apart_none, same_first, same_rest}
use Rattle.hk_exprs.proofs.MachineMarks.{some_one, mark_one, no_mark}
use Rattle.hk_terms.proofs.MachineAtoms.{no_atom, atom_some, atom_same}

-- a test isn't both
pub true_false : true ≡ false → ⊥
true_false same = cc

-- a frame with one operand more, or after parentheses, is one
taken_one : {X : Type 0} (take : X → Option Frame) {x y : X} {next other : Frame} → x ≡ y → take x ≡ Some next → take y ≡ Some other → next ≡ other
taken_one take same one two = some_one (sym one ∙ ap take same ∙ two)

-- `-` and a number aren't `-` before another text
pub signed_or_turned : {texts rest after : List (List ℕ)} {digits : List ℕ} {n : ℕ} → texts ≡ codes "-" ∷ digits ∷ rest → IsNumber digits n → texts ≡ codes "-" ∷ after → (BeginsNumber after → ⊥) → ⊥
signed_or_turned {rest = rest} {digits = digits} {n = n} is number other unsigned = unsigned (digits, n, rest, same_rest other is, number)

-- there is one step at most
pub step_one : {frames a b : List Frame} {texts rest after : List (List ℕ)} → Step frames texts a rest → Step frames texts b after → (a ≡ b) × (rest ≡ after)
step_one (step_open is) (step_open other) = (refl, same_rest is other)
step_one (step_open is) (step_close other shut got) = absurd (apart 0 is other refl)
step_one (step_open is) (step_mark {mark = mark} other) = absurd (no_mark mark (same_first other is) refl)
step_one (step_open is) (step_signed other number awaits placed) = absurd (apart 0 is other refl)
step_one (step_open is) (step_turned other unsigned) = absurd (apart 0 is other refl)
step_one (step_open is) (step_atom atom awaits placed) = absurd (no_atom atom is refl refl refl)
step_one (step_close is shut got) (step_open other) = absurd (apart 0 is other refl)
step_one (step_close {outer = outer} {frames = frames} is shut got) (step_close other shut' got') = (ap (λ next. next ∷ frames) (taken_one (received outer) (some_one (sym shut ∙ shut')) got got'), same_rest is other)
step_one (step_close is shut got) (step_mark {mark = mark} other) = absurd (no_mark mark (same_first other is) refl)
step_one (step_close is shut got) (step_signed other number awaits placed) = absurd (apart 0 is other refl)
step_one (step_close is shut got) (step_turned other unsigned) = absurd (apart 0 is other refl)
step_one (step_close is shut got) (step_atom atom awaits placed) = absurd (no_atom atom is refl refl refl)
step_one (step_mark {mark = mark} is) (step_open other) = absurd (no_mark mark (same_first is other) refl)
step_one (step_mark {mark = mark} is) (step_close other shut got) = absurd (no_mark mark (same_first is other) refl)
step_one (step_mark {a = a} {mark = mark} {frames = frames} is) (step_mark {mark = mark'} other) = (ap (λ m. After a m ∷ frames) (mark_one mark mark' (same_first is other)), same_rest is other)
step_one (step_mark is) (step_signed other number awaits placed) = absurd (true_false awaits)
step_one (step_mark {mark = mark} {rest = rest} is) (step_atom atom awaits placed) = absurd (awaits refl (mark, rest, is))
step_one (step_signed is number awaits placed) (step_open other) = absurd (apart 0 is other refl)
step_one (step_signed is number awaits placed) (step_close other shut got) = absurd (apart 0 is other refl)
step_one (step_signed is number awaits placed) (step_mark other) = absurd (true_false awaits)
step_one (step_signed {frame = frame} {frames = frames} is number awaits placed) (step_signed other number' awaits' placed') =
    let rests = same_rest is other in
    (ap (λ next. next ∷ frames) (taken_one (λ digits. place frame (Signed digits)) (same_first refl rests) placed placed'), same_rest refl rests)
step_one (step_signed is number awaits placed) (step_turned other unsigned) = absurd (signed_or_turned is number other unsigned)
step_one (step_signed is number awaits placed) (step_atom atom awaits' placed') = absurd (no_atom atom is refl refl refl)
step_one (step_turned is unsigned) (step_open other) = absurd (apart 0 is other refl)
step_one (step_turned is unsigned) (step_close other shut got) = absurd (apart 0 is other refl)
step_one (step_turned is unsigned) (step_signed other number awaits placed) = absurd (signed_or_turned other number is unsigned)
step_one (step_turned is unsigned) (step_turned other unsigned') = (refl, same_rest is other)
step_one (step_turned is unsigned) (step_atom atom awaits placed) = absurd (no_atom atom is refl refl refl)
step_one (step_atom atom awaits placed) (step_open other) = absurd (no_atom atom other refl refl refl)
step_one (step_atom atom awaits placed) (step_close other shut got) = absurd (no_atom atom other refl refl refl)
step_one (step_atom atom awaits placed) (step_mark {mark = mark} {rest = rest} other) = absurd (awaits refl (mark, rest, other))
step_one (step_atom atom awaits placed) (step_signed other number awaits' placed') = absurd (no_atom atom other refl refl refl)
step_one (step_atom atom awaits placed) (step_turned other unsigned) = absurd (no_atom atom other refl refl refl)
step_one (step_atom {frame = frame} {frames = frames} atom awaits placed) (step_atom atom' awaits' placed') =
    let same = atom_same atom atom' in
    (ap (λ next. next ∷ frames) (taken_one (place frame) same.0 placed placed'), same.1)

-- where no texts are left, there is no step
pub step_some : {frames after : List Frame} {texts rest : List (List ℕ)} → Step frames texts after rest → texts ≡ [] → ⊥
step_some (step_open is) none = apart_none none is
step_some (step_close is shut got) none = apart_none none is
step_some (step_mark is) none = apart_none none is
step_some (step_signed is number awaits placed) none = apart_none none is
step_some (step_turned is unsigned) none = apart_none none is
step_some (step_atom atom awaits placed) none = atom_some atom none

-- a run, and then another
pub steps_then : {frames between after : List Frame} {texts more rest : List (List ℕ)} → Steps frames texts between more → Steps between more after rest → Steps frames texts after rest
steps_then no_step more = more
steps_then (then_step step steps) more = then_step step (steps_then steps more)

-- a run, and then one step
pub steps_step : {frames between after : List Frame} {texts more rest : List (List ℕ)} → Steps frames texts between more → Step between more after rest → Steps frames texts after rest
steps_step steps step = steps_then steps (then_step step no_step)

-- a run to the end of the texts goes through the step that there is
pub steps_after : {frames between after : List Frame} {texts rest : List (List ℕ)} → Steps frames texts after [] → Step frames texts between rest → Steps between rest after []
steps_after no_step step = absurd (step_some step refl)
steps_after {after = after} {rest = rest} (then_step {between = other} {more = more} first steps) step =
    let same = step_one first step in
    subst (λ frames. Steps frames rest after []) same.0 (subst (λ texts. Steps other texts after []) same.1 steps)

-- where texts are left and there is no step, no run comes to the end of the texts
pub steps_stuck : {frames after : List Frame} {texts : List (List ℕ)} → (texts ≡ [] → ⊥) → ((between : List Frame) (rest : List (List ℕ)) → Step frames texts between rest → ⊥) → Steps frames texts after [] → ⊥
steps_stuck some none no_step = some refl
steps_stuck some none (then_step {between = between} {more = more} step steps) = none between more step

-- where no texts are left, the run is at its end
pub steps_end : {frames after : List Frame} → Steps frames [] after [] → frames ≡ after
steps_end no_step = refl
steps_end (then_step step steps) = absurd (step_some step refl)

-- a run to the end of the texts goes through any run that there is
pub steps_rest : {frames between after : List Frame} {texts rest : List (List ℕ)} → Steps frames texts after [] → Steps frames texts between rest → Steps between rest after []
steps_rest whole no_step = whole
steps_rest whole (then_step step steps) = steps_rest (steps_after whole step) steps

-- a run to the end of the texts comes to one place
pub steps_one : {frames a b : List Frame} {texts : List (List ℕ)} → Steps frames texts a [] → Steps frames texts b [] → a ≡ b
steps_one one two = steps_end (steps_rest two one)
