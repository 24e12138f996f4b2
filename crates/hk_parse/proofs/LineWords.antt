-- The first word of a line tells what it is.
use Rattle.std.proofs.Common.{◌≡◌, ℕ, List, [], ◌∷◌, refl, subst}
use Rattle.std.specs.Prelude.{codes}
use Rattle.hk_kinds.specs.declared.kinds.Kind.{Kind}
use Rattle.hk_spec.specs.declared.expressions.Side.{Side}
use Rattle.hk_spec.specs.declared.expressions.Side.TheVariants.{Down, Up}
use Rattle.hk_text.specs.Lexemes.{IsWord}
use Rattle.hk_terms.specs.CondTexts.{CondText, cond_texts, IsCondText}
use Rattle.hk_parse.specs.inside.Headers.{ArePropertyTexts}
use Rattle.hk_parse.specs.BlockLines.{Part, MayStand}
use Rattle.hk_parse.specs.LineTexts.{LineText, Begin, Property, Test, Step, End, InitText, StepText, side_word, step_texts, IsStepText, SaysLine}
use Rattle.hk_text.proofs.TokenTexts.{apart, same_rest}

-- a side has one word
side_one : (side other : Side) {texts xs ys : List (List ℕ)} → texts ≡ side_word side ∷ xs → texts ≡ side_word other ∷ ys → side ≡ other
side_one Down Down x y = refl
side_one Down Up x y = absurd (apart 0 x y refl)
side_one Up Down x y = absurd (apart 0 x y refl)
side_one Up Up x y = refl

-- `down` or `up` begins the line of a property of that side, and no other
pub property_line : (side : Side) {texts : List (List ℕ)} (line : LineText) → SaysLine (side_word side ∷ texts) line → (P : LineText → Type 0) → ((name : List ℕ) (kind : Kind) (init : InitText) → ArePropertyTexts texts name kind init → P (Property side name kind init)) → P line
property_line Down (Begin name params) says P here = absurd (apart 0 refl says.texts_are refl)
property_line Up (Begin name params) says P here = absurd (apart 0 refl says.texts_are refl)
property_line side (Property other name kind init) says P here =
    let same : side ≡ other = side_one side other refl says.texts_are in
    subst (λ s. P (Property s name kind init)) same (here name kind init (record { texts_are = same_rest refl says.texts_are; is_word = says.written.0; written = says.written.1 }))
property_line Down (Test test) says P here = absurd (apart 0 refl says.texts_are refl)
property_line Up (Test test) says P here = absurd (apart 0 refl says.texts_are refl)
property_line Down (Step name step) says P here = absurd (apart 0 refl says.texts_are refl)
property_line Up (Step name step) says P here = absurd (apart 0 refl says.texts_are refl)
property_line Down End says P here = absurd (apart 0 refl says.texts_are refl)
property_line Up End says P here = absurd (apart 0 refl says.texts_are refl)

-- `test` begins that of a test
pub test_line : {texts : List (List ℕ)} (line : LineText) → SaysLine (codes "test" ∷ texts) line → (P : LineText → Type 0) → ((c : CondText) → IsCondText c → texts ≡ cond_texts c → P (Test c)) → P line
test_line (Begin name params) says P here = absurd (apart 0 refl says.texts_are refl)
test_line (Property Down name kind init) says P here = absurd (apart 0 refl says.texts_are refl)
test_line (Property Up name kind init) says P here = absurd (apart 0 refl says.texts_are refl)
test_line (Test c) says P here = here c says.written (same_rest refl says.texts_are)
test_line (Step name step) says P here = absurd (apart 0 refl says.texts_are refl)
test_line End says P here = absurd (apart 0 refl says.texts_are refl)

-- `step` begins that of a step
pub step_line : {texts : List (List ℕ)} (line : LineText) → SaysLine (codes "step" ∷ texts) line → (P : LineText → Type 0) → ((name : List ℕ) (step : StepText) → IsWord name → IsStepText step → texts ≡ name ∷ step_texts step → P (Step name step)) → P line
step_line (Begin name params) says P here = absurd (apart 0 refl says.texts_are refl)
step_line (Property Down name kind init) says P here = absurd (apart 0 refl says.texts_are refl)
step_line (Property Up name kind init) says P here = absurd (apart 0 refl says.texts_are refl)
step_line (Test c) says P here = absurd (apart 0 refl says.texts_are refl)
step_line (Step name step) says P here = here name step says.written.0 says.written.1 (same_rest refl says.texts_are)
step_line End says P here = absurd (apart 0 refl says.texts_are refl)

-- texts that begin with none of these words are no line that may stand
pub no_line : (part : Part) {texts : List (List ℕ)}
    → ((rest : List (List ℕ)) → texts ≡ codes "down" ∷ rest → ⊥) → ((rest : List (List ℕ)) → texts ≡ codes "up" ∷ rest → ⊥)
    → ((rest : List (List ℕ)) → texts ≡ codes "test" ∷ rest → ⊥) → ((rest : List (List ℕ)) → texts ≡ codes "step" ∷ rest → ⊥) → (texts ≡ codes "end" ∷ [] → ⊥)
    → (line : LineText) → SaysLine texts line → MayStand part line → ⊥
no_line part down up test step end (Begin name params) says stands = stands
no_line part down up test step end (Property Down name kind init) says stands = down _ says.texts_are
no_line part down up test step end (Property Up name kind init) says stands = up _ says.texts_are
no_line part down up test step end (Test c) says stands = test _ says.texts_are
no_line part down up test step end (Step name s) says stands = step _ says.texts_are
no_line part down up test step end End says stands = end says.texts_are
