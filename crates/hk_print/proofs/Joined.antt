-- Texts that are appended whole, one after another.
use Rattle.std.proofs.Common.{◌≡◌, List, [], ◌++◌, Result, Ok, Err, OnOk, refl, sym, subst, ap, ◌∙◌, append_assoc}
use Rattle.std.proofs.lemmas.List.{append-nil}
use Rattle.hk_base.specs.Lists.{AppendsFront}
use Rattle.hk_text.proofs.Appending.{AppendsFront-after, AppendsFront-first}

-- the first text and then what is left are the whole
pub appended_after : {A : Type 0} (old middle new first left : List A) → middle ≡ old ++ first → new ≡ middle ++ left → new ≡ old ++ (first ++ left)
appended_after old middle new first left before then = then ∙ ap (λ xs. xs ++ left) before ∙ append_assoc old first left

-- what follows from a fact holds where the call succeeds, where the fact does
pub OnOk-then : {T E P Q : Type 0} (result : Result T E) → (P → Q) → OnOk result P → OnOk result Q
OnOk-then (Ok value) follows fact = follows fact
OnOk-then (Err error) follows fact = tt

-- where nothing is appended, a front is
pub AppendsFront-none : {A : Type 0} (old new whole : List A) → new ≡ old → AppendsFront old new whole
AppendsFront-none old new whole same = record { front = []; is_front = record { rest = whole; parts = refl }; appended = same ∙ sym (append-nil old) }

module _ {A : Type 0} (old before inner after : List A) where
  -- a text between two others
  pub one_appended : (middle new : List A) → middle ≡ old ++ (before ++ inner) → new ≡ middle ++ after → new ≡ old ++ (before ++ (inner ++ after))
  one_appended middle new begun ended = appended_after old middle new (before ++ inner) after begun ended ∙ ap (λ text. old ++ text) (append_assoc before inner after)

  -- a front of its beginning
  pub one_begun : (new : List A) → AppendsFront old new (before ++ inner) → AppendsFront old new (before ++ (inner ++ after))
  one_begun new part = subst (AppendsFront old new) (append_assoc before inner after) (AppendsFront-first old new (before ++ inner) after part)

  -- its beginning, and a front of its end
  pub one_followed : (middle new : List A) → middle ≡ old ++ (before ++ inner) → AppendsFront middle new after → AppendsFront old new (before ++ (inner ++ after))
  one_followed middle new begun part = subst (AppendsFront old new) (append_assoc before inner after) (AppendsFront-after old middle new (before ++ inner) after begun part)

  -- all of it but its end
  pub one_unended : (middle new : List A) → middle ≡ old ++ (before ++ inner) → new ≡ middle → AppendsFront old new (before ++ (inner ++ after))
  one_unended middle new begun same = one_followed middle new begun (AppendsFront-none middle new after same)

module _ {A : Type 0} (old before first between second after : List A) where
  -- two texts between three others
  pub two_appended : (middle next new : List A) → middle ≡ old ++ (before ++ first) → next ≡ middle ++ (between ++ second) → new ≡ next ++ after → new ≡ old ++ (before ++ (first ++ (between ++ (second ++ after))))
  two_appended middle next new begun then ended =
      one_appended old before first (between ++ (second ++ after)) middle new begun (one_appended middle between second after next new then ended)

  -- the first of them, and a front of the second
  pub two_halved : (middle new : List A) → middle ≡ old ++ (before ++ first) → AppendsFront middle new (between ++ second) → AppendsFront old new (before ++ (first ++ (between ++ (second ++ after))))
  two_halved middle new begun part = one_followed old before first (between ++ (second ++ after)) middle new begun (one_begun middle between second after new part)

  -- all of them but their end
  pub two_unended : (middle next new : List A) → middle ≡ old ++ (before ++ first) → next ≡ middle ++ (between ++ second) → new ≡ next → AppendsFront old new (before ++ (first ++ (between ++ (second ++ after))))
  two_unended middle next new begun then same = one_followed old before first (between ++ (second ++ after)) middle new begun (one_unended middle between second after next new then same)
