-- What tokens begin with, with its numbers capped above the limits.
use Rattle.std.specs.Prelude.{◌≡◌, ℕ, ℤ, List, []}
use Rattle.hk_lines.specs.Phrases.{BoundsThen}
use Rattle.hk_lines.specs.Shapes.{capped_signed}

-- what tokens begin with, capped, and their rest
pub record BeginsCapped {X : Type 0} (Phrase : List (List ℕ) → X → List (List ℕ) → Type 0) (cap : X → X) (texts : List (List ℕ)) (answer : X) (rest : List (List ℕ)) : Type 0 where
  pub exact : X
  pub phrase : Phrase texts exact rest
  pub is_capped : answer ≡ cap exact

-- tokens do not begin with such a phrase
abbrev pub BeginsWithout : {X : Type 0} → (List (List ℕ) → X → List (List ℕ) → Type 0) → List (List ℕ) → Type 0
BeginsWithout {X} Phrase texts = (x : X) (rest : List (List ℕ)) → Phrase texts x rest → ⊥

-- what texts are as a whole, capped
pub record IsCapped {X : Type 0} (Phrase : List (List ℕ) → X → Type 0) (cap : X → X) (texts : List (List ℕ)) (answer : X) : Type 0 where
  pub exact : X
  pub phrase : Phrase texts exact
  pub is_capped : answer ≡ cap exact

-- texts are no such phrase
abbrev pub AreNone : {X : Type 0} → (List (List ℕ) → X → Type 0) → List (List ℕ) → Type 0
AreNone {X} Phrase texts = (x : X) → Phrase texts x → ⊥

-- the texts are two bounds, which are these when they are capped
pub record AreBounds (texts : List (List ℕ)) (least most : ℤ) : Type 0 where
  pub from : ℤ
  pub to : ℤ
  pub bounds : BoundsThen texts from to []
  pub least_is : least ≡ capped_signed from
  pub most_is : most ≡ capped_signed to
