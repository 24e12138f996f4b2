-- What is kept of a run that has come to its end: one operand, or two side by side.
use Rattle.std.proofs.Common.{◌≡◌, ℕ, List, [], ◌∷◌, Option, None, Some, subst}
use Rattle.std.specs.Prelude.{IfSome}
use Rattle.hk_exprs.specs.inside.Machines as machine
use Rattle.hk_exprs.specs.inside.Machines.{Steps}
use Rattle.hk_terms.specs.Names.{Names}
use Rattle.hk_exprs.specs.inside.Standing.{IsKept, IsKeptFrame, kept_empty, kept_first}
use Rattle.hk_exprs.specs.declared.frames.Frame.{Frame}
use Rattle.hk_exprs.specs.declared.frames.Frame.TheVariants as frame
use Rattle.hk_exprs.specs.declared.operands.Operand.{Operand}
use Rattle.hk_exprs.proofs.MachineSteps.{steps_one}

-- the run from this frame has come to its end, with this kept
abbrev pub Ended : Names → Frame → List (List ℕ) → Frame → Type 0
Ended names start texts inner = (f : machine.Frame) → IsKeptFrame names f start → (x : machine.Frame) × Steps (f ∷ []) texts (x ∷ []) [] × IsKeptFrame names x inner

-- no run from this frame comes to its end
abbrev pub NotEnded : Names → Frame → List (List ℕ) → Type 0
NotEnded names start texts = (f x : machine.Frame) → IsKeptFrame names f start → Steps (f ∷ []) texts (x ∷ []) [] → ⊥

-- the run comes to one operand, of which this is kept; or to two side by side
abbrev pub ToOne : Names → List (List ℕ) → Operand → Type 0
ToOne names texts a = (x : machine.Operand) × Steps (machine.Empty ∷ []) texts (machine.One x ∷ []) [] × IsKept names x a

abbrev pub ToTwo : Names → List (List ℕ) → Operand × Operand → Type 0
ToTwo names texts two = (x : machine.Operand) × (y : machine.Operand) × Steps (machine.First ∷ []) texts (machine.Both x y ∷ []) [] × IsKept names x two.0 × IsKept names y two.1

-- it comes to none
abbrev pub NotToOne : List (List ℕ) → Type 0
NotToOne texts = (x : machine.Operand) → Steps (machine.Empty ∷ []) texts (machine.One x ∷ []) [] → ⊥

abbrev pub NotToTwo : List (List ℕ) → Type 0
NotToTwo texts = (x y : machine.Operand) → Steps (machine.First ∷ []) texts (machine.Both x y ∷ []) [] → ⊥

same_frame : {x y : machine.Frame} → x ∷ [] ≡ y ∷ [] → x ≡ y
same_frame same = cc

module _ {names : Names} {texts : List (List ℕ)} {inner : Frame} where
  -- the frame at the end holds one operand
  pub one_some : (read : Option Operand)
      → Ended names frame.Empty texts inner
      → IfSome read (λ a. (names : Names) (f : machine.Frame) → IsKeptFrame names f inner → (x : machine.Operand) × (f ≡ machine.One x) × IsKept names x a)
      → IfSome read (ToOne names texts)
  one_some None ended holds = tt
  one_some (Some a) ended holds =
      let run = ended machine.Empty kept_empty in
      let one = holds names run.0 run.2 in
      (one.0, subst (λ f. Steps (machine.Empty ∷ []) texts (f ∷ []) []) one.1 run.1, one.2)

  -- it holds something else
  pub one_none : Ended names frame.Empty texts inner
      → ((names : Names) (x : machine.Operand) → IsKeptFrame names (machine.One x) inner → ⊥)
      → NotToOne texts
  one_none ended other x steps =
      let run = ended machine.Empty kept_empty in
      other names x (subst (λ f. IsKeptFrame names f inner) (same_frame (steps_one run.1 steps)) run.2)

  -- the frame at the end holds two operands side by side
  pub two_some : (read : Option (Operand × Operand))
      → Ended names frame.First texts inner
      → IfSome read (λ two. (names : Names) (f : machine.Frame) → IsKeptFrame names f inner → (x : machine.Operand) × (y : machine.Operand) × (f ≡ machine.Both x y) × IsKept names x two.0 × IsKept names y two.1)
      → IfSome read (ToTwo names texts)
  two_some None ended holds = tt
  two_some (Some two) ended holds =
      let run = ended machine.First kept_first in
      let both = holds names run.0 run.2 in
      (both.0, both.1, subst (λ f. Steps (machine.First ∷ []) texts (f ∷ []) []) both.2 run.1, both.3, both.4)

  -- it holds something else
  pub two_none : Ended names frame.First texts inner
      → ((names : Names) (x y : machine.Operand) → IsKeptFrame names (machine.Both x y) inner → ⊥)
      → NotToTwo texts
  two_none ended other x y steps =
      let run = ended machine.First kept_first in
      other names x y (subst (λ f. IsKeptFrame names f inner) (same_frame (steps_one run.1 steps)) run.2)
