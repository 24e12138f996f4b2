-- How far a run has come, with what is kept of its frames.
use Rattle.std.proofs.Common.{◌≡◌, ℕ, true, false, List, [], ◌∷◌, ◌++◌, length, refl, sym, subst, arith}
use Rattle.std.proofs.lemmas.Bool.Decides.{nat_tests}
use Rattle.std.specs.Prelude.{◌==◌}
use Rattle.hk_text.specs.Texts.{texts_of}
use Rattle.hk_text.specs.declared.tokenizer.Token.{Token}
use Rattle.hk_exprs.specs.inside.Machines as machine
use Rattle.hk_exprs.specs.inside.Machines.{Step, Steps, no_step}
use Rattle.hk_terms.specs.Names.{Names}
use Rattle.hk_exprs.specs.inside.Standing.{IsKeptFrame, AreKept, no_frame, one_frame}
use Rattle.hk_exprs.specs.declared.frames.Frame.{Frame}
use Rattle.hk_exprs.proofs.MachineSteps.{true_false, steps_step, steps_stuck, steps_end, steps_rest}

-- from this frame steps lead to frames of which these are kept, and to these texts
pub record HasCome (names : Names) (f : machine.Frame) (texts : List (List ℕ)) (inner : Frame) (outer : List Frame) (left : List (List ℕ)) : Type 0 where
  pub now : machine.Frame
  pub nows : List machine.Frame
  pub steps : Steps (f ∷ []) texts (now ∷ nows) left
  pub is_inner : IsKeptFrame names now inner
  pub are_outer : AreKept names nows outer

-- the same from each frame of which this is kept
abbrev pub Runs : Names → Frame → List (List ℕ) → Frame → List Frame → List (List ℕ) → Type 0
Runs names start texts inner outer left = (f : machine.Frame) → IsKeptFrame names f start → HasCome names f texts inner outer left

-- the frames that are kept come from those before them by one step
abbrev pub Stepped : Names → Frame → List Frame → List (List ℕ) → Frame → List Frame → List (List ℕ) → Type 0
Stepped names inner outer left next outer' rest =
    (f : machine.Frame) (frames : List machine.Frame) → IsKeptFrame names f inner → AreKept names frames outer
    → (n : machine.Frame) × (nexts : List machine.Frame) × Step (f ∷ frames) left (n ∷ nexts) rest × IsKeptFrame names n next × AreKept names nexts outer'

-- and there is no step
abbrev pub NotStepped : Names → Frame → List Frame → List (List ℕ) → Type 0
NotStepped names inner outer left =
    (f : machine.Frame) (frames : List machine.Frame) → IsKeptFrame names f inner → AreKept names frames outer
    → (after : List machine.Frame) (rest : List (List ℕ)) → Step (f ∷ frames) left after rest → ⊥

-- no frame is kept of none alone
kept_none : {names : Names} {frames : List machine.Frame} {outer : List Frame} → AreKept names frames outer → outer ≡ [] → frames ≡ []
kept_none no_frame none = refl
kept_none (one_frame {inner = inner} {outer = outer} kept more) none = absurd (some outer none)
  where
    some : (outer : List Frame) → outer ++ inner ∷ [] ≡ [] → ⊥
    some [] none = cc
    some (a ∷ more) none = cc

none_kept : {names : Names} {frames : List machine.Frame} {outer : List Frame} → AreKept names frames outer → frames ≡ [] → outer ≡ []
none_kept no_frame none = refl
none_kept (one_frame {f = f} {frames = frames} kept more) none = absurd (some none)
  where
    some : f ∷ frames ≡ [] → ⊥
    some none = cc

more_same : {x y : machine.Frame} {xs ys : List machine.Frame} → x ∷ xs ≡ y ∷ ys → xs ≡ ys
more_same same = cc

-- the tests whether a list is empty
pub none_there : {X : Type 0} (xs : List X) → (length xs == 0) ≡ true → xs ≡ []
none_there [] test = refl
none_there (x ∷ xs) test = let never : ⊥ = grind (arith, nat_tests) in absurd never

pub some_there : {X : Type 0} (xs : List X) → (length xs == 0) ≡ false → xs ≡ [] → ⊥
some_there [] test none = true_false test
some_there (x ∷ xs) test none = cc

pub texts_left : (line : List ℕ) (tokens : List Token) → (length tokens == 0) ≡ false → texts_of line tokens ≡ [] → ⊥
texts_left line [] test none = true_false test
texts_left line (token ∷ tokens) test none = cc

-- the run at its start
pub run_starts : {names : Names} {start : Frame} {texts : List (List ℕ)} {outer : List Frame} → outer ≡ [] → Runs names start texts start outer texts
run_starts {names = names} none f kept = record { now = f; nows = []; steps = no_step; is_inner = kept; are_outer = subst (AreKept names []) (sym none) no_frame }

module _ {names : Names} {start inner : Frame} {texts left : List (List ℕ)} {outer : List Frame} where
  -- one step more
  pub run_more : {next : Frame} {outer' : List Frame} {rest : List (List ℕ)} → Runs names start texts inner outer left → Stepped names inner outer left next outer' rest → Runs names start texts next outer' rest
  run_more runs stepped f kept =
      let come = runs f kept in
      let step = stepped come.now come.nows come.is_inner come.are_outer in
      record { now = step.0; nows = step.1; steps = steps_step come.steps step.2; is_inner = step.3; are_outer = step.4 }

  -- no texts are left, and no parenthesis is open
  pub run_ends : Runs names start texts inner outer left → left ≡ [] → outer ≡ [] → (f : machine.Frame) → IsKeptFrame names f start → (x : machine.Frame) × Steps (f ∷ []) texts (x ∷ []) [] × IsKeptFrame names x inner
  run_ends runs over none f kept =
      let come = runs f kept in
      (come.now, subst (λ nows. Steps (f ∷ []) texts (come.now ∷ nows) []) (kept_none come.are_outer none) (subst (Steps (f ∷ []) texts (come.now ∷ come.nows)) over come.steps), come.is_inner)

  -- no texts are left, and a parenthesis is open
  pub run_open : Runs names start texts inner outer left → left ≡ [] → (outer ≡ [] → ⊥) → (f x : machine.Frame) → IsKeptFrame names f start → Steps (f ∷ []) texts (x ∷ []) [] → ⊥
  run_open runs over some f x kept whole =
      let come = runs f kept in
      let ends = steps_end (subst (λ left. Steps (come.now ∷ come.nows) left (x ∷ []) []) over (steps_rest whole come.steps)) in
      some (none_kept come.are_outer (more_same ends))

  -- texts are left, and there is no step
  pub run_stuck : Runs names start texts inner outer left → (left ≡ [] → ⊥) → NotStepped names inner outer left → (f x : machine.Frame) → IsKeptFrame names f start → Steps (f ∷ []) texts (x ∷ []) [] → ⊥
  run_stuck runs some none f x kept whole =
      let come = runs f kept in
      steps_stuck some (none come.now come.nows come.is_inner come.are_outer) (steps_rest whole come.steps)
