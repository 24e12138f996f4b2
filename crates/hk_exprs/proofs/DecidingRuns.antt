-- Whether there is a step, and whether a run comes to the end of the texts.
use Rattle.std.proofs.Common.{◌≡◌, ℕ, suc, zero, ◌<◌, true, false, List, [], ◌∷◌, Option, Some, None, length, codes, refl, sym, ap, subst, ◌∙◌, arith}
use Rattle.std.proofs.Math.Decide.{map_dec}
use Rattle.hk_terms.specs.declared.marks.Mark.TheVariants.{Minus}
use Rattle.hk_terms.specs.Operands.{Signed}
use Rattle.hk_exprs.specs.inside.Machines.{Frame, Empty, Turned, One, After, Content, place, closed, received, awaits_mark, BeginsMark, BeginsNumber, Step, step_open, step_close, step_mark, step_signed, step_turned, step_atom, Steps, no_step, then_step}
use Rattle.hk_exprs.proofs.MachineSteps.{true_false, steps_after, steps_stuck}
use Rattle.hk_exprs.proofs.MachineStuck.{stuck_outmost, stuck_closed, stuck_received, stuck_signed, stuck_minus, stuck_atom, stuck_other}
use Rattle.hk_text.proofs.Deciding.{dec_true, dec_both, dec_empty, dec_first}
use Rattle.hk_exprs.proofs.DecidingAtoms.{Atom, dec_atom, atom_shorter, dec_begins_mark, dec_begins_number}

-- a step, where there is one
abbrev pub Goes : List Frame → List (List ℕ) → Type 0
Goes frames texts = (after : List Frame) × (rest : List (List ℕ)) × Step frames texts after rest

no_frames : {texts rest : List (List ℕ)} {after : List Frame} → Step [] texts after rest → ⊥
no_frames step = elim step [ ]

-- where a parenthesis is closed
dec_close : (frame : Frame) (frames : List Frame) {texts rest : List (List ℕ)} → texts ≡ codes ")" ∷ rest → Dec (Goes (frame ∷ frames) texts)
dec_close frame [] is = no (λ some. stuck_outmost is some.2)
dec_close frame (outer ∷ frames) {texts = texts} {rest = rest} is = by (closed frame) refl
  where
    by : (o : Option Content) → closed frame ≡ o → Dec (Goes (frame ∷ outer ∷ frames) texts)
    by None none = no (λ some. stuck_closed is none some.2)
    by (Some content) shut = got (received outer content) refl
      where
        got : (o : Option Frame) → received outer content ≡ o → Dec (Goes (frame ∷ outer ∷ frames) texts)
        got None none = no (λ some. stuck_received is shut none some.2)
        got (Some next) taken = yes (next ∷ frames, rest, step_close is shut taken)

-- where a mark is awaited, and is there
mark_goes : (frame : Frame) (frames : List Frame) {texts : List (List ℕ)} → awaits_mark frame ≡ true → BeginsMark texts → Goes (frame ∷ frames) texts
mark_goes (One a) frames awaits begins = (After a begins.0 ∷ frames, begins.1, step_mark begins.2)
mark_goes _ frames awaits begins = absurd (true_false (sym awaits))

dec_empty_frame : (frame : Frame) → Dec (frame ≡ Empty)
dec_empty_frame Empty = yes refl
dec_empty_frame _ = no (λ same. cc)

-- where `-` comes and no mark is awaited
dec_minus : (frame : Frame) (frames : List Frame) {texts rest : List (List ℕ)} → texts ≡ codes "-" ∷ rest → awaits_mark frame ≡ false → Dec (Goes (frame ∷ frames) texts)
dec_minus frame frames {texts = texts} {rest = rest} is waits = by (dec_begins_number rest)
  where
    by : Dec (BeginsNumber rest) → Dec (Goes (frame ∷ frames) texts)
    by (yes (digits, n, left, same, number)) = taken (place frame (Signed digits)) refl
      where
        taken : (o : Option Frame) → place frame (Signed digits) ≡ o → Dec (Goes (frame ∷ frames) texts)
        taken None none = no (λ some. stuck_signed (is ∙ ap (λ ts. codes "-" ∷ ts) same) number waits none some.2)
        taken (Some next) placed = yes (next ∷ frames, left, step_signed (is ∙ ap (λ ts. codes "-" ∷ ts) same) number waits placed)
    by (no unsigned) = turned (dec_empty_frame frame)
      where
        turned : Dec (frame ≡ Empty) → Dec (Goes (frame ∷ frames) texts)
        turned (yes same) = yes (subst (λ f. Goes (f ∷ frames) texts) (sym same) (Turned ∷ frames, rest, step_turned is unsigned))
        turned (no some) = no (λ step. stuck_minus is unsigned waits some step.2)

-- where an operand comes, or nothing that is known
dec_operand : (frame : Frame) (frames : List Frame) {texts : List (List ℕ)} → ((rest : List (List ℕ)) → texts ≡ codes "(" ∷ rest → ⊥) → ((rest : List (List ℕ)) → texts ≡ codes ")" ∷ rest → ⊥) → ((rest : List (List ℕ)) → texts ≡ codes "-" ∷ rest → ⊥)
    → (awaits_mark frame ≡ true → BeginsMark texts → ⊥) → Dec (Goes (frame ∷ frames) texts)
dec_operand frame frames {texts = texts} opens closes minus awaits = by (dec_atom texts)
  where
    by : Dec (Atom texts) → Dec (Goes (frame ∷ frames) texts)
    by (yes (x, rest, atom)) = taken (place frame x) refl
      where
        taken : (o : Option Frame) → place frame x ≡ o → Dec (Goes (frame ∷ frames) texts)
        taken None none = no (λ some. stuck_atom atom awaits none some.2)
        taken (Some next) placed = yes (next ∷ frames, rest, step_atom atom awaits placed)
    by (no none) = no (λ some. stuck_other opens closes minus awaits (λ x rest atom. none (x, rest, atom)) some.2)

true_or_false : (frame : Frame) → (awaits_mark frame ≡ true → ⊥) → awaits_mark frame ≡ false
true_or_false (One a) never = absurd (never refl)
true_or_false _ never = refl

-- texts that begin with this one
abbrev Opens : List (List ℕ) → List ℕ → Type 0
Opens texts text = (rest : List (List ℕ)) × (texts ≡ text ∷ rest)

-- whether there is a step
pub dec_step : (frames : List Frame) (texts : List (List ℕ)) → Dec (Goes frames texts)
dec_step [] texts = no (λ some. no_frames some.2)
dec_step (frame ∷ frames) texts = at_open (dec_first (codes "(") texts)
  where
    at_minus : (Opens texts (codes "(") → ⊥) → (Opens texts (codes ")") → ⊥) → ((awaits_mark frame ≡ true) × BeginsMark texts → ⊥) → Dec (awaits_mark frame ≡ true) → Dec (Opens texts (codes "-")) → Dec (Goes (frame ∷ frames) texts)
    at_minus opens closes marks (yes awaits) (yes minus) = yes (mark_goes frame frames awaits (Minus, minus.0, minus.1))
    at_minus opens closes marks (no never) (yes minus) = dec_minus frame frames minus.1 (true_or_false frame never)
    at_minus opens closes marks awaits (no minus) = dec_operand frame frames (λ rest is. opens (rest, is)) (λ rest is. closes (rest, is)) (λ rest is. minus (rest, is)) (λ awaits begins. marks (awaits, begins))

    at_mark : (Opens texts (codes "(") → ⊥) → (Opens texts (codes ")") → ⊥) → Dec ((awaits_mark frame ≡ true) × BeginsMark texts) → Dec (Goes (frame ∷ frames) texts)
    at_mark opens closes (yes both) = yes (mark_goes frame frames both.0 both.1)
    at_mark opens closes (no marks) = at_minus opens closes marks (dec_true (awaits_mark frame)) (dec_first (codes "-") texts)

    at_close : (Opens texts (codes "(") → ⊥) → Dec (Opens texts (codes ")")) → Dec (Goes (frame ∷ frames) texts)
    at_close opens (yes close) = dec_close frame frames close.1
    at_close opens (no closes) = at_mark opens closes (dec_both (dec_true (awaits_mark frame)) (dec_begins_mark texts))

    at_open : Dec (Opens texts (codes "(")) → Dec (Goes (frame ∷ frames) texts)
    at_open (yes opening) = yes (Empty ∷ frame ∷ frames, opening.0, step_open opening.1)
    at_open (no opens) = at_close opens (dec_first (codes ")") texts)

-- a step takes a text
step_shorter : {frames after : List Frame} {texts rest : List (List ℕ)} → Step frames texts after rest → length rest < length texts
step_shorter (step_open is) = let long = ap length is in omega (arith, long)
step_shorter (step_close is shut got) = let long = ap length is in omega (arith, long)
step_shorter (step_mark is) = let long = ap length is in omega (arith, long)
step_shorter (step_signed is number waits placed) = let long = ap length is in omega (arith, long)
step_shorter (step_turned is unsigned) = let long = ap length is in omega (arith, long)
step_shorter (step_atom atom awaits placed) = atom_shorter atom

-- a run to the end of the texts
abbrev pub Ends : List Frame → List (List ℕ) → Type 0
Ends frames texts = (after : List Frame) × Steps frames texts after []

dec_run_within : (fuel : ℕ) (frames : List Frame) (texts : List (List ℕ)) → length texts < fuel → Dec (Ends frames texts)
dec_run_within zero frames texts short = absurd (omega (arith, short))
dec_run_within (suc fuel) frames texts short = by (dec_run_within fuel) (dec_empty texts) (dec_step frames texts)
  where
    by : ((between : List Frame) (rest : List (List ℕ)) → length rest < fuel → Dec (Ends between rest)) → Dec (texts ≡ []) → Dec (Goes frames texts) → Dec (Ends frames texts)
    by fewer (yes none) goes = yes (frames, subst (λ ts. Steps frames ts frames []) (sym none) no_step)
    by fewer (no some) (yes (between, rest, step)) =
        map_dec (λ ends. (ends.0, then_step step ends.1)) (λ ends. (ends.0, steps_after ends.1 step)) (fewer between rest (omega (arith, short, step_shorter step)))
    by fewer (no some) (no none) = no (λ ends. steps_stuck some (λ between rest step. none (between, rest, step)) ends.1)

-- whether there is one
pub dec_run : (frames : List Frame) (texts : List (List ℕ)) → Dec (Ends frames texts)
dec_run frames texts = dec_run_within (suc (length texts)) frames texts (omega arith)
