-- Where there is no step.
use Rattle.std.proofs.Common.{◌≡◌, ℕ, true, false, List, [], ◌∷◌, Option, Some, None, codes, refl, sym, ap, ◌∙◌}
use Rattle.hk_text.specs.Numbers.{IsNumber}
use Rattle.hk_terms.specs.Operands.{Operand, Signed, AtomThen}
use Rattle.hk_exprs.specs.inside.Machines.{Frame, Empty, Content, place, closed, received, awaits_mark, BeginsMark, BeginsNumber, Step, step_open, step_close, step_mark, step_signed, step_turned, step_atom}
use Rattle.hk_text.proofs.TokenTexts.{apart, same_first, same_rest}
use Rattle.hk_exprs.proofs.MachineMarks.{some_one, none_some, no_mark}
use Rattle.hk_terms.proofs.MachineAtoms.{no_atom, atom_same}
use Rattle.hk_exprs.proofs.MachineSteps.{true_false, signed_or_turned}

none_made : {X Y : Type 0} (make : X → Option Y) {x y : X} {z : Y} → x ≡ y → make x ≡ None → make y ≡ Some z → ⊥
none_made make same none some = none_some (sym none ∙ ap make same ∙ some)

-- no parenthesis is open that `)` closes
pub stuck_outmost : {frame : Frame} {after : List Frame} {texts rest left : List (List ℕ)} → texts ≡ codes ")" ∷ rest → Step (frame ∷ []) texts after left → ⊥
stuck_outmost is (step_open other) = apart 0 is other refl
stuck_outmost is (step_mark {mark = mark} other) = no_mark mark (same_first other is) refl
stuck_outmost is (step_signed other number awaits placed) = apart 0 is other refl
stuck_outmost is (step_turned other unsigned) = apart 0 is other refl
stuck_outmost is (step_atom atom awaits placed) = no_atom atom is refl refl refl

-- what stands in the parenthesis is no content
pub stuck_closed : {frame : Frame} {frames after : List Frame} {texts rest left : List (List ℕ)} → texts ≡ codes ")" ∷ rest → closed frame ≡ None → Step (frame ∷ frames) texts after left → ⊥
stuck_closed is none (step_open other) = apart 0 is other refl
stuck_closed is none (step_close other shut got) = none_some (sym none ∙ shut)
stuck_closed is none (step_mark {mark = mark} other) = no_mark mark (same_first other is) refl
stuck_closed is none (step_signed other number awaits placed) = apart 0 is other refl
stuck_closed is none (step_turned other unsigned) = apart 0 is other refl
stuck_closed is none (step_atom atom awaits placed) = no_atom atom is refl refl refl

-- the content of the parenthesis fits not where it stands
pub stuck_received : {frame outer : Frame} {content : Content} {frames after : List Frame} {texts rest left : List (List ℕ)} → texts ≡ codes ")" ∷ rest → closed frame ≡ Some content → received outer content ≡ None → Step (frame ∷ outer ∷ frames) texts after left → ⊥
stuck_received is shut none (step_open other) = apart 0 is other refl
stuck_received {outer = outer} is shut none (step_close other shut' got) = none_made (received outer) (some_one (sym shut ∙ shut')) none got
stuck_received is shut none (step_mark {mark = mark} other) = no_mark mark (same_first other is) refl
stuck_received is shut none (step_signed other number awaits placed) = apart 0 is other refl
stuck_received is shut none (step_turned other unsigned) = apart 0 is other refl
stuck_received is shut none (step_atom atom awaits placed) = no_atom atom is refl refl refl

-- `-` and a number fit not
pub stuck_signed : {frame : Frame} {frames after : List Frame} {digits : List ℕ} {n : ℕ} {texts rest left : List (List ℕ)} → texts ≡ codes "-" ∷ digits ∷ rest → IsNumber digits n → awaits_mark frame ≡ false → place frame (Signed digits) ≡ None → Step (frame ∷ frames) texts after left → ⊥
stuck_signed is number waits none (step_open other) = apart 0 is other refl
stuck_signed is number waits none (step_close other shut got) = apart 0 is other refl
stuck_signed is number waits none (step_mark other) = true_false waits
stuck_signed {frame = frame} is number waits none (step_signed other number' awaits placed) = none_made (λ digits. place frame (Signed digits)) (same_first refl (same_rest is other)) none placed
stuck_signed is number waits none (step_turned other unsigned) = signed_or_turned is number other unsigned
stuck_signed is number waits none (step_atom atom awaits placed) = no_atom atom is refl refl refl

-- `-` before something else than a number fits only where nothing was taken
pub stuck_minus : {frame : Frame} {frames after : List Frame} {texts rest left : List (List ℕ)} → texts ≡ codes "-" ∷ rest → (BeginsNumber rest → ⊥) → awaits_mark frame ≡ false → (frame ≡ Empty → ⊥) → Step (frame ∷ frames) texts after left → ⊥
stuck_minus is unsigned waits some (step_open other) = apart 0 is other refl
stuck_minus is unsigned waits some (step_close other shut got) = apart 0 is other refl
stuck_minus is unsigned waits some (step_mark other) = true_false waits
stuck_minus is unsigned waits some (step_signed other number awaits placed) = signed_or_turned other number is unsigned
stuck_minus is unsigned waits some (step_turned other unsigned') = some refl
stuck_minus is unsigned waits some (step_atom atom awaits placed) = no_atom atom is refl refl refl

-- an operand that no parenthesis stands around fits not
pub stuck_atom : {frame : Frame} {frames after : List Frame} {x : Operand} {texts rest left : List (List ℕ)} → AtomThen texts x rest → (awaits_mark frame ≡ true → BeginsMark texts → ⊥) → place frame x ≡ None → Step (frame ∷ frames) texts after left → ⊥
stuck_atom atom awaits none (step_open other) = no_atom atom other refl refl refl
stuck_atom atom awaits none (step_close other shut got) = no_atom atom other refl refl refl
stuck_atom atom awaits none (step_mark {mark = mark} {rest = rest} other) = awaits refl (mark, rest, other)
stuck_atom atom awaits none (step_signed other number waits placed) = no_atom atom other refl refl refl
stuck_atom atom awaits none (step_turned other unsigned) = no_atom atom other refl refl refl
stuck_atom {frame = frame} atom awaits none (step_atom atom' awaits' placed) = none_made (place frame) (atom_same atom atom').0 none placed

-- texts that begin with no parenthesis, no `-`, no mark where one is awaited and no operand
pub stuck_other : {frame : Frame} {frames after : List Frame} {texts left : List (List ℕ)}
    → ((rest : List (List ℕ)) → texts ≡ codes "(" ∷ rest → ⊥) → ((rest : List (List ℕ)) → texts ≡ codes ")" ∷ rest → ⊥) → ((rest : List (List ℕ)) → texts ≡ codes "-" ∷ rest → ⊥)
    → (awaits_mark frame ≡ true → BeginsMark texts → ⊥) → ((x : Operand) (rest : List (List ℕ)) → AtomThen texts x rest → ⊥)
    → Step (frame ∷ frames) texts after left → ⊥
stuck_other opens closes minus awaits none (step_open {rest = rest} other) = opens rest other
stuck_other opens closes minus awaits none (step_close {rest = rest} other shut got) = closes rest other
stuck_other opens closes minus awaits none (step_mark {mark = mark} {rest = rest} other) = awaits refl (mark, rest, other)
stuck_other opens closes minus awaits none (step_signed other number waits placed) = minus _ other
stuck_other opens closes minus awaits none (step_turned {rest = rest} other unsigned) = minus rest other
stuck_other opens closes minus awaits none (step_atom {x = x} {rest = rest} atom awaits' placed) = none x rest atom
