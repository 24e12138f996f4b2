-- What was taken is the texts of the frames, and all of it is well written: a run to the end says an expression.
use Rattle.std.proofs.Common.{◌≡◌, ℕ, List, [], ◌∷◌, ◌++◌, Some, codes, refl, sym, ap, ap₂, ◌∙◌, append_assoc, append-nil}
use Rattle.hk_terms.specs.SetTexts.{SetText, set_texts, listed, IsSetText}
use Rattle.hk_terms.specs.NumTexts.{NumText, num_texts, IsNumText}
use Rattle.hk_terms.specs.CondTexts.{CondText, cond_texts, IsCondText}
use Rattle.hk_terms.specs.Operands.{mark_text, Operand, Signed, AtomThen, atom_word, atom_item, atom_low, atom_high, atom_number, atom_one, atom_values}
use Rattle.hk_exprs.specs.inside.Machines.{as_num, as_set, as_cond, Frame, Empty, One, First, Both, Step, step_open, step_close, step_mark, step_signed, step_turned, step_atom, Steps, no_step, then_step}
use Rattle.hk_exprs.proofs.FramesTexts.{operand_texts, IsOperand, frame_texts, IsFrame, outer_texts, frames_texts, AreFrames, num_has, set_has, cond_has}
use Rattle.hk_exprs.proofs.FramesTaken.{place_has}
use Rattle.hk_exprs.proofs.FramesClosed.{closed_has, received_has}

-- an operand that texts begin with is well written, and they are its texts and the rest
pub atom_has : {texts rest : List (List ℕ)} {x : Operand} → AtomThen texts x rest → IsOperand x × (texts ≡ operand_texts x ++ rest)
atom_has (atom_word is word opening point) = (word, is)
atom_has (atom_item is word) = (word, is)
atom_has (atom_low is word) = (word, is)
atom_has (atom_high is word) = (word, is)
atom_has (atom_number {n = n} is number) = ((n, number), is)
atom_has (atom_one is) = (tt, is)
atom_has (atom_values {numbers = numbers} {rest = rest} is rising) = (rising, is ∙ ap (λ texts. codes "{" ∷ texts) (sym (append_assoc (listed numbers) (codes "}" ∷ []) rest)))

-- the frames are well written, and what was taken and what is left are these texts
pub record Takes (whole : List (List ℕ)) (frames : List Frame) (left : List (List ℕ)) : Type 0 where
  pub written : AreFrames frames
  pub texts_are : frames_texts frames ++ left ≡ whole

-- the innermost frame takes texts
next_takes : {whole left rest : List (List ℕ)} {frame next : Frame} (frames : List Frame) → IsFrame next → frame_texts next ++ rest ≡ frame_texts frame ++ left → Takes whole (frame ∷ frames) left → Takes whole (next ∷ frames) rest
next_takes {left = left} {rest = rest} {frame = frame} {next = next} frames is same takes = record {
  written = (is, takes.written.1);
  texts_are = append_assoc (outer_texts frames) (frame_texts next) rest ∙ ap (λ texts. outer_texts frames ++ texts) same ∙ sym (append_assoc (outer_texts frames) (frame_texts frame) left) ∙ takes.texts_are;
}

-- an operand more
placed_takes : {whole left rest : List (List ℕ)} {frame next : Frame} (frames : List Frame) (x : Operand) → IsFrame next × (frame_texts next ≡ frame_texts frame ++ operand_texts x) → left ≡ operand_texts x ++ rest → Takes whole (frame ∷ frames) left → Takes whole (next ∷ frames) rest
placed_takes {left = left} {rest = rest} {frame = frame} frames x has is takes =
    next_takes frames has.0 (ap (λ texts. texts ++ rest) has.1 ∙ append_assoc (frame_texts frame) (operand_texts x) rest ∙ ap (λ texts. frame_texts frame ++ texts) (sym is)) takes

-- a parenthesis closed
closing : (before outer inner rest : List (List ℕ)) → (before ++ (outer ++ (codes "(" ∷ (inner ++ codes ")" ∷ [])))) ++ rest ≡ ((before ++ (outer ++ codes "(" ∷ [])) ++ inner) ++ codes ")" ∷ rest
closing before outer inner rest = simp append_assoc

-- a parenthesis opened
opening : (before outer rest : List (List ℕ)) → ((before ++ (outer ++ codes "(" ∷ [])) ++ []) ++ rest ≡ (before ++ outer) ++ codes "(" ∷ rest
opening before outer rest = simp append_assoc

-- a step keeps what was taken and what is left
pub step_said : {whole left rest : List (List ℕ)} {frames after : List Frame} → Step frames left after rest → Takes whole frames left → Takes whole after rest
step_said (step_open {frame = frame} {frames = frames} {rest = rest} is) takes = record {
  written = (tt, takes.written);
  texts_are = opening (outer_texts frames) (frame_texts frame) rest ∙ ap (λ texts. frames_texts (frame ∷ frames) ++ texts) (sym is) ∙ takes.texts_are;
}
step_said (step_close {frame = frame} {outer = outer} {next = next} {frames = frames} {content = content} {rest = rest} is shut got) takes =
    let held = closed_has frame shut takes.written.0 in
    let has = received_has outer content got takes.written.1.0 held.0 in
    record {
      written = (has.0, takes.written.1.1);
      texts_are =
          ap (λ texts. (outer_texts frames ++ texts) ++ rest) (has.1 ∙ ap (λ texts. frame_texts outer ++ texts) held.1)
          ∙ closing (outer_texts frames) (frame_texts outer) (frame_texts frame) rest
          ∙ ap (λ texts. frames_texts (frame ∷ outer ∷ frames) ++ texts) (sym is)
          ∙ takes.texts_are;
    }
step_said (step_mark {a = a} {mark = mark} {frames = frames} {rest = rest} is) takes = next_takes frames takes.written.0 (append_assoc (operand_texts a) (mark_text mark ∷ []) rest ∙ ap (λ texts. operand_texts a ++ texts) (sym is)) takes
step_said (step_signed {frame = frame} {frames = frames} {digits = digits} {n = n} is number awaits placed) takes = placed_takes frames (Signed digits) (place_has frame (Signed digits) placed takes.written.0 (n, number)) is takes
step_said (step_turned {frames = frames} is unsigned) takes = next_takes frames tt (sym is) takes
step_said (step_atom {frame = frame} {frames = frames} {x = x} atom awaits placed) takes =
    let has = atom_has atom in
    placed_takes frames x (place_has frame x placed takes.written.0 has.0) has.1 takes

-- and so does a run
pub steps_said : {whole left rest : List (List ℕ)} {frames after : List Frame} → Steps frames left after rest → Takes whole frames left → Takes whole after rest
steps_said no_step takes = takes
steps_said (then_step step steps) takes = steps_said steps (step_said step takes)

-- one operand that was taken has the texts
one_said : {texts : List (List ℕ)} {x : Operand} → Steps (Empty ∷ []) texts (One x ∷ []) [] → IsOperand x × (texts ≡ operand_texts x)
one_said {texts = texts} {x = x} steps =
    let said = steps_said steps (record { written = (tt, tt); texts_are = refl }) in
    (said.written.0, sym said.texts_are ∙ append-nil (operand_texts x))

-- a condition that was taken is well written, and has the texts
pub cond_said : {texts : List (List ℕ)} {x : Operand} {c : CondText} → Steps (Empty ∷ []) texts (One x ∷ []) [] → as_cond x ≡ Some c → IsCondText c × (texts ≡ cond_texts c)
cond_said {x = x} {c = c} steps same =
    let said = one_said steps in
    let has = cond_has x c same said.0 in
    (has.0, said.1 ∙ has.1)

-- the same of a number, and of a set
pub num_said : {texts : List (List ℕ)} {x : Operand} {e : NumText} → Steps (Empty ∷ []) texts (One x ∷ []) [] → as_num x ≡ Some e → IsNumText e × (texts ≡ num_texts e)
num_said {x = x} {e = e} steps same =
    let said = one_said steps in
    let has = num_has x e same said.0 in
    (has.0, said.1 ∙ has.1)

pub set_said : {texts : List (List ℕ)} {x : Operand} {e : SetText} → Steps (Empty ∷ []) texts (One x ∷ []) [] → as_set x ≡ Some e → IsSetText e × (texts ≡ set_texts e)
set_said {x = x} {e = e} steps same =
    let said = one_said steps in
    let has = set_has x e same said.0 in
    (has.0, said.1 ∙ has.1)

-- two numbers that were taken side by side are well written, and have the texts
pub pair_said : {texts : List (List ℕ)} {a b : Operand} {low high : NumText} → Steps (First ∷ []) texts (Both a b ∷ []) [] → as_num a ≡ Some low → as_num b ≡ Some high → IsNumText low × IsNumText high × (texts ≡ num_texts low ++ num_texts high)
pair_said {texts = texts} {a = a} {b = b} {low = low} {high = high} steps one two =
    let said = steps_said steps (record { written = (tt, tt); texts_are = refl }) in
    let first = num_has a low one said.written.0.0 in
    let second = num_has b high two said.written.0.1 in
    (first.0, second.0, sym said.texts_are ∙ append-nil (operand_texts a ++ operand_texts b) ∙ ap₂ (λ xs ys. xs ++ ys) first.1 second.1)
