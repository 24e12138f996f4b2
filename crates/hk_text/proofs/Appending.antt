-- Texts that are appended piece by piece, and fronts of them where memory ends.
use Rattle.std.proofs.Common.{◌≡◌, ℕ, suc, ◌+◌, ◌<◌, List, [], ◌∷◌, ◌++◌, length, take, drop, get_or, Result, Ok, Err, OnErr, refl, sym, subst, ap, ◌∙◌, append_assoc, arith}
use Rattle.std.specs.List.{flat_map}
use Rattle.std.proofs.Math.Seq.{take-suc}
use Rattle.std.proofs.lemmas.Grind.{flat_map-append}
use Rattle.std.proofs.lemmas.List.{append-nil, take-append-drop}
use Rattle.hk_base.specs.Lists.{AppendsFront}

module _ {A : Type 0} where
  -- a front of the first piece is one of the whole
  pub AppendsFront-first : (old new first left : List A) → AppendsFront old new first → AppendsFront old new (first ++ left)
  AppendsFront-first old new first left part = record {
    front = part.front;
    is_front = record { rest = part.is_front.rest ++ left; parts = ap (λ xs. xs ++ left) part.is_front.parts ∙ append_assoc part.front part.is_front.rest left };
    appended = part.appended;
  }

  -- the first piece and a front of what is left are a front of the whole
  pub AppendsFront-after : (old middle new first left : List A) → middle ≡ old ++ first → AppendsFront middle new left → AppendsFront old new (first ++ left)
  AppendsFront-after old middle new first left before part = record {
    front = first ++ part.front;
    is_front = record { rest = part.is_front.rest; parts = ap (λ xs. first ++ xs) part.is_front.parts ∙ sym (append_assoc first part.front part.is_front.rest) };
    appended = part.appended ∙ ap (λ xs. xs ++ part.front) before ∙ append_assoc old first part.front;
  }

module _ {A : Type 0} where
  -- the new list is the old one with the whole at its end, but for what is left of it
  pub record Appended (old new whole left : List A) : Type 0 where
    pub done : List A
    pub appended : new ≡ old ++ done
    pub parts : whole ≡ done ++ left

  -- nothing is appended yet
  pub Appended-none : (old whole : List A) → Appended old old whole whole
  Appended-none old whole = record { done = []; appended = sym (append-nil old); parts = refl }

  -- one more piece
  pub Appended-piece : (old middle new whole piece left : List A) → Appended old middle whole (piece ++ left) → new ≡ middle ++ piece → Appended old new whole left
  Appended-piece old middle new whole piece left before added = record {
    done = before.done ++ piece;
    appended = added ∙ ap (λ xs. xs ++ piece) before.appended ∙ append_assoc old before.done piece;
    parts = before.parts ∙ sym (append_assoc before.done piece left);
  }

  -- all is appended
  pub Appended-all : (old new whole : List A) → Appended old new whole [] → new ≡ old ++ whole
  Appended-all old new whole before = before.appended ∙ ap (λ xs. old ++ xs) (sym (append-nil before.done) ∙ sym before.parts)

  -- a front is appended where only a front of the next piece comes
  pub AppendsFront-piece : (old middle new whole piece left : List A) → Appended old middle whole (piece ++ left) → AppendsFront middle new piece → AppendsFront old new whole
  AppendsFront-piece old middle new whole piece left before part =
      subst (AppendsFront old new) (sym before.parts) (AppendsFront-after old middle new before.done (piece ++ left) before.appended (AppendsFront-first middle new piece left part))

-- the texts of items, one after another
module _ {X A : Type 0} (text : X → List A) where
  -- one item more
  pub items_more : (items : List X) (i : ℕ) (x : X) → i < length items → flat_map text (take (i + 1) items) ≡ flat_map text (take i items) ++ text (get_or items i x)
  items_more items i x within =
      let on : i + 1 ≡ suc i = omega arith in
      ap (λ n. flat_map text (take n items)) on ∙ ap (flat_map text) (take-suc items i x within)
      ∙ flat_map-append text (take i items) (get_or items i x ∷ [])
      ∙ ap (λ xs. flat_map text (take i items) ++ xs) (append-nil (text (get_or items i x)))

  -- a front of the text of an item, after those before it, is one of the whole
  pub AppendsFront-item : (items : List X) (i : ℕ) (x : X) (old middle new : List A) → i < length items → middle ≡ old ++ flat_map text (take i items) → AppendsFront middle new (text (get_or items i x))
      → AppendsFront old new (flat_map text items)
  AppendsFront-item items i x old middle new within before part =
      let done = flat_map text (take i items) in
      let item = text (get_or items i x) in
      let rest = flat_map text (drop (i + 1) items) in
      let parts : flat_map text items ≡ done ++ (item ++ rest) =
      ap (flat_map text) (sym (take-append-drop (i + 1) items)) ∙ flat_map-append text (take (i + 1) items) (drop (i + 1) items) ∙ ap (λ xs. xs ++ rest) (items_more items i x within) ∙ append_assoc done item rest in
      AppendsFront-piece old middle new (flat_map text items) item rest (record { done = done; appended = before; parts = parts }) part

-- a fact that always holds holds where the call is refused
pub OnErr-always : {T E P : Type 0} (result : Result T E) → P → OnErr result P
OnErr-always (Ok value) fact = tt
OnErr-always (Err error) fact = fact

-- what follows from a fact holds where the call is refused, where the fact does
pub OnErr-then : {T E P Q : Type 0} (result : Result T E) → (P → Q) → OnErr result P → OnErr result Q
OnErr-then (Ok value) follows fact = tt
OnErr-then (Err error) follows fact = follows fact
