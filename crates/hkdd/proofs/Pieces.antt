-- Pieces of the model, read one after the other.
use Rattle.std.proofs.Common.{◌≡◌, ◌∙◌, sym, refl, ap, subst, inl, inr, arith, ℕ, ◌+◌, ◌≤◌, List, [], ◌++◌, length, length-append, length-take, take, append-nil}
use Rattle.std.specs.Prelude.{◌⊎◌, Option, Some, None, Result, Ok, Err}
use Rattle.hk_base.specs.declared.host.Slot.TheVariants.{Model}
use Rattle.std.proofs.Math.Seq.{take-append_seam}
use Rattle.std.proofs.lemmas.List.{take_all}
use Rattle.hk_base.specs.declared.host.Failed.{Failed}
use Rattle.hk_base.specs.Hosts.{View, Took, Reads, Opened, CanRead, prepended}
use Rattle.hk_base.proofs.HostLaws.{Took-nil, Took-none, Took-then, Took-told, CanRead-after}
use Rattle.hkdd.specs.Limits.{most_bytes}
use Rattle.hkdd.specs.inside.Readings.{TakesPiece, TakesAll, TookFew}
use Rattle.hkdd.specs.Runs.{WereRead}
use Rattle.hkdd.proofs.Takings.{told_at_opening}

-- what was read so far
pub record Reached (old now : View) (text : List ℕ) : Type 0 where
  pub took : Took Model text old now
  pub within : length text ≤ most_bytes + 1
  pub can_read : CanRead now Model

pub begins : (old : View) → CanRead old Model → Reached old old []
begins old can = record { took = Took-none Model old; within = omega arith; can_read = can }

pub goes_on : (old now next : View) (text more : List ℕ) (count : ℕ) → Reached old now text → TakesPiece now next text more count → Reached old next more
goes_on old now next text more count so_far piece = record {
  took = let P : List ℕ → Type 0 = λ bytes. Took Model bytes old next in
      subst P (sym piece.appended) (Took-then Model text piece.added old now next so_far.took piece.took);
  within = piece.within;
  can_read = CanRead-after now next Model piece.took.opened so_far.can_read;
}

-- what was taken so far, and of the next piece
pub TookFew-then : (old now new : View) (text : List ℕ) → Reached old now text → TookFew text now new → TookFew [] old new
TookFew-then old now new text so_far piece = record {
  taken = text ++ piece.taken;
  took = Took-then Model text piece.taken old now new so_far.took piece.took;
  few = let few = piece.few in omega (arith, length-append text piece.taken);
}

-- a reading took no more than its buffer has room for, whatever it answers
pub TookFew-reads : (before : List ℕ) (old : View) (answer : Result ℕ Failed) (buffer : List ℕ) (new : View) → length before + length buffer ≤ most_bytes + 1 → Reads old Model answer buffer new → TookFew before old new
TookFew-reads before old (Ok count) buffer new room reads = record {
  taken = take count buffer;
  took = reads.took;
  few = let within = reads.within in grind (arith, length-take count buffer);
}
TookFew-reads before old (Err failed) buffer new room reads = record {
  taken = [];
  took = Took-nil Model old new reads.moved_nothing;
  few = omega arith;
}

-- bytes that are all, or as many as are wanted, are the front of that many
front_of : (n : ℕ) (bytes rest : List ℕ) → length bytes ≤ n → (rest ≡ []) ⊎ (length bytes ≡ n) → bytes ≡ take n (bytes ++ rest)
front_of n bytes rest within (inl none) = sym (ap (λ (xs : List ℕ). take n (bytes ++ xs)) none ∙ ap (take n) (append-nil bytes) ∙ take_all n bytes within)
front_of n bytes rest within (inr all) = sym (ap (λ (k : ℕ). take k (bytes ++ rest)) (sym all) ∙ take-append_seam bytes rest)

-- what was told of the file before is what was read and what is left
were_read : (n : ℕ) (whole bytes : List ℕ) (left : Option (List ℕ)) → length bytes ≤ n → ((rest : List ℕ) → left ≡ Some rest → rest ≡ []) ⊎ (length bytes ≡ n) → Some whole ≡ prepended bytes left → bytes ≡ take n whole
were_read n whole bytes None within enough told = cc
were_read n whole bytes (Some rest) within (inl ends) told =
    let same : whole ≡ bytes ++ rest = cc in
    front_of n bytes rest within (inl (ends rest refl)) ∙ ap (take n) (sym same)
were_read n whole bytes (Some rest) within (inr all) told =
    let same : whole ≡ bytes ++ rest = cc in
    front_of n bytes rest within (inr all) ∙ ap (take n) (sym same)

-- a file that was opened, and whose bytes were then taken, was read
pub WereRead-taken : (file : List ℕ) (old between new : View) (bytes : List ℕ) → Opened Model file old between → TakesAll between new bytes → WereRead old file bytes
WereRead-taken file old between new bytes opened takes = λ whole told.
    were_read (most_bytes + 1) whole bytes (new.left Model) takes.within takes.enough
    (sym told ∙ sym (told_at_opening file old between opened) ∙ Took-told Model bytes between new takes.took)
