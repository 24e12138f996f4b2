-- A call of a host in memory, told exactly, is a call of a host.
use Rattle.std.proofs.Common.{◌≡◌, ◌∙◌, sym, refl, ap, subst, ℕ, ◌<◌, ◌≤◌, ◌↔◌, true, List, [], ◌++◌, length, take, drop, min, inl, inr, arith}
use Rattle.std.proofs.Math.Nat.{eq-or-lt_of_le}
use Rattle.std.proofs.lemmas.List.{take-append-drop, take_all, nil_from_length}
use Rattle.std.specs.Prelude.{Option, Some, None, is_some, unwrap_or, Result, Ok, Err}
use Rattle.hk_base.specs.declared.host.Slot.{Slot}
use Rattle.hk_base.specs.declared.host.Slot.TheVariants.{Model, CertIn, CertOut, Out}
use Rattle.hk_base.specs.declared.host.Failed.{Failed}
use Rattle.hk_base.specs.declared.calls.CallKind.TheVariants.{Opening, Reading, Writing}
use Rattle.hk_base.specs.Calls.{one_more}
use Rattle.hk_base.specs.Hosts.{largest_count, OpeningFaulted, ReadFaulted, WriteFaulted, Rose, NeverFell, MovedNothing, Opened, Opens, Took, Reads, Wrote, Writes, IsNamed, CanRead, CanWrite}
use Rattle.hk_base.specs.Inputs.{told_of}
use Rattle.hk_base.specs.Memory.{Memory, view_of, OpensExactly, ReadsExactly, WritesExactly, opened_by, after_call, OpeningFails, output_of, with_output, with_opening_fault, with_read_fault, with_write_fault, with_left, bytes_left}
use Rattle.hk_base.specs.inside.FaultCounts.{FaultsFit}
use Rattle.hk_base.specs.Outputs.{Written}
use Rattle.hk_base.proofs.FaultLaws.{NeverFell-same}
use Rattle.hk_base.proofs.HostLaws.{SameOutside-quiet}
use Rattle.hk_base.proofs.SlotLaws.{same_slots}

Rose-one_more : (count : ℕ) → count ≤ largest_count → Rose count (one_more count)
Rose-one_more count fits = elim (eq-or-lt_of_le fits) [ inl top ↦ inr (omega arith) | inr below ↦ inl (omega arith) ]

NeverFell-one_more : (count : ℕ) → count ≤ largest_count → NeverFell count (one_more count)
NeverFell-one_more count fits = record { kept = omega arith; fits = omega arith }

module _ {A : Type 0} where
  is_some-not_none : (told : Option A) → (told ≡ None → ⊥) → is_some told ≡ true
  is_some-not_none None absent = absurd (absent refl)
  is_some-not_none (Some value) absent = refl

  some-unwrap_or : (told : Option A) (default : A) → is_some told ≡ true → told ≡ Some (unwrap_or told default)
  some-unwrap_or None default there = cc
  some-unwrap_or (Some value) default there = refl

read_fault : (m : Memory) → FaultsFit m → MovedNothing (view_of m) (view_of (with_read_fault m))
read_fault m fit = record {
  outside = record { told = refl; lends = refl; read_faults = NeverFell-one_more m.read_faults fit.0; write_faults = NeverFell-same m.write_faults };
  opened = refl;
  left = refl;
  written = refl;
}

write_fault : (m : Memory) → FaultsFit m → MovedNothing (view_of m) (view_of (with_write_fault m))
write_fault m fit = record {
  outside = record { told = refl; lends = refl; read_faults = NeverFell-same m.read_faults; write_faults = NeverFell-one_more m.write_faults fit.1 };
  opened = refl;
  left = refl;
  written = refl;
}

opening_moved_nothing : (m : Memory) (slot : Slot) → FaultsFit m → MovedNothing (view_of m) (view_of (with_opening_fault (after_call m Opening) slot))
opening_moved_nothing m Model fit = read_fault (after_call m Opening) fit
opening_moved_nothing m CertIn fit = read_fault (after_call m Opening) fit
opening_moved_nothing m CertOut fit = write_fault (after_call m Opening) fit
opening_moved_nothing m Out fit = write_fault (after_call m Opening) fit

opening_faulted : (m : Memory) (slot : Slot) → FaultsFit m → OpeningFaulted slot (view_of m) (view_of (with_opening_fault (after_call m Opening) slot))
opening_faulted m Model fit = Rose-one_more m.read_faults fit.0
opening_faulted m CertIn fit = Rose-one_more m.read_faults fit.0
opening_faulted m CertOut fit = Rose-one_more m.write_faults fit.1
opening_faulted m Out fit = Rose-one_more m.write_faults fit.1

opened-view : (m : Memory) (slot : Slot) (name : List ℕ) → IsNamed slot → (OpeningFails m slot name → ⊥) → Opened slot name (view_of m) (view_of (opened_by (after_call m Opening) slot name))
opened-view m Model name named succeeds = record {
  outside = SameOutside-quiet _ _ refl refl refl refl;
  opened = same_slots _ _ (is_some-not_none (told_of m.inputs name) (λ absent. succeeds (inr (tt, absent)))) refl refl refl;
  left = same_slots _ _ refl refl refl refl;
  written = refl;
}
opened-view m CertIn name named succeeds = record {
  outside = SameOutside-quiet _ _ refl refl refl refl;
  opened = same_slots _ _ refl (is_some-not_none (told_of m.inputs name) (λ absent. succeeds (inr (tt, absent)))) refl refl;
  left = same_slots _ _ refl refl refl refl;
  written = refl;
}
opened-view m CertOut name named succeeds = record {
  outside = SameOutside-quiet _ _ refl refl refl refl;
  opened = same_slots _ _ refl refl refl refl;
  left = refl;
  written = same_slots _ _ refl refl refl refl;
}
opened-view m Out name named succeeds = absurd named

pub Opens-exactly : (old : Memory) (slot : Slot) (name : List ℕ) (answer : Result (Unit {0}) Failed) (new : Memory) → IsNamed slot → FaultsFit old → OpensExactly old slot name answer new → Opens (view_of old) slot name answer (view_of new)
Opens-exactly old slot name (Ok _) new named fit exactly =
    let P : Memory → Type 0 = λ m. Opened slot name (view_of old) (view_of m) in
    let succeeds : OpeningFails old slot name → ⊥ = λ fails. let failed = exactly.fails.1 fails in cc in
    record { opened = subst P (sym exactly.opened) (opened-view old slot name named succeeds); moved_nothing = tt; faulted = tt }
Opens-exactly old slot name (Err _) new named fit exactly =
    let P : Memory → Type 0 = λ m. MovedNothing (view_of old) (view_of m) in
    let Q : Memory → Type 0 = λ m. OpeningFaulted slot (view_of old) (view_of m) in
    record {
      opened = tt;
      moved_nothing = subst P (sym exactly.failed) (opening_moved_nothing old slot fit);
      faulted = subst Q (sym exactly.failed) (opening_faulted old slot fit);
    }

-- what was left is what was taken, and then what is left now
left_parts : (left : Option (List ℕ)) (filled : List ℕ) (count : ℕ) → is_some left ≡ true → take count filled ≡ take count (unwrap_or left []) → left ≡ Some (take count filled ++ drop count (unwrap_or left []))
left_parts left filled count there front =
    some-unwrap_or left [] there
    ∙ ap Some (sym (take-append-drop count (unwrap_or left [])))
    ∙ ap (λ (bytes : List ℕ). Some (bytes ++ drop count (unwrap_or left []))) (sym front)

took-view : (m : Memory) (slot : Slot) (filled : List ℕ) (count : ℕ) → CanRead (view_of m) slot → take count filled ≡ take count (bytes_left m slot) → Took slot (take count filled) (view_of m) (view_of (with_left (after_call m Reading) slot (drop count (bytes_left m slot))))
took-view m Model filled count can front = record {
  outside = SameOutside-quiet _ _ refl refl refl refl;
  opened = same_slots _ _ (sym can) refl refl refl;
  left = same_slots _ _ (left_parts m.model filled count can front) refl refl refl;
  written = refl;
}
took-view m CertIn filled count can front = record {
  outside = SameOutside-quiet _ _ refl refl refl refl;
  opened = same_slots _ _ refl (sym can) refl refl;
  left = same_slots _ _ refl (left_parts m.cert_in filled count can front) refl refl;
  written = refl;
}
took-view m CertOut filled count can front = absurd can
took-view m Out filled count can front = absurd can

left-view : (m : Memory) (slot : Slot) (rest : List ℕ) → CanRead (view_of m) slot → (view_of m).left slot ≡ Some rest → bytes_left m slot ≡ rest
left-view m Model rest can told = ap (λ (left : Option (List ℕ)). unwrap_or left []) told
left-view m CertIn rest can told = ap (λ (left : Option (List ℕ)). unwrap_or left []) told
left-view m CertOut rest can told = absurd can
left-view m Out rest can told = absurd can

at_end : (count room : ℕ) (left rest : List ℕ) → 0 < room → count ≡ min room (length left) → left ≡ rest → (count ≡ 0) ↔ (rest ≡ [])
at_end count room left rest some exact same =
    let lengths : length left ≡ length rest = ap length same in
    (λ none. nil_from_length rest (omega arith), λ empty. let none : length rest ≡ 0 = ap length empty in omega arith)

pub Reads-exactly : (old : Memory) (slot : Slot) (buffer : List ℕ) (answer : Result ℕ Failed) (filled : List ℕ) (new : Memory) → CanRead (view_of old) slot → 0 < length buffer → length filled ≡ length buffer → FaultsFit old → ReadsExactly old slot buffer answer filled new → Reads (view_of old) slot answer filled (view_of new)
Reads-exactly old slot buffer (Ok count) filled new can some same fit exactly =
    let P : Memory → Type 0 = λ m. Took slot (take count filled) (view_of old) (view_of m) in
    let exact = exactly.count in
    record {
      within = omega arith;
      took = subst P (sym exactly.read) (took-view old slot filled count can exactly.front);
      at_end = λ rest told. at_end count (length buffer) (bytes_left old slot) rest some exactly.count (left-view old slot rest can told);
      moved_nothing = tt;
      faulted = tt;
    }
Reads-exactly old slot buffer (Err _) filled new can some same fit exactly =
    let P : Memory → Type 0 = λ m. MovedNothing (view_of old) (view_of m) in
    let Q : Memory → Type 0 = λ m. ReadFaulted (view_of old) (view_of m) in
    record {
      within = tt;
      took = tt;
      at_end = tt;
      moved_nothing = subst P (sym exactly.failed) (read_fault (after_call old Reading) fit);
      faulted = subst Q (sym exactly.failed) (Rose-one_more old.read_faults fit.0);
    }

wrote-view : (m : Memory) (slot : Slot) (bytes : List ℕ) → CanWrite (view_of m) slot → Wrote slot bytes (view_of m) (view_of (with_output (after_call m Writing) slot (record (output_of m slot) { bytes = (output_of m slot).bytes ++ bytes })))
wrote-view m Model bytes can = absurd can
wrote-view m CertIn bytes can = absurd can
wrote-view m CertOut bytes can = record {
  outside = SameOutside-quiet _ _ refl refl refl refl;
  opened = refl;
  left = refl;
  written = same_slots _ _ refl refl refl refl;
}
wrote-view m Out bytes can = record {
  outside = SameOutside-quiet _ _ refl refl refl refl;
  opened = refl;
  left = refl;
  written = same_slots _ _ refl refl refl refl;
}

-- what is written counts no fault
quiet_output : (m : Memory) (slot : Slot) (output : Written) → (with_output (after_call m Writing) slot output).write_faults ≡ m.write_faults
quiet_output m Model output = refl
quiet_output m CertIn output = refl
quiet_output m CertOut output = refl
quiet_output m Out output = refl

pub Writes-exactly : (old : Memory) (slot : Slot) (bytes : List ℕ) (answer : Result ℕ Failed) (new : Memory) → CanWrite (view_of old) slot → 0 < length bytes → FaultsFit old → WritesExactly old slot bytes answer new → Writes (view_of old) slot bytes answer (view_of new)
Writes-exactly old slot bytes (Ok count) new can some fit exactly =
    let P : Memory → Type 0 = λ m. Wrote slot bytes (view_of old) (view_of m) in
    let Q : List ℕ → Type 0 = λ front. Wrote slot front (view_of old) (view_of new) in
    let whole = exactly.whole in
    record {
      some = omega arith;
      within = omega arith;
      wrote = subst Q (sym (take_all count bytes (omega arith))) (subst P (sym exactly.written) (wrote-view old slot bytes can));
      quiet = ap (λ (m : Memory). m.write_faults) exactly.written ∙ quiet_output old slot _;
      moved_nothing = tt;
      faulted = tt;
    }
Writes-exactly old slot bytes (Err _) new can some fit exactly =
    let P : Memory → Type 0 = λ m. MovedNothing (view_of old) (view_of m) in
    let Q : Memory → Type 0 = λ m. WriteFaulted (view_of old) (view_of m) in
    record {
      some = tt;
      within = tt;
      wrote = tt;
      quiet = tt;
      moved_nothing = subst P (sym exactly.failed) (write_fault (after_call old Writing) fit);
      faulted = subst Q (sym exactly.failed) (Rose-one_more old.write_faults fit.1);
    }
