-- What calls of a host that tells no bytes do.
use Rattle.std.proofs.Common.{◌≡◌, sym, refl, subst, ℕ, ◌≤◌, Bool, List, length}
use Rattle.std.specs.Prelude.{None, Result, Ok, Err, IfOk, OnOk, OnErr}
use Rattle.hk_base.specs.declared.host.Slot.{Slot}
use Rattle.hk_base.specs.declared.host.Slot.TheVariants.{Model, CertIn, CertOut}
use Rattle.hk_base.specs.declared.host.Failed.{Failed}
use Rattle.hk_base.specs.Hosts.{View, IsHigher, NeverFell, OpeningFaulted, MovedNothing, Opens, Reads, Writes}
use Rattle.hk_base.proofs.FaultLaws.{NeverFell-same}
use Rattle.hk_base.proofs.SlotLaws.{changed-same}
use Rattle.hkdd.specs.System.{system_view}

-- a count that is as it was did not fall
unchanged : (before after : ℕ) → after ≡ before → NeverFell before after
unchanged before after same = subst (NeverFell before) (sym same) (NeverFell-same before)

module _ (model cert_in cert_out : Bool) (reads writes : ℕ) where
  -- the host before a call
  abbrev before : View
  before = system_view model cert_in cert_out reads writes

  -- a fault of a call that reads, or one that writes, moves nothing
  read_fault_moves : (reads' : ℕ) → IsHigher reads reads' → MovedNothing before (system_view model cert_in cert_out reads' writes)
  read_fault_moves reads' higher = record {
    outside = record { told = refl; lends = refl; read_faults = higher.kept; write_faults = NeverFell-same writes };
    opened = refl;
    left = refl;
    written = refl;
  }

  write_fault_moves : (writes' : ℕ) → IsHigher writes writes' → MovedNothing before (system_view model cert_in cert_out reads writes')
  write_fault_moves writes' higher = record {
    outside = record { told = refl; lends = refl; read_faults = NeverFell-same reads; write_faults = higher.kept };
    opened = refl;
    left = refl;
    written = refl;
  }

  -- an opening that fails
  pub model_fails : (slot : Slot) (name : List ℕ) (failed : Failed) (reads' : ℕ) → slot ≡ Model → IsHigher reads reads' → Opens before slot name (Err failed) (system_view model cert_in cert_out reads' writes)
  model_fails slot name failed reads' is higher = record {
    opened = tt;
    moved_nothing = read_fault_moves reads' higher;
    faulted = subst (λ s. OpeningFaulted s before (system_view model cert_in cert_out reads' writes)) (sym is) higher.rose;
  }

  pub cert_in_fails : (slot : Slot) (name : List ℕ) (failed : Failed) (reads' : ℕ) → slot ≡ CertIn → IsHigher reads reads' → Opens before slot name (Err failed) (system_view model cert_in cert_out reads' writes)
  cert_in_fails slot name failed reads' is higher = record {
    opened = tt;
    moved_nothing = read_fault_moves reads' higher;
    faulted = subst (λ s. OpeningFaulted s before (system_view model cert_in cert_out reads' writes)) (sym is) higher.rose;
  }

  pub cert_out_fails : (slot : Slot) (name : List ℕ) (failed : Failed) (writes' : ℕ) → slot ≡ CertOut → IsHigher writes writes' → Opens before slot name (Err failed) (system_view model cert_in cert_out reads writes')
  cert_out_fails slot name failed writes' is higher = record {
    opened = tt;
    moved_nothing = write_fault_moves writes' higher;
    faulted = subst (λ s. OpeningFaulted s before (system_view model cert_in cert_out reads writes')) (sym is) higher.rose;
  }

  -- a reading, from what is known of its count of bytes and its count of faults
  read : (slot : Slot) (answer : Result ℕ Failed) (buffer : List ℕ) (reads' : ℕ) → IfOk answer (λ count. count ≤ length buffer) → OnOk answer (reads' ≡ reads) → OnErr answer (IsHigher reads reads') → Reads before slot answer buffer (system_view model cert_in cert_out reads' writes)
  read slot (Ok count) buffer reads' within same higher = record {
    within = within;
    took = record {
      outside = record { told = refl; lends = refl; read_faults = unchanged reads reads' same; write_faults = NeverFell-same writes };
      opened = refl;
      left = sym (changed-same (λ _. None) slot);
      written = refl;
    };
    at_end = λ rest told. cc;
    moved_nothing = tt;
    faulted = tt;
  }
  read slot (Err failed) buffer reads' within same higher = record {
    within = tt;
    took = tt;
    at_end = tt;
    moved_nothing = read_fault_moves reads' higher;
    faulted = higher.rose;
  }

  pub reading : (slot : Slot) (answer : Result ℕ Failed) (buffer : List ℕ) (model' cert_in' : Bool) (reads' : ℕ) → model' ≡ model → cert_in' ≡ cert_in → IfOk answer (λ count. count ≤ length buffer) → OnOk answer (reads' ≡ reads) → OnErr answer (IsHigher reads reads') → Reads before slot answer buffer (system_view model' cert_in' cert_out reads' writes)
  reading slot answer buffer model' cert_in' reads' same_model same_cert within same higher =
      subst (λ m. Reads before slot answer buffer (system_view m cert_in' cert_out reads' writes)) (sym same_model)
      (subst (λ c. Reads before slot answer buffer (system_view model c cert_out reads' writes)) (sym same_cert) (read slot answer buffer reads' within same higher))

  -- a writing, likewise
  write : (slot : Slot) (bytes : List ℕ) (answer : Result ℕ Failed) (writes' : ℕ) → IfOk answer (λ count. 1 ≤ count) → IfOk answer (λ count. count ≤ length bytes) → OnOk answer (writes' ≡ writes) → OnErr answer (IsHigher writes writes') → Writes before slot bytes answer (system_view model cert_in cert_out reads writes')
  write slot bytes (Ok count) writes' some within same higher = record {
    some = some;
    within = within;
    wrote = record {
      outside = record { told = refl; lends = refl; read_faults = NeverFell-same reads; write_faults = unchanged writes writes' same };
      opened = refl;
      left = refl;
      written = sym (changed-same (λ _. None) slot);
    };
    quiet = same;
    moved_nothing = tt;
    faulted = tt;
  }
  write slot bytes (Err failed) writes' some within same higher = record {
    some = tt;
    within = tt;
    wrote = tt;
    quiet = tt;
    moved_nothing = write_fault_moves writes' higher;
    faulted = higher.rose;
  }

  pub writing : (slot : Slot) (bytes : List ℕ) (answer : Result ℕ Failed) (cert_out' : Bool) (writes' : ℕ) → cert_out' ≡ cert_out → IfOk answer (λ count. 1 ≤ count) → IfOk answer (λ count. count ≤ length bytes) → OnOk answer (writes' ≡ writes) → OnErr answer (IsHigher writes writes') → Writes before slot bytes answer (system_view model cert_in cert_out' reads writes')
  writing slot bytes answer cert_out' writes' same_cert some within same higher =
      subst (λ c. Writes before slot bytes answer (system_view model cert_in c reads writes')) (sym same_cert) (write slot bytes answer writes' some within same higher)
