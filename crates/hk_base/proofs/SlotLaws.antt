-- What each slot has, once the value of one was changed.
use Rattle.std.proofs.Common.{◌≡◌, false, refl, List, [], ◌++◌, ℕ, ap, append_assoc, append-nil, sym}
use Rattle.std.proofs.Math.Path.{fun_ext}
use Rattle.std.specs.Prelude.{Option, Some, None}
use Rattle.hk_base.specs.declared.host.Slot.{Slot}
use Rattle.hk_base.specs.declared.host.Slot.TheVariants.{Model, CertIn, CertOut, Out}
use Rattle.hk_base.specs.Hosts.{slot_eq, changed, appended, prepended}

module _ {A : Type 0} where
  pub changed-at : (had : Slot → A) (slot : Slot) (value : A) → changed had slot value slot ≡ value
  changed-at had Model value = refl
  changed-at had CertIn value = refl
  changed-at had CertOut value = refl
  changed-at had Out value = refl

  pub changed-other : (had : Slot → A) (slot other : Slot) (value : A) → slot_eq slot other ≡ false → changed had slot value other ≡ had other
  changed-other had slot other value differs = rw differs refl

  cases : (f g : Slot → A) → f Model ≡ g Model → f CertIn ≡ g CertIn → f CertOut ≡ g CertOut → f Out ≡ g Out → (slot : Slot) → f slot ≡ g slot
  cases f g model cert_in cert_out out Model = model
  cases f g model cert_in cert_out out CertIn = cert_in
  cases f g model cert_in cert_out out CertOut = cert_out
  cases f g model cert_in cert_out out Out = out

  -- two functions of slots are one where they agree at each slot
  pub same_slots : (f g : Slot → A) → f Model ≡ g Model → f CertIn ≡ g CertIn → f CertOut ≡ g CertOut → f Out ≡ g Out → f ≡ g
  same_slots f g model cert_in cert_out out = fun_ext (cases f g model cert_in cert_out out)

  pub changed-same : (had : Slot → A) (slot : Slot) → changed had slot (had slot) ≡ had
  changed-same had Model = same_slots _ had refl refl refl refl
  changed-same had CertIn = same_slots _ had refl refl refl refl
  changed-same had CertOut = same_slots _ had refl refl refl refl
  changed-same had Out = same_slots _ had refl refl refl refl

  pub changed-changed : (had : Slot → A) (slot : Slot) (first second : A) → changed (changed had slot first) slot second ≡ changed had slot second
  changed-changed had Model first second = same_slots _ _ refl refl refl refl
  changed-changed had CertIn first second = same_slots _ _ refl refl refl refl
  changed-changed had CertOut first second = same_slots _ _ refl refl refl refl
  changed-changed had Out first second = same_slots _ _ refl refl refl refl

pub appended-nil : (told : Option (List ℕ)) → appended told [] ≡ told
appended-nil None = refl
appended-nil (Some had) = ap Some (append-nil had)

pub appended-appended : (told : Option (List ℕ)) (first second : List ℕ) → appended (appended told first) second ≡ appended told (first ++ second)
appended-appended None first second = refl
appended-appended (Some had) first second = ap Some (append_assoc had first second)

pub prepended-nil : (told : Option (List ℕ)) → prepended [] told ≡ told
prepended-nil None = refl
prepended-nil (Some had) = refl

pub prepended-prepended : (first second : List ℕ) (told : Option (List ℕ)) → prepended first (prepended second told) ≡ prepended (first ++ second) told
prepended-prepended first second None = refl
prepended-prepended first second (Some had) = ap Some (sym (append_assoc first second had))
