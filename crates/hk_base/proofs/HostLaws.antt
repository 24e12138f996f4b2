-- Several calls of a host, taken as one.
use Rattle.std.proofs.Common.{◌≡◌, ◌∙◌, sym, refl, ap, subst, ℕ, List, [], ◌++◌, take, drop, append_assoc}
use Rattle.std.proofs.lemmas.List.{take-append-drop}
use Rattle.std.specs.Prelude.{Option, Bool, false, Result, Ok, Err}
use Rattle.hk_base.specs.declared.host.Slot.{Slot}
use Rattle.hk_base.specs.declared.host.Slot.TheVariants.{Model, CertIn, CertOut, Out}
use Rattle.hk_base.specs.declared.host.Failed.{Failed}
use Rattle.hk_base.specs.Hosts.{View, Opens, Reads, Writes, slot_eq, ReadFaulted, WriteFaulted, NeverFell, SameOutside, MovedNothing, Wrote, Took, CanRead, CanWrite, changed, appended, prepended}
use Rattle.hk_base.proofs.FaultLaws.{NeverFell-same, NeverFell-then, Rose-then, then-Rose}
use Rattle.hk_base.proofs.SlotLaws.{changed-at, changed-other, changed-same, changed-changed, appended-nil, appended-appended, prepended-nil, prepended-prepended}

-- a call in which no count of faults rose
pub SameOutside-quiet : (old new : View) → new.told ≡ old.told → new.lends ≡ old.lends → new.read_faults ≡ old.read_faults → new.write_faults ≡ old.write_faults → SameOutside old new
SameOutside-quiet old new told lends read_faults write_faults =
    let P : ℕ → Type 0 = λ count. NeverFell old.read_faults count in
    let Q : ℕ → Type 0 = λ count. NeverFell old.write_faults count in
    record {
      told = told;
      lends = lends;
      read_faults = subst P (sym read_faults) (NeverFell-same old.read_faults);
      write_faults = subst Q (sym write_faults) (NeverFell-same old.write_faults);
    }

pub SameOutside-same : (view : View) → SameOutside view view
SameOutside-same view = SameOutside-quiet view view refl refl refl refl

pub SameOutside-then : (a b c : View) → SameOutside a b → SameOutside b c → SameOutside a c
SameOutside-then a b c first second = record {
  told = second.told ∙ first.told;
  lends = second.lends ∙ first.lends;
  read_faults = NeverFell-then _ _ _ first.read_faults second.read_faults;
  write_faults = NeverFell-then _ _ _ first.write_faults second.write_faults;
}

-- a slot that can be written to still can after calls that open none
pub CanWrite-after : (old new : View) (slot : Slot) → new.opened ≡ old.opened → CanWrite old slot → CanWrite new slot
CanWrite-after old new CertOut same can = ap (λ (opened : Slot → Bool). opened CertOut) same ∙ can
CanWrite-after old new Out same can = can
CanWrite-after old new Model same can = can
CanWrite-after old new CertIn same can = can

pub CanRead-after : (old new : View) (slot : Slot) → new.opened ≡ old.opened → CanRead old slot → CanRead new slot
CanRead-after old new Model same can = ap (λ (opened : Slot → Bool). opened Model) same ∙ can
CanRead-after old new CertIn same can = ap (λ (opened : Slot → Bool). opened CertIn) same ∙ can
CanRead-after old new CertOut same can = can
CanRead-after old new Out same can = can

-- a call that moved nothing wrote no bytes
pub Wrote-nil : (slot : Slot) (old new : View) → MovedNothing old new → Wrote slot [] old new
Wrote-nil slot old new none = record {
  outside = none.outside;
  opened = none.opened;
  left = none.left;
  written = none.written ∙ sym (ap (changed old.written slot) (appended-nil (old.written slot)) ∙ changed-same old.written slot);
}

pub MovedNothing-same : (view : View) → MovedNothing view view
MovedNothing-same view = record { outside = SameOutside-same view; opened = refl; left = refl; written = refl }

-- nothing was written yet
pub Wrote-none : (slot : Slot) (view : View) → Wrote slot [] view view
Wrote-none slot view = Wrote-nil slot view view (MovedNothing-same view)

-- what was written first, and then
pub Wrote-then : (slot : Slot) (first second : List ℕ) (a b c : View) → Wrote slot first a b → Wrote slot second b c → Wrote slot (first ++ second) a c
Wrote-then slot first second a b c one two = record {
  outside = SameOutside-then a b c one.outside two.outside;
  opened = two.opened ∙ one.opened;
  left = two.left ∙ one.left;
  written = two.written
      ∙ ap (λ (had : Slot → Option (List ℕ)). changed had slot (appended (had slot) second)) one.written
      ∙ ap (λ (told : Option (List ℕ)). changed (changed a.written slot (appended (a.written slot) first)) slot (appended told second)) (changed-at a.written slot (appended (a.written slot) first))
      ∙ changed-changed a.written slot _ _
      ∙ ap (changed a.written slot) (appended-appended (a.written slot) first second);
}

-- a call that moved nothing gave no bytes to read
pub Took-nil : (slot : Slot) (old new : View) → MovedNothing old new → Took slot [] old new
Took-nil slot old new none = record {
  outside = none.outside;
  opened = none.opened;
  left = sym (ap (changed new.left slot) (prepended-nil (new.left slot)) ∙ changed-same new.left slot ∙ none.left);
  written = none.written;
}

-- nothing was read yet
pub Took-none : (slot : Slot) (view : View) → Took slot [] view view
Took-none slot view = Took-nil slot view view (MovedNothing-same view)

-- what was read first, and then
pub Took-then : (slot : Slot) (first second : List ℕ) (a b c : View) → Took slot first a b → Took slot second b c → Took slot (first ++ second) a c
Took-then slot first second a b c one two = record {
  outside = SameOutside-then a b c one.outside two.outside;
  opened = two.opened ∙ one.opened;
  left = one.left
      ∙ ap (λ (had : Slot → Option (List ℕ)). changed had slot (prepended first (had slot))) two.left
      ∙ ap (λ (told : Option (List ℕ)). changed (changed c.left slot (prepended second (c.left slot))) slot (prepended first told)) (changed-at c.left slot (prepended second (c.left slot)))
      ∙ changed-changed c.left slot _ _
      ∙ ap (changed c.left slot) (prepended-prepended first second (c.left slot));
  written = two.written ∙ one.written;
}

-- what is told to be written of the slot, once these bytes were written
pub Wrote-told : (slot : Slot) (bytes : List ℕ) (old new : View) → Wrote slot bytes old new → new.written slot ≡ appended (old.written slot) bytes
Wrote-told slot bytes old new wrote = ap (λ (had : Slot → Option (List ℕ)). had slot) wrote.written ∙ changed-at old.written slot _

-- what was told to be left at the slot, before these bytes were read
pub Took-told : (slot : Slot) (bytes : List ℕ) (old new : View) → Took slot bytes old new → old.left slot ≡ prepended bytes (new.left slot)
Took-told slot bytes old new took = ap (λ (had : Slot → Option (List ℕ)). had slot) took.left ∙ changed-at new.left slot _

-- a front of the bytes was written, and then a piece of the rest
pub Wrote-piece : (slot : Slot) (bytes front rest after : List ℕ) (count : ℕ) (a b c : View) → bytes ≡ front ++ rest → Wrote slot front a b → after ≡ drop count rest → Wrote slot (take count rest) b c → (longer : List ℕ) × (bytes ≡ longer ++ after) × Wrote slot longer a c
Wrote-piece slot bytes front rest after count a b c parts wrote behind piece = (
  front ++ take count rest,
  parts ∙ ap (λ (xs : List ℕ). front ++ xs) (sym (take-append-drop count rest)) ∙ sym (append_assoc front (take count rest) (drop count rest)) ∙ ap (λ (xs : List ℕ). (front ++ take count rest) ++ xs) (sym behind),
  Wrote-then slot front (take count rest) a b c wrote piece,
)

-- a fault in the first of several calls is a fault in all of them
pub ReadFaulted-then : (a b c : View) → ReadFaulted a b → SameOutside b c → ReadFaulted a c
ReadFaulted-then a b c faulted outside = Rose-then _ _ _ faulted outside.read_faults

-- a fault in the last of several calls is a fault in all of them
pub then-WriteFaulted : (a b c : View) → SameOutside a b → WriteFaulted b c → WriteFaulted a c
then-WriteFaulted a b c outside faulted = then-Rose _ _ _ outside.write_faults faulted

-- a call that reads or writes opens no slot, whatever it answers
pub Reads-opened : (old : View) (slot : Slot) (answer : Result ℕ Failed) (buffer : List ℕ) (new : View) → Reads old slot answer buffer new → new.opened ≡ old.opened
Reads-opened old slot (Ok _) buffer new reads = reads.took.opened
Reads-opened old slot (Err _) buffer new reads = reads.moved_nothing.opened

pub Writes-opened : (old : View) (slot : Slot) (bytes : List ℕ) (answer : Result ℕ Failed) (new : View) → Writes old slot bytes answer new → new.opened ≡ old.opened
Writes-opened old slot bytes (Ok _) new writes = writes.wrote.opened
Writes-opened old slot bytes (Err _) new writes = writes.moved_nothing.opened

-- nor does it change what is outside
pub Reads-outside : (old : View) (slot : Slot) (answer : Result ℕ Failed) (buffer : List ℕ) (new : View) → Reads old slot answer buffer new → SameOutside old new
Reads-outside old slot (Ok _) buffer new reads = reads.took.outside
Reads-outside old slot (Err _) buffer new reads = reads.moved_nothing.outside

pub Writes-outside : (old : View) (slot : Slot) (bytes : List ℕ) (answer : Result ℕ Failed) (new : View) → Writes old slot bytes answer new → SameOutside old new
Writes-outside old slot bytes (Ok _) new writes = writes.wrote.outside
Writes-outside old slot bytes (Err _) new writes = writes.moved_nothing.outside

pub Opens-outside : (old : View) (slot : Slot) (name : List ℕ) (answer : Result (Unit {0}) Failed) (new : View) → Opens old slot name answer new → SameOutside old new
Opens-outside old slot name (Ok _) new opens = opens.opened.outside
Opens-outside old slot name (Err _) new opens = opens.moved_nothing.outside
