-- A host is what the program reads from and writes to. All that a contract knows of one is its view, and each of its calls leads from one view to another.
use Rattle.std.specs.Prelude.{◌≡◌, ◌↔◌, ℕ, ◌-◌, ◌^◌, ◌<◌, ◌≤◌, max, ◌⊎◌, Bool, true, false, if◌then◌else◌, IsTrue, List, [], ◌++◌, length, take, Option, Some, option_map, Result, IfOk, OnOk, OnErr}
use Rattle.hk_base.specs.declared.host.Slot.{Slot}
use Rattle.hk_base.specs.declared.host.Slot.TheVariants.{Model, CertIn, CertOut, Out}
use Rattle.hk_base.specs.declared.host.Failed.{Failed}

-- what is known of a host at one moment
pub record View : Type 0 where
  -- the bytes of a named input, where they are told
  pub told : List ℕ → Option (List ℕ)
  -- the bytes that a slot still has to read, where they are told
  pub left : Slot → Option (List ℕ)
  -- the bytes that went out through a slot since it was opened, where they are told
  pub written : Slot → Option (List ℕ)
  -- whether the host lends a name for a slot
  pub lends : Slot → List ℕ → Bool
  -- whether a slot is open
  pub opened : Slot → Bool
  -- how many calls that read have failed, and how many that write
  pub read_faults : ℕ
  pub write_faults : ℕ

-- the same slot
abbrev pub slot_eq : Slot → Slot → Bool
slot_eq Model Model = true
slot_eq CertIn CertIn = true
slot_eq CertOut CertOut = true
slot_eq Out Out = true
slot_eq _ _ = false

-- what each slot has, once this slot has this value and the others what they had
abbrev pub changed : {A : Type 0} → (Slot → A) → Slot → A → Slot → A
changed had slot value other = if slot_eq slot other then value else had other

-- bytes that are told, with more behind them, or in front of them
abbrev pub appended : Option (List ℕ) → List ℕ → Option (List ℕ)
appended told bytes = option_map (λ had. had ++ bytes) told

abbrev pub prepended : List ℕ → Option (List ℕ) → Option (List ℕ)
prepended bytes told = option_map (λ had. bytes ++ had) told

-- no bytes, where bytes are told
abbrev pub emptied : Option (List ℕ) → Option (List ℕ)
emptied told = option_map (λ _. []) told

-- where a count of faults stays once it is there
abbrev pub largest_count : ℕ
largest_count = 2 ^ 64 - 1

-- a count of faults rose: it is higher than before, or stands at the largest count
abbrev pub Rose : ℕ → ℕ → Type 0
Rose before after = (before < after) ⊎ (after ≡ largest_count)

-- a count of faults fell at no time, and did not pass the largest count
pub record NeverFell (before after : ℕ) : Type 0 where
  pub kept : before ≤ after
  pub fits : after ≤ max before largest_count

-- a count of faults once one fault more was counted
pub record IsHigher (before after : ℕ) : Type 0 where
  pub rose : Rose before after
  pub kept : NeverFell before after

-- a call that reads has failed, or one that writes: its count of faults rose
abbrev pub ReadFaulted : View → View → Type 0
ReadFaulted old new = Rose old.read_faults new.read_faults

abbrev pub WriteFaulted : View → View → Type 0
WriteFaulted old new = Rose old.write_faults new.write_faults

-- an opening has failed, which counts among the calls that read or write as the slot does
abbrev pub OpeningFaulted : Slot → View → View → Type 0
OpeningFaulted Model old new = ReadFaulted old new
OpeningFaulted CertIn old new = ReadFaulted old new
OpeningFaulted CertOut old new = WriteFaulted old new
OpeningFaulted Out old new = WriteFaulted old new

-- what no call changes: what is told and lent of names. The counts of faults never fall
pub record SameOutside (old new : View) : Type 0 where
  pub told : new.told ≡ old.told
  pub lends : new.lends ≡ old.lends
  pub read_faults : NeverFell old.read_faults new.read_faults
  pub write_faults : NeverFell old.write_faults new.write_faults

-- a call moved nothing: only the counts of faults may have risen
pub record MovedNothing (old new : View) : Type 0 where
  pub outside : SameOutside old new
  pub opened : new.opened ≡ old.opened
  pub left : new.left ≡ old.left
  pub written : new.written ≡ old.written

-- the host wrote exactly these bytes, through this slot, and moved nothing else
pub record Wrote (slot : Slot) (bytes : List ℕ) (old new : View) : Type 0 where
  pub outside : SameOutside old new
  pub opened : new.opened ≡ old.opened
  pub left : new.left ≡ old.left
  pub written : new.written ≡ changed old.written slot (appended (old.written slot) bytes)

-- the host gave exactly these bytes to read, from this slot, and moved nothing else
pub record Took (slot : Slot) (bytes : List ℕ) (old new : View) : Type 0 where
  pub outside : SameOutside old new
  pub opened : new.opened ≡ old.opened
  pub left : old.left ≡ changed new.left slot (prepended bytes (new.left slot))
  pub written : new.written ≡ old.written

-- what is left to read once a slot is opened by a name: at a slot for reading all that is told of the name
abbrev pub left_at_opening : View → Slot → List ℕ → Slot → Option (List ℕ)
left_at_opening old Model name = changed old.left Model (old.told name)
left_at_opening old CertIn name = changed old.left CertIn (old.told name)
left_at_opening old CertOut name = old.left
left_at_opening old Out name = old.left

-- what is written once a slot is opened: at a slot for writing nothing
abbrev pub written_at_opening : View → Slot → Slot → Option (List ℕ)
written_at_opening old Model = old.written
written_at_opening old CertIn = old.written
written_at_opening old CertOut = changed old.written CertOut (emptied (old.written CertOut))
written_at_opening old Out = old.written

-- the host opened this slot by this name, and moved nothing else
pub record Opened (slot : Slot) (name : List ℕ) (old new : View) : Type 0 where
  pub outside : SameOutside old new
  pub opened : new.opened ≡ changed old.opened slot true
  pub left : new.left ≡ left_at_opening old slot name
  pub written : new.written ≡ written_at_opening old slot

-- a slot for reading
abbrev pub IsInput : Slot → Type 0
IsInput Model = Unit {0}
IsInput CertIn = Unit {0}
IsInput CertOut = ⊥
IsInput Out = ⊥

-- a slot for writing
abbrev pub IsOutput : Slot → Type 0
IsOutput Model = ⊥
IsOutput CertIn = ⊥
IsOutput CertOut = Unit {0}
IsOutput Out = Unit {0}

-- a slot that is named at its opening: every slot but the output of the program
abbrev pub IsNamed : Slot → Type 0
IsNamed Model = Unit {0}
IsNamed CertIn = Unit {0}
IsNamed CertOut = Unit {0}
IsNamed Out = ⊥

-- a slot for reading, which is open
abbrev pub CanRead : View → Slot → Type 0
CanRead view Model = IsTrue (view.opened Model)
CanRead view CertIn = IsTrue (view.opened CertIn)
CanRead view CertOut = ⊥
CanRead view Out = ⊥

-- a slot for writing, which is open; the output of the program needs no opening
abbrev pub CanWrite : View → Slot → Type 0
CanWrite view Model = ⊥
CanWrite view CertIn = ⊥
CanWrite view CertOut = IsTrue (view.opened CertOut)
CanWrite view Out = Unit {0}

-- what an opening does: it succeeds, or it fails, moves nothing and has its count of faults rise
pub record Opens (old : View) (slot : Slot) (name : List ℕ) (answer : Result (Unit {0}) Failed) (new : View) : Type 0 where
  pub opened : OnOk answer (Opened slot name old new)
  pub moved_nothing : OnErr answer (MovedNothing old new)
  pub faulted : OnErr answer (OpeningFaulted slot old new)

-- what a reading into a buffer does: it gives bytes at the front of the buffer, none only at the end of the input, or it fails, moves nothing and has the count of faults rise
pub record Reads (old : View) (slot : Slot) (answer : Result ℕ Failed) (buffer : List ℕ) (new : View) : Type 0 where
  pub within : IfOk answer (λ count. count ≤ length buffer)
  pub took : IfOk answer (λ count. Took slot (take count buffer) old new)
  pub at_end : IfOk answer (λ count. (rest : List ℕ) → old.left slot ≡ Some rest → (count ≡ 0) ↔ (rest ≡ []))
  pub moved_nothing : OnErr answer (MovedNothing old new)
  pub faulted : OnErr answer (ReadFaulted old new)

-- what a writing of bytes does: the first of them go out, at least one, and the count of faults stays, or it fails, moves nothing and has the count of faults rise
pub record Writes (old : View) (slot : Slot) (bytes : List ℕ) (answer : Result ℕ Failed) (new : View) : Type 0 where
  pub some : IfOk answer (λ count. 1 ≤ count)
  pub within : IfOk answer (λ count. count ≤ length bytes)
  pub wrote : IfOk answer (λ count. Wrote slot (take count bytes) old new)
  pub quiet : OnOk answer (new.write_faults ≡ old.write_faults)
  pub moved_nothing : OnErr answer (MovedNothing old new)
  pub faulted : OnErr answer (WriteFaulted old new)

-- some of these bytes went out, from the first on
pub record WroteFront (slot : Slot) (bytes : List ℕ) (old new : View) : Type 0 where
  pub front : List ℕ
  pub rest : List ℕ
  pub parts : bytes ≡ front ++ rest
  pub wrote : Wrote slot front old new
