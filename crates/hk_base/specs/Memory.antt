-- A host in memory: what contracts see of it, what it tells, and when each of its calls fails.
use Rattle.std.specs.Prelude.{◌≡◌, ◌↔◌, ℕ, ◌+◌, ◌<◌, ◌≤◌, min, ◌⊎◌, Bool, true, false, is_some, List, [], ◌∷◌, ◌++◌, length, take, drop, Option, Some, None, unwrap_or, Result, IsErr, IfOk, OnOk, OnErr}
use Rattle.hk_base.specs.declared.host.Slot.{Slot}
use Rattle.hk_base.specs.declared.host.Slot.TheVariants.{Model, CertIn, CertOut, Out}
use Rattle.hk_base.specs.declared.host.Failed.{Failed}
use Rattle.hk_base.specs.declared.calls.CallKind.{CallKind}
use Rattle.hk_base.specs.declared.calls.CallKind.TheVariants.{Opening, Reading, Writing}
use Rattle.hk_base.specs.declared.calls.Calls.{Calls}
use Rattle.hk_base.specs.declared.inputs.Input.{Input}
use Rattle.hk_base.specs.Calls.{NextFails, counted, failing_at, one_more}
use Rattle.hk_base.specs.Hosts.{View, IsInput}
use Rattle.hk_base.specs.Inputs.{told_of}
use Rattle.hk_base.specs.Outputs.{Written}

-- the state of a host in memory
pub record Memory : Type 0 where
  -- the named inputs, the newest first
  pub inputs : List Input
  -- what is left to read at a slot that was opened
  pub model : Option (List ℕ)
  pub cert_in : Option (List ℕ)
  -- whether the certificate that goes out was opened
  pub cert_out_open : Bool
  -- what was written, with its room
  pub cert_out : Written
  pub out : Written
  -- the calls of each kind
  pub openings : Calls
  pub readings : Calls
  pub writings : Calls
  -- the counts of faults
  pub read_faults : ℕ
  pub write_faults : ℕ

-- a thing for each slot
abbrev pub by_slot : {A : Type 0} → A → A → A → A → Slot → A
by_slot model cert_in cert_out out Model = model
by_slot model cert_in cert_out out CertIn = cert_in
by_slot model cert_in cert_out out CertOut = cert_out
by_slot model cert_in cert_out out Out = out

-- what a host in memory tells: all its bytes. It lends every name for every slot
abbrev pub view_of : Memory → View
view_of m = record {
  told = told_of m.inputs;
  left = by_slot m.model m.cert_in None None;
  written = by_slot None None (Some m.cert_out.bytes) (Some m.out.bytes);
  lends = λ slot name. true;
  opened = by_slot (is_some m.model) (is_some m.cert_in) m.cert_out_open true;
  read_faults = m.read_faults;
  write_faults = m.write_faults;
}

-- no inputs, no room, nothing written, no calls that are to fail, and no faults
abbrev pub empty_memory : Memory
empty_memory =
    let none : Calls = record { count = 0; to_fail = [] } in
    let no_room : Written = record { bytes = []; room = 0 } in
    record {
      inputs = [];
      model = None;
      cert_in = None;
      cert_out_open = false;
      cert_out = no_room;
      out = no_room;
      openings = none;
      readings = none;
      writings = none;
      read_faults = 0;
      write_faults = 0;
    }

-- the memory once an input of this name holds these bytes
abbrev pub holding : Memory → List ℕ → List ℕ → Memory
holding m name bytes = record m { inputs = record { name = name; bytes = bytes } ∷ m.inputs }

-- the memory once the call of this kind and number is to fail
abbrev pub failing : Memory → CallKind → ℕ → Memory
failing m Opening number = record m { openings = failing_at m.openings number }
failing m Reading number = record m { readings = failing_at m.readings number }
failing m Writing number = record m { writings = failing_at m.writings number }

-- what was written at a slot for writing, with its room
abbrev pub output_of : Memory → Slot → Written
output_of m Model = record { bytes = []; room = 0 }
output_of m CertIn = record { bytes = []; room = 0 }
output_of m CertOut = m.cert_out
output_of m Out = m.out

-- the memory once this was written at a slot for writing
abbrev pub with_output : Memory → Slot → Written → Memory
with_output m Model output = m
with_output m CertIn output = m
with_output m CertOut output = record m { cert_out = output }
with_output m Out output = record m { out = output }

-- the bytes that are left to read at a slot
abbrev pub bytes_left : Memory → Slot → List ℕ
bytes_left m Model = unwrap_or m.model []
bytes_left m CertIn = unwrap_or m.cert_in []
bytes_left m CertOut = []
bytes_left m Out = []

-- the memory once these bytes are left to read at a slot for reading
abbrev pub with_left : Memory → Slot → List ℕ → Memory
with_left m Model left = record m { model = Some left }
with_left m CertIn left = record m { cert_in = Some left }
with_left m CertOut left = m
with_left m Out left = m

-- an opening fails where it is to fail, or where no input has the name that is to be read
abbrev pub OpeningFails : Memory → Slot → List ℕ → Type 0
OpeningFails m slot name = NextFails m.openings ⊎ (IsInput slot × (told_of m.inputs name ≡ None))

-- a writing fails where it is to fail, or where its bytes would pass the room of the slot
abbrev pub WritingFails : Memory → Slot → List ℕ → Type 0
WritingFails m slot bytes = NextFails m.writings ⊎ ((output_of m slot).room < length (output_of m slot).bytes + length bytes)

-- the memory once a slot was opened by a name
abbrev pub opened_by : Memory → Slot → List ℕ → Memory
opened_by m Model name = record m { model = told_of m.inputs name }
opened_by m CertIn name = record m { cert_in = told_of m.inputs name }
opened_by m CertOut name = record m { cert_out = record m.cert_out { bytes = [] }; cert_out_open = true }
opened_by m Out name = m

-- the memory once a call that reads, or writes, has failed
abbrev pub with_read_fault : Memory → Memory
with_read_fault m = record m { read_faults = one_more m.read_faults }

abbrev pub with_write_fault : Memory → Memory
with_write_fault m = record m { write_faults = one_more m.write_faults }

-- the memory once an opening of a slot has failed
abbrev pub with_opening_fault : Memory → Slot → Memory
with_opening_fault m Model = with_read_fault m
with_opening_fault m CertIn = with_read_fault m
with_opening_fault m CertOut = with_write_fault m
with_opening_fault m Out = with_write_fault m

-- the memory once a call of a kind was counted
abbrev pub after_call : Memory → CallKind → Memory
after_call m Opening = record m { openings = counted m.openings }
after_call m Reading = record m { readings = counted m.readings }
after_call m Writing = record m { writings = counted m.writings }

-- an opening, exactly: when it fails, and the memory after it
pub record OpensExactly (old : Memory) (slot : Slot) (name : List ℕ) (answer : Result (Unit {0}) Failed) (new : Memory) : Type 0 where
  pub fails : IsErr answer ↔ OpeningFails old slot name
  pub opened : OnOk answer (new ≡ opened_by (after_call old Opening) slot name)
  pub failed : OnErr answer (new ≡ with_opening_fault (after_call old Opening) slot)

-- a reading, exactly: when it fails, how much of the buffer it fills with what is left, and the memory after it
pub record ReadsExactly (old : Memory) (slot : Slot) (buffer : List ℕ) (answer : Result ℕ Failed) (filled : List ℕ) (new : Memory) : Type 0 where
  pub fails : IsErr answer ↔ NextFails old.readings
  pub count : IfOk answer (λ count. count ≡ min (length buffer) (length (bytes_left old slot)))
  pub front : IfOk answer (λ count. take count filled ≡ take count (bytes_left old slot))
  pub rest : IfOk answer (λ count. drop count filled ≡ drop count buffer)
  pub read : IfOk answer (λ count. new ≡ with_left (after_call old Reading) slot (drop count (bytes_left old slot)))
  pub failed : OnErr answer (new ≡ with_read_fault (after_call old Reading))

-- a writing, exactly: when it fails, that it takes all the bytes, and the memory after it
pub record WritesExactly (old : Memory) (slot : Slot) (bytes : List ℕ) (answer : Result ℕ Failed) (new : Memory) : Type 0 where
  pub fails : IsErr answer ↔ WritingFails old slot bytes
  pub whole : IfOk answer (λ count. count ≡ length bytes)
  pub written : OnOk answer (new ≡ with_output (after_call old Writing) slot (record (output_of old slot) { bytes = (output_of old slot).bytes ++ bytes }))
  pub failed : OnErr answer (new ≡ with_write_fault (after_call old Writing))
