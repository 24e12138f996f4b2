-- How a run ends, from what it read, what is due and what it wrote.
use Rattle.std.proofs.Common.{◌≡◌, ◌∙◌, sym, refl, ap, subst, ℕ, List, [], ◌++◌}
use Rattle.std.specs.Prelude.{Option, Some, None, option_map}
use Rattle.hk_base.specs.declared.host.Slot.{Slot}
use Rattle.hk_base.specs.declared.host.Slot.TheVariants.{CertOut, Out}
use Rattle.hk_base.specs.Hosts.{View, SameOutside, ReadFaulted, WriteFaulted, Wrote, WroteFront, appended}
use Rattle.hk_base.proofs.HostLaws.{Wrote-told, ReadFaulted-then, then-WriteFaulted}
use Rattle.hkdd.specs.inside.Readings.{KeepsOutput}
use Rattle.hkdd.specs.Texts.{usage_text, read_fault_text}
use Rattle.hkdd.specs.Runs.{IsSolve, AreNoCommand, IsFresh, IsDue, due_usage, due_reply, due_read_fault, IsOut, Ends, ends_whole, ends_write_fault, ends_no_memory}

-- what is due stays due while counts of faults don't fall
due_after : {words : List (List ℕ)} {old between new : View} {status : ℕ} {text : List ℕ} → SameOutside between new → IsDue words old between status text → IsDue words old new status text
due_after same (due_usage unknown) = due_usage unknown
due_after same (due_reply solve were reply) = due_reply solve were reply
due_after {old = old} {between = between} {new = new} same (due_read_fault solve faulted) =
    due_read_fault solve (ReadFaulted-then old between new faulted same)

-- where nothing went out before, what is appended is all
fresh_appended : (told : Option (List ℕ)) (text : List ℕ) → ((bytes : List ℕ) → told ≡ Some bytes → bytes ≡ []) → appended told text ≡ option_map (λ _. text) told
fresh_appended None text fresh = refl
fresh_appended (Some bytes) text fresh = ap (λ (had : List ℕ). Some (had ++ text)) (fresh bytes refl)

out_is : (old between new : View) (text : List ℕ) → IsFresh old → KeepsOutput old between → Wrote Out text between new → IsOut old new text
out_is old between new text fresh keeps wrote = record {
  told =
      Wrote-told Out text between new wrote
      ∙ ap (λ (had : Slot → Option (List ℕ)). appended (had Out) text) keeps.written
      ∙ fresh_appended (old.written Out) text fresh.out;
  no_certificate =
      ap (λ (had : Slot → Option (List ℕ)). had CertOut) wrote.written
      ∙ ap (λ (had : Slot → Option (List ℕ)). had CertOut) keeps.written;
}

pub ends_well : {words : List (List ℕ)} {old between new : View} {status : ℕ} {text : List ℕ} → IsFresh old → KeepsOutput old between → IsDue words old between status text → Wrote Out text between new → Ends words old status new
ends_well fresh keeps due wrote = ends_whole (due_after wrote.outside due) (out_is _ _ _ _ fresh keeps wrote)

pub ends_in_fault : {words : List (List ℕ)} {old between new : View} {status : ℕ} {text : List ℕ} → IsFresh old → KeepsOutput old between → IsDue words old between status text → WroteFront Out text between new → WriteFaulted between new → Ends words old 5 new
ends_in_fault {old = old} {between = between} {new = new} fresh keeps due wrote rose =
    ends_write_fault (due_after wrote.wrote.outside due)
    (record {
      front = wrote.front;
      is_front = record { rest = wrote.rest; parts = wrote.parts };
      out = out_is _ _ _ _ fresh keeps wrote.wrote;
    })
    (then-WriteFaulted old between new keeps.outside rose)

pub ends_empty : {words : List (List ℕ)} (old new : View) → IsFresh old → KeepsOutput old new → Ends words old 7 new
ends_empty old new fresh keeps =
    ends_no_memory
    (record {
      told = ap (λ (had : Slot → Option (List ℕ)). had Out) keeps.written ∙ nothing (old.written Out) fresh.out;
      no_certificate = ap (λ (had : Slot → Option (List ℕ)). had CertOut) keeps.written;
    })
  where
    nothing : (told : Option (List ℕ)) → ((bytes : List ℕ) → told ≡ Some bytes → bytes ≡ []) → told ≡ option_map (λ _. []) told
    nothing None fresh = refl
    nothing (Some bytes) fresh = ap Some (fresh bytes refl)

pub usage_due : {words : List (List ℕ)} {old new : View} (status : ℕ) (text : List ℕ) → AreNoCommand words → status ≡ 2 → text ≡ usage_text → IsDue words old new status text
usage_due {words = words} {old = old} {new = new} status text unknown two same =
    subst (λ n. IsDue words old new n text) (sym two) (subst (λ t. IsDue words old new 2 t) (sym same) (due_usage unknown))

pub read_fault_due : {words : List (List ℕ)} {file : List ℕ} {old new : View} (status : ℕ) (text : List ℕ) → IsSolve words file → ReadFaulted old new → status ≡ 4 → text ≡ read_fault_text → IsDue words old new status text
read_fault_due {words = words} {old = old} {new = new} status text solve rose four same =
    subst (λ n. IsDue words old new n text) (sym four) (subst (λ t. IsDue words old new 4 t) (sym same) (due_read_fault solve rose))
