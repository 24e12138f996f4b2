-- What is opened and taken, over several calls.
use Rattle.std.proofs.Common.{◌≡◌, ◌∙◌, sym, ap, inl, inr, arith, ℕ, ◌+◌, List, []}
use Rattle.std.specs.Prelude.{Option}
use Rattle.hk_base.specs.declared.host.Slot.{Slot}
use Rattle.hk_base.specs.declared.host.Slot.TheVariants.{Model}
use Rattle.hk_base.specs.Hosts.{View, Opened, changed, prepended}
use Rattle.hk_base.proofs.SlotLaws.{changed-at, changed-same, changed-changed}
use Rattle.hk_base.proofs.HostLaws.{Took-told}
use Rattle.hkdd.specs.Inputs.{KeepsInputs, TookAtMost, TakesAtMost}
use Rattle.hkdd.specs.Limits.{most_bytes}
use Rattle.hkdd.specs.inside.Readings.{TookFew}
use Rattle.hkdd.specs.Runs.{Takes}

-- what is left of the model once it is opened is what is told of its name
pub told_at_opening : (file : List ℕ) (old new : View) → Opened Model file old new → new.left Model ≡ old.told file
told_at_opening file old new opened = ap (λ (had : Slot → Option (List ℕ)). had Model) opened.left ∙ changed-at old.left Model (old.told file)

-- of a file that was opened, few bytes were then taken
pub TakesAtMost-opened : (file : List ℕ) (old between new : View) → Opened Model file old between → TookFew [] between new → TakesAtMost (most_bytes + 1) file old new
TakesAtMost-opened file old between new opened took = inr (record {
  opened = took.took.opened ∙ opened.opened;
  left =
      sym (changed-same new.left Model)
      ∙ sym (changed-changed new.left Model (prepended took.taken (new.left Model)) (new.left Model))
      ∙ ap (λ (had : Slot → Option (List ℕ)). changed had Model (new.left Model)) (sym took.took.left ∙ opened.left)
      ∙ changed-changed old.left Model (old.told file) (new.left Model);
  taken = took.taken;
  told = sym (told_at_opening file old between opened) ∙ Took-told Model took.taken between new took.took;
  few = let few = took.few in omega arith;
})

-- a call that opened and took nothing more
TookAtMost-then : (most : ℕ) (file : List ℕ) (old between new : View) → new.opened ≡ between.opened → new.left ≡ between.left → TookAtMost most file old between → TookAtMost most file old new
TookAtMost-then most file old between new opened left took =
    let model : new.left Model ≡ between.left Model = ap (λ (had : Slot → Option (List ℕ)). had Model) left in
    record {
      opened = opened ∙ took.opened;
      left = left ∙ took.left ∙ ap (changed old.left Model) (sym model);
      taken = took.taken;
      told = took.told ∙ ap (prepended took.taken) (sym model);
      few = took.few;
    }

KeepsInputs-then : (old between new : View) → new.opened ≡ between.opened → new.left ≡ between.left → KeepsInputs old between → KeepsInputs old new
KeepsInputs-then old between new opened left keeps = record { opened = opened ∙ keeps.opened; left = left ∙ keeps.left }

pub Takes-then : {words : List (List ℕ)} (old between new : View) → new.opened ≡ between.opened → new.left ≡ between.left → Takes words old between → Takes words old new
Takes-then old between new opened left takes = record {
  nothing = λ unknown. KeepsInputs-then old between new opened left (takes.nothing unknown);
  few = λ file solve. elim (takes.few file solve) [
    | inl keeps ↦ inl (KeepsInputs-then old between new opened left keeps)
    | inr took ↦ inr (TookAtMost-then (most_bytes + 1) file old between new opened left took)
  ];
}
