-- Items that are told one after the other, and the front that a refusal leaves.
use Rattle.std.proofs.Common.{◌≡◌, List, [], ◌∷◌, ◌++◌, Option, None, Some, inl, inr, refl, sym, ap, ◌∙◌, subst, append_assoc}
use Rattle.std.proofs.lemmas.List.{append-nil}
use Rattle.std.specs.Prelude.{Result, Ok, Err, IsErrAnd, OnOk, OnErr, ⊤}
use Rattle.hk_base.proofs.FaultLaws.{NeverFell-same, NeverFell-then, then-Rose}
use Rattle.hk_table.specs.Traces.{TraceView, Tells, with_item}
use Rattle.hk_table.specs.declared.items.TraceItem.{TraceItem}
use Rattle.hk_table.specs.declared.traces.TraceFault.{TraceFault}
use Rattle.hk_table.specs.declared.traces.TraceFault.TheVariants.{Memory}
use Rattle.hk_prop.specs.Told.{told_more}
use Rattle.hk_prop.specs.Telling.{Telling, Stopped, TellsAll}
use Rattle.hk_prop.proofs.Fuel.{told_twice}

told_none : (told : Option (List TraceItem)) → told ≡ told_more told []
told_none None = refl
told_none (Some items) = ap (λ all. Some all) (sym (append-nil items))

with_one : (told : Option (List TraceItem)) (item : TraceItem) → with_item told item ≡ told_more told (item ∷ [])
with_one None item = refl
with_one (Some items) item = refl

-- before the first call
pub telling_starts : (v : TraceView) (due : List TraceItem) → Telling v due v due
telling_starts v due = record { done = []; parted = refl; told = told_none v.told; count = NeverFell-same v.faults; beside = refl; over = refl }

-- several items more
pub telling_part : {old mid new : TraceView} {due items rest : List TraceItem} → Telling old due mid (items ++ rest) → Telling mid items new [] → Telling old due new rest
telling_part {old} {mid} {new} {due} {items} {rest} before part = record {
  done = before.done ++ items;
  parted = before.parted ∙ sym (append_assoc before.done items rest);
  told =
      let whole : items ≡ part.done = part.parted ∙ append-nil part.done in
      part.told ∙ (ap (λ told. told_more told part.done) before.told ∙ (told_twice old.told before.done part.done ∙ ap (λ more. told_more old.told (before.done ++ more)) (sym whole)));
  count = NeverFell-then old.faults mid.faults new.faults before.count part.count;
  beside = part.beside ∙ before.beside;
  over = part.over ∙ before.over;
}

-- and a front of them
pub stopped_part : {old mid new : TraceView} {due items : List TraceItem} (rest : List TraceItem) → Telling old due mid (items ++ rest) → Stopped mid items new → Stopped old due new
stopped_part {old} {mid} {new} {due} {items} rest before stopped = let part = stopped.telling in record {
  left = stopped.left ++ rest;
  telling = record {
    done = before.done ++ part.done;
    parted = before.parted ∙ (ap (λ some. before.done ++ (some ++ rest)) part.parted
        ∙ (ap (λ some. before.done ++ some) (append_assoc part.done stopped.left rest) ∙ sym (append_assoc before.done part.done (stopped.left ++ rest))));
    told = part.told ∙ (ap (λ told. told_more told part.done) before.told ∙ told_twice old.told before.done part.done);
    count = NeverFell-then old.faults mid.faults new.faults before.count part.count;
    beside = part.beside ∙ before.beside;
    over = part.over ∙ before.over;
  };
}

-- what is told as far as a call is a front
pub stopped_here : {old new : TraceView} {due left : List TraceItem} → Telling old due new left → Stopped old due new
stopped_here {left = left} telling = record { left = left; telling = telling }

-- one call of a trace tells one item
told_ok : (old new : TraceView) (item : TraceItem) (result : Result ⊤ TraceFault) → Tells old item result new → OnOk result (Telling old (item ∷ []) new [])
told_ok old new item (Ok u) tells = record { done = item ∷ []; parted = refl; told = tells.ok ∙ with_one old.told item; count = tells.count; beside = tells.beside; over = tells.over }
told_ok old new item (Err e) tells = tt

told_err : (old new : TraceView) (item : TraceItem) (result : Result ⊤ TraceFault) → Tells old item result new → OnErr result (Stopped old (item ∷ []) new)
told_err old new item (Ok u) tells = tt
told_err old new item (Err e) tells = elim tells.err [
  | inl whole ↦ record { left = []; telling = record { done = item ∷ []; parted = refl; told = whole ∙ with_one old.told item; count = tells.count; beside = tells.beside; over = tells.over } }
  | inr none ↦ record { left = item ∷ []; telling = record { done = []; parted = refl; told = none ∙ told_none old.told; count = tells.count; beside = tells.beside; over = tells.over } }
]

pub tells_one : {old new : TraceView} {item : TraceItem} {result : Result ⊤ TraceFault} → Tells old item result new → TellsAll old (item ∷ []) result new
tells_one {old} {new} {item} {result} tells = record { ok = told_ok old new item result tells; err = told_err old new item result tells; written = tells.written }

-- a refusal of memory tells nothing
pub tells_nothing : {v : TraceView} {item : TraceItem} → Tells v item (Err Memory) v
tells_nothing {v} = record { ok = tt; err = inr refl; count = NeverFell-same v.faults; written = λ is. cc; beside = refl; over = refl }

-- a refusal while items were told, of which those before were
pub refused_part : {old mid new : TraceView} {due items : List TraceItem} (rest : List TraceItem) {result : Result ⊤ TraceFault} {e : TraceFault} → Telling old due mid (items ++ rest) → TellsAll mid items result new → result ≡ Err e → TellsAll old due (Err e) new
refused_part {old} {mid} {new} {items = items} rest {result = result} {e = e} before tells is = record {
  ok = tt;
  err = stopped_part rest before (subst (λ (r : Result ⊤ TraceFault). OnErr r (Stopped mid items new)) is tells.err);
  written = λ same. then-Rose old.faults mid.faults new.faults before.count (tells.written (is ∙ same));
}

-- and where nothing was refused
pub told_part : {old mid new : TraceView} {due items rest : List TraceItem} {result : Result ⊤ TraceFault} {u : ⊤} → Telling old due mid (items ++ rest) → TellsAll mid items result new → result ≡ Ok u → Telling old due new rest
told_part {mid = mid} {new = new} {items = items} before tells is = telling_part before (subst (λ (r : Result ⊤ TraceFault). OnOk r (Telling mid items new [])) is tells.ok)

-- a refusal of memory between two calls
pub refused_here : {old new : TraceView} {due left : List TraceItem} → Telling old due new left → TellsAll old due (Err Memory) new
refused_here telling = record { ok = tt; err = stopped_here telling; written = λ is. cc }

-- all items were told
pub told_all : {old new : TraceView} {due : List TraceItem} {u : ⊤} → Telling old due new [] → TellsAll old due (Ok u) new
told_all telling = record { ok = telling; err = tt; written = λ is. cc }

-- a fault that `?` hands on
pub handed_on : {old new : TraceView} {due : List TraceItem} (r : Result ⊤ TraceFault) {e : TraceFault} → IsErrAnd r (λ other. other ≡ e) → TellsAll old due (Err e) new → TellsAll old due r new
handed_on (Ok u) handed told = absurd handed
handed_on {old} {new} {due} (Err other) handed told = subst (λ (f : TraceFault). TellsAll old due (Err f) new) (sym handed) told

-- a refusal of one item, and of several
pub refused_one : {old mid new : TraceView} {due : List TraceItem} {item : TraceItem} (rest : List TraceItem) (r : Result ⊤ TraceFault) {e : TraceFault} → Telling old due mid (item ∷ rest) → Tells mid item (Err e) new → IsErrAnd r (λ other. other ≡ e) → TellsAll old due r new
refused_one rest r before tells handed = handed_on r handed (refused_part rest before (tells_one tells) refl)

pub refused_some : {old mid new : TraceView} {due items : List TraceItem} (rest : List TraceItem) (r : Result ⊤ TraceFault) {e : TraceFault} → Telling old due mid (items ++ rest) → TellsAll mid items (Err e) new → IsErrAnd r (λ other. other ≡ e) → TellsAll old due r new
refused_some rest r before tells handed = handed_on r handed (refused_part rest before tells refl)

-- one item was told, and several
pub told_one : {old mid new : TraceView} {due : List TraceItem} {item : TraceItem} {rest : List TraceItem} {u : ⊤} → Telling old due mid (item ∷ rest) → Tells mid item (Ok u) new → Telling old due new rest
told_one before tells = telling_part before (tells_one tells).ok

pub told_some : {old mid new : TraceView} {due items rest : List TraceItem} {u : ⊤} → Telling old due mid (items ++ rest) → TellsAll mid items (Ok u) new → Telling old due new rest
told_some before tells = telling_part before tells.ok
