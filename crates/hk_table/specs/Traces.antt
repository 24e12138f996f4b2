-- What a trace says of itself, and what a call of it does.
use Rattle.std.specs.Prelude.{◌≡◌, ℕ, ◌⊎◌, List, [], ◌∷◌, ◌++◌, Option, None, Some, Result, Err, OnOk, OnErr, IfErr, ⊤}
use Rattle.hk_base.specs.Hosts.{NeverFell, Rose}
use Rattle.hk_table.specs.declared.items.TraceItem.{TraceItem}
use Rattle.hk_table.specs.declared.traces.TraceFault.{TraceFault}
use Rattle.hk_table.specs.declared.traces.TraceFault.TheVariants.{Memory, Written}

-- a trace: the list of the items that it was told, where it tells it; how many faults of the outside were counted; bytes
-- that lie beside it, where it tells them; and the name of the object that it was lent to write to, 0 where there is none
pub record TraceView : Type 0 where
  pub told : Option (List TraceItem)
  pub faults : ℕ
  pub beside : Option (List ℕ)
  pub over : ℕ

-- a trace that tells no list, and nothing that lies beside it
abbrev pub silent : TraceView
silent = record { told = None; faults = 0; beside = Some []; over = 0 }

-- a trace that tells its list alone
abbrev pub listed : List TraceItem → TraceView
listed items = record { told = Some items; faults = 0; beside = Some []; over = 0 }

-- what was told, with one item more
abbrev pub with_item : Option (List TraceItem) → TraceItem → Option (List TraceItem)
with_item None item = None
with_item (Some items) item = Some (items ++ item ∷ [])

-- a call tells an item: where it answers Ok, the item is told; where it refuses, it is told or nothing is. The count of
-- faults never falls, and Written is answered only where it rose. The bytes beside stay, and so does what the trace is over
pub record Tells (old : TraceView) (item : TraceItem) (result : Result ⊤ TraceFault) (new : TraceView) : Type 0 where
  pub ok : OnOk result (new.told ≡ with_item old.told item)
  pub err : OnErr result ((new.told ≡ with_item old.told item) ⊎ (new.told ≡ old.told))
  pub count : NeverFell old.faults new.faults
  pub written : result ≡ Err Written → Rose old.faults new.faults
  pub beside : new.beside ≡ old.beside
  pub over : new.over ≡ old.over

-- a list is told an item: the item is put at its end, or, where memory for it was refused, the list stays as it was
pub record Appends (old : List TraceItem) (item : TraceItem) (result : Result ⊤ TraceFault) (new : List TraceItem) : Type 0 where
  pub ok : OnOk result (new ≡ old ++ item ∷ [])
  pub err : OnErr result (new ≡ old)
  pub memory : IfErr result (λ fault. fault ≡ Memory)
