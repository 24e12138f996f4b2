-- What several calls of a trace tell, one after the other.
use Rattle.std.specs.Prelude.{◌≡◌, List, [], ◌++◌, Result, Err, OnOk, OnErr, ⊤}
use Rattle.hk_base.specs.Hosts.{NeverFell, Rose}
use Rattle.hk_table.specs.Traces.{TraceView}
use Rattle.hk_table.specs.declared.items.TraceItem.{TraceItem}
use Rattle.hk_table.specs.declared.traces.TraceFault.{TraceFault}
use Rattle.hk_table.specs.declared.traces.TraceFault.TheVariants.{Written}
use Rattle.hk_prop.specs.Told.{told_more}

-- of items that are due, those before the ones that are left were told; the count of faults fell at no time, and the bytes
-- beside and what the trace is over are as they were
pub record Telling (old : TraceView) (due : List TraceItem) (new : TraceView) (left : List TraceItem) : Type 0 where
  pub done : List TraceItem
  pub parted : due ≡ done ++ left
  pub told : new.told ≡ told_more old.told done
  pub count : NeverFell old.faults new.faults
  pub beside : new.beside ≡ old.beside
  pub over : new.over ≡ old.over

-- a front of the items that are due was told
pub record Stopped (old : TraceView) (due : List TraceItem) (new : TraceView) : Type 0 where
  pub left : List TraceItem
  pub telling : Telling old due new left

-- calls tell items: after Ok all of them were told, and else a front. Written is answered only where the count of faults
-- rose
pub record TellsAll (old : TraceView) (items : List TraceItem) (result : Result ⊤ TraceFault) (new : TraceView) : Type 0 where
  pub ok : OnOk result (Telling old items new [])
  pub err : OnErr result (Stopped old items new)
  pub written : result ≡ Err Written → Rose old.faults new.faults
