-- Why the passes of a node end before the last.
use Rattle.hk_table.specs.declared.traces.TraceFault.{TraceFault}
use Rattle.hk_table.specs.declared.traces.TraceFault.TheVariants as trace
use Rattle.hk_prop.specs.declared.faults.PropFault.{PropFault}
use Rattle.hk_prop.specs.declared.faults.PropFault.TheVariants as fault

-- the fault of passes that a fault of a trace makes
abbrev pub fault_of : TraceFault → PropFault
fault_of trace.Written = fault.Trace
fault_of trace.Memory = fault.Memory
