use Rattle.hk_table.proofs.Supported.{IsSupportUpTo}
use Rattle.hk_table.specs.Tables.{layer_values}
use Rattle.hk_table.proofs.tables.Table.support_into.Given as goal

-- the layers before this one are done, and the rows of this one that are reached are known
abbrev pub invariant-loop-level : goal.invariant-loop-level
invariant-loop-level l = IsSupportUpTo (layer_values l.shape) l.layers l.out l.level l.reached
