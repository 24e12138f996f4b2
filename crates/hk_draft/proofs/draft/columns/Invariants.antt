use Rattle.std.proofs.Common.{◌≡◌, ◌++◌}
use Rattle.std.specs.Map.{keys_of, values_of}
use Rattle.indexmap.specs.IndexMap.{keys, values}
use Rattle.hk_draft.proofs.Naming.{names_of}
use Rattle.hk_draft.proofs.draft.columns.Given as goal

abbrev pub invariant-loop-name : goal.invariant-loop-name
invariant-loop-name l = record {
  names : l.names ++ names_of (keys_of l.name-iterator) ≡ names_of (keys l.fn.variables);
  domains : l.domains ++ values_of l.name-iterator ≡ values l.fn.variables;
}
