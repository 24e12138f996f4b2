use Rattle.std.proofs.Common.{◌≡◌, ◌++◌, drop}
use Rattle.hk_spec.specs.Specifications.{initial_values}
use Rattle.hk_spec.proofs.runs.initial_state.Given as goal

-- the values are those so far, and then those of the rest
abbrev pub invariant-loop-property : goal.invariant-loop-property
invariant-loop-property l = initial_values l.properties ≡ l.state ++ initial_values (drop l.property-index l.properties)
