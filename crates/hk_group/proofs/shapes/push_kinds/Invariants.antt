use Rattle.std.proofs.Common.{◌≡◌, ◌++◌, drop}
use Rattle.hk_spec.specs.Specifications.{kinds_of_properties}
use Rattle.hk_group.proofs.shapes.push_kinds.Given as goal

-- the shape that is to be is what is pushed so far, and then the kinds of the properties that are left
abbrev pub invariant-loop-property : goal.invariant-loop-property
invariant-loop-property l = l.initial.shape ++ kinds_of_properties l.properties ≡ l.shape ++ kinds_of_properties (drop l.property-index l.properties)
