use Rattle.std.proofs.Common.{◌≡◌, ◌++◌, take}
use Rattle.std.specs.List.{flat_map}
use Rattle.hk_print.specs.Printed.{property_line}
use Rattle.hk_print.specs.Pieces.{line_text}
use Rattle.hk_print.proofs.properties.print_properties.Given as goal

-- the lines of the properties so far have been written
abbrev pub invariant-loop-property : goal.invariant-loop-property
invariant-loop-property l = l.out ≡ l.fn.out ++ flat_map (λ p. line_text (property_line l.side p)) (take l.property-index l.properties)
