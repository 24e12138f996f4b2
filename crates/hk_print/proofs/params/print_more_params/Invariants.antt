use Rattle.std.proofs.Common.{◌≡◌, ◌++◌, codes, take}
use Rattle.std.specs.List.{flat_map}
use Rattle.hk_print.specs.Printed.{param_pieces}
use Rattle.hk_print.specs.Pieces.{piece, spaced}
use Rattle.hk_print.proofs.params.print_more_params.Given as goal

-- the parameters so far have been written
abbrev pub invariant-loop-param : goal.invariant-loop-param
invariant-loop-param l = l.out ≡ l.fn.out ++ flat_map (λ param. spaced (piece (codes ",") ++ param_pieces param)) (take l.param-index l.params)
