use Rattle.std.proofs.Common.{All, take}
use Rattle.hk_model.specs.Postings.{IsSmallArg}
use Rattle.hk_lines.specs.PostShapes.{args_of}
use Rattle.hk_model.proofs.binding.are_small_args.Given as goal

-- the arguments so far are small
abbrev pub invariant-loop-arg : goal.invariant-loop-arg
invariant-loop-arg l = All (IsSmallArg l.count) (args_of (take l.arg-index l.args))
