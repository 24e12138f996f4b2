use Rattle.std.proofs.Common.{take}
use Rattle.hk_model.specs.Postings.{AreArgsOf}
use Rattle.hk_lines.specs.PostShapes.{args_of}
use Rattle.hk_model.proofs.binding.bound_args.Given as goal

-- the arguments so far are bound
abbrev pub invariant-loop-arg : goal.invariant-loop-arg
invariant-loop-arg l = AreArgsOf (args_of (take l.arg-index l.args)) l.bound
