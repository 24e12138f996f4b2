use Rattle.std.proofs.Common.{◌≡◌, ◌+◌, ◌++◌, length, map, take, drop}
use Rattle.hk_kinds.specs.Parts.{with_part}
use Rattle.hk_spec.specs.Steps.{step_value}
use Rattle.hk_spec.proofs.steps.write_steps.Given as goal

-- the state that is to be is what is written so far, then the steps that are left, then the rest as it was
abbrev pub invariant-loop-i : goal.invariant-loop-i
invariant-loop-i l = record {
  due : with_part l.first (map (step_value l.at) l.steps) l.initial.to ≡ take (l.first + l.i) l.to ++ (map (step_value l.at) (drop l.i l.steps) ++ drop (l.first + length l.steps) l.initial.to);
  rest : drop (l.first + l.i) l.to ≡ drop (l.first + l.i) l.initial.to;
  long : length l.to ≡ length l.initial.to;
}
