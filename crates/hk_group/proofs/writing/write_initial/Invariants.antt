use Rattle.std.proofs.Common.{◌≡◌, ◌+◌, ◌++◌, length, take, drop}
use Rattle.hk_kinds.specs.Parts.{with_part}
use Rattle.hk_spec.specs.Specifications.{initial_values}
use Rattle.hk_group.proofs.writing.write_initial.Given as goal

-- the state that is to be is what is written so far, then the values that are left, then the rest as it was
abbrev pub invariant-loop-i : goal.invariant-loop-i
invariant-loop-i l = record {
  due : with_part l.first (initial_values l.properties) l.initial.to ≡ take (l.first + l.i) l.to ++ (initial_values (drop l.i l.properties) ++ drop (l.first + length l.properties) l.initial.to);
  rest : drop (l.first + l.i) l.to ≡ drop (l.first + l.i) l.initial.to;
  long : length l.to ≡ length l.initial.to;
}
