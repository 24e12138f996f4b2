use Rattle.std.proofs.Common.{◌≡◌, ◌++◌}
use Rattle.hk_text.specs.Sets.{members_below, values_text}
use Rattle.hk_text.proofs.Members.{is_none}
use Rattle.hk_text.proofs.sets.push_values.Given as goal

-- the values below have been written
abbrev pub invariant-loop-value : goal.invariant-loop-value
invariant-loop-value l = record {
  text : l.out ≡ l.fn.out ++ values_text l.lead l.between (members_below l.bits l.value);
  none : l.first ≡ is_none (members_below l.bits l.value);
}
