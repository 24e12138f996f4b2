use Rattle.std.proofs.Common.{◌≡◌, ◌≤◌, ◌<◌, ◌+◌, ◌++◌, length, drop}
use Rattle.std.specs.Fmt.{decimal}
use Rattle.hk_text.proofs.numbers.write_digits.Given as goal

-- the digits of what is left of the number stand before those written
abbrev pub invariant-loop-left : goal.invariant-loop-left
invariant-loop-left l = record {
  below : l.left ≤ l.n;
  room : l.start < length l.text;
  written : decimal l.n ≡ decimal l.left ++ drop (l.start + 1) l.text;
}

abbrev pub decreases-loop-left : goal.decreases-loop-left
decreases-loop-left l = l.left
