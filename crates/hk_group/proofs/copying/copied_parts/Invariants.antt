use Rattle.std.proofs.Common.{◌≡◌, ◌++◌, drop, All}
use Rattle.hk_group.specs.Composed.{HaveLengths, parts_of}
use Rattle.hk_group.specs.Groups.{IsPart}
use Rattle.hk_group.proofs.copying.copied_parts.Given as goal

-- the parts are those so far, and then those of the specifications and scopes that are left
abbrev pub invariant-loop-i : goal.invariant-loop-i
invariant-loop-i l = record {
  parts : parts_of l.specs l.scopes ≡ l.parts ++ parts_of (drop l.i l.specs) (drop l.i l.scopes);
  rules : All IsPart l.parts;
  left : HaveLengths (drop l.i l.specs) (drop l.i l.scopes);
}
