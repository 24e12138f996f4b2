use Rattle.std.proofs.Common.{◌≡◌, ◌++◌, map}
use Rattle.hk_group.specs.Composed.{HaveLengths, parts_of}
use Rattle.hk_group.specs.Grouping.{part_on}
use Rattle.hk_draft.proofs.specifying.push_bounds.Given as goal

-- the parts of the specifications so far are put there
abbrev pub invariant-loop-bound : goal.invariant-loop-bound
invariant-loop-bound l = record {
  parts : parts_of l.specs l.scopes ≡ parts_of l.initial.specs l.initial.scopes ++ map (part_on l.scope) l.yielded;
  lengths : HaveLengths l.specs l.scopes;
}
