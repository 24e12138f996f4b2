use Rattle.std.proofs.Common.{All, take}
use Rattle.std.specs.List.Sorted.{IsStrictlyIncreasing}
use Rattle.hk_group.proofs.scopes.all_rise.Given as goal

-- the scopes so far rise
abbrev pub invariant-loop-scope : goal.invariant-loop-scope
invariant-loop-scope l = All IsStrictlyIncreasing (take l.scope-index l.scopes)
