use Rattle.std.proofs.Common.{◌≡◌, ◌++◌, drop}
use Rattle.hk_group.specs.inside.Joined.{scopes_joined}
use Rattle.hk_group.proofs.union.joined.Given as goal

-- the scopes are those joined so far, and then those of the parts that are left
abbrev pub invariant-loop-part : goal.invariant-loop-part
invariant-loop-part l = scopes_joined l.parts ≡ l.variables ++ scopes_joined (drop l.part-index l.parts)
