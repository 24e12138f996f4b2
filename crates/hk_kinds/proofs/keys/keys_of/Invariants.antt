use Rattle.hk_kinds.specs.inside.Keys.{AreKeysOf}
use Rattle.hk_kinds.proofs.keys.keys_of.Given as goal

-- the keys of so many rows are made
abbrev pub invariant-loop-number : goal.invariant-loop-number
invariant-loop-number l = AreKeysOf l.states.rows l.number l.keys.items
