use Rattle.hk_group.proofs.Tested.{TestsLeft}
use Rattle.hk_group.proofs.testing.parts_pass.Given as goal

-- all tests hold exactly where those of the parts that are left do
abbrev pub invariant-loop-k : goal.invariant-loop-k
invariant-loop-k l = TestsLeft l.parts l.places l.value l.best l.down l.up l.k l.first_down l.first_up
