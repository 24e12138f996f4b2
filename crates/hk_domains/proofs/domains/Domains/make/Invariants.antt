use Rattle.std.proofs.Common.{◌≡◌, [], take}
use Rattle.hk_domains.proofs.domains.Domains.make.Given as goal

abbrev pub invariant-loop-set : goal.invariant-loop-set
invariant-loop-set l = record {
  sets : l.store.content.bits ≡ take l.set-index l.sets;
  stack : l.store.stack ≡ [];
}
