use Rattle.hk_base.proofs.MemoryLaws.{Writes-exactly}
use Rattle.hk_base.proofs.memory.MemoryHostHost.write.Goals as goal

pub returns-clause-writes : goal.returns-clause-writes
returns-clause-writes c = Writes-exactly _ _ _ _ _ c.requires.open c.requires.some c.write_whole.ensures.fit c.write_whole.ensures.exactly
