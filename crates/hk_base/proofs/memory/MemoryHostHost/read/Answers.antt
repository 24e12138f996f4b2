use Rattle.hk_base.proofs.MemoryLaws.{Reads-exactly}
use Rattle.hk_base.proofs.memory.MemoryHostHost.read.Goals as goal

pub returns-clause-reads : goal.returns-clause-reads
returns-clause-reads c = Reads-exactly _ _ _ _ _ _ c.requires.open c.requires.room c.read_left.auto.into c.read_left.ensures.fit c.read_left.ensures.exactly
