use Rattle.hk_base.proofs.MemoryLaws.{Opens-exactly}
use Rattle.hk_base.proofs.memory.MemoryHostHost.open_slot.Goals as goal

pub returns-clause-opens : goal.returns-clause-opens
returns-clause-opens c = Opens-exactly _ _ _ _ _ c.requires c.open.ensures.fit c.open.ensures.exactly
