use Rattle.std.proofs.Common.{refl}
use Rattle.hkdd.proofs.SystemLaws.{reading}
use Rattle.hkdd.proofs.system.RealHostHost.read.Goals as goal

pub returns-in-Model : goal.returns-in-Model
returns-in-Model g c = record {
  reads = reading _ _ _ _ _ _ _ _ _ _ _ c.read_some.ensures.same refl c.read_some.ensures.within c.read_some.ensures.ok c.read_some.ensures.err;
}

pub returns-in-CertIn : goal.returns-in-CertIn
returns-in-CertIn g c = record {
  reads = reading _ _ _ _ _ _ _ _ _ _ _ refl c.read_some-in-CertIn.ensures.same c.read_some-in-CertIn.ensures.within c.read_some-in-CertIn.ensures.ok c.read_some-in-CertIn.ensures.err;
}
