use Rattle.std.proofs.Common.{refl, sym, ap}
use Rattle.std.specs.Prelude.{is_some}
use Rattle.hkdd.proofs.SystemLaws.{writing}
use Rattle.hkdd.proofs.system.RealHostHost.write.Goals as goal

pub returns-in-Some : goal.returns-in-Some
returns-in-Some g c = record {
  writes = writing _ _ _ _ _ _ _ _ _ _ (sym (ap is_some c.in-Some.is)) c.write_some.ensures.some c.write_some.ensures.within c.write_some.ensures.ok c.write_some.ensures.err;
}

pub returns-in-Out : goal.returns-in-Out
returns-in-Out g c = record {
  writes = writing _ _ _ _ _ _ _ _ _ _ refl c.write_some-in-Out.ensures.some c.write_some-in-Out.ensures.within c.write_some-in-Out.ensures.ok c.write_some-in-Out.ensures.err;
}
