use Rattle.hkdd.proofs.SystemLaws.{model_fails, cert_in_fails, cert_out_fails}
use Rattle.hkdd.proofs.system.RealHostHost.open_slot.Goals as goal

pub returns-in_default : goal.returns-in_default
returns-in_default g c = record { opens = model_fails _ _ _ _ _ _ _ _ _ c.in-Model.is c.fault.ensures.higher }

pub returns-in_default-open : goal.returns-in_default-open
returns-in_default-open g c = record { opens = cert_in_fails _ _ _ _ _ _ _ _ _ c.in-CertIn.is c.fault-in_default-open.ensures.higher }

pub returns-in_default-create : goal.returns-in_default-create
returns-in_default-create g c = record { opens = cert_out_fails _ _ _ _ _ _ _ _ _ c.in-CertOut.is c.fault-in_default-create.ensures.higher }
