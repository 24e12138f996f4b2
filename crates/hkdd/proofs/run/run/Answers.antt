use Rattle.std.proofs.Common.{subst}
use Rattle.hk_base.specs.declared.host.Slot.TheVariants.{Out}
use Rattle.hk_base.specs.Hosts.{Wrote, WroteFront}
use Rattle.hkdd.proofs.Clauses.{ran}
use Rattle.hkdd.proofs.Endings.{ends_well, ends_in_fault, ends_empty}
use Rattle.hkdd.proofs.Takings.{Takes-then}
use Rattle.hkdd.proofs.run.run.Goals as goal

pub returns-in_default : goal.returns-in_default
returns-in_default g c = record { ran = ran (ends_empty _ _ c.requires.fresh c.decide.ensures.keeps) c.decide.ensures.takes }

pub returns-in-Ok-write_all : goal.returns-in-Ok-write_all
returns-in-Ok-write_all g c =
    let wrote = subst (λ text. Wrote Out text (g.H.Host.view c.decide.new.host) (g.H.Host.view c.write_all.new.host)) c.as_slice.ensures c.in-Ok-write_all.ensures.whole in
    record {
      ran = ran (ends_well c.requires.fresh c.decide.ensures.keeps c.in-Ok.ensures.due wrote) (Takes-then _ _ _ wrote.opened wrote.left c.decide.ensures.takes);
    }

pub returns : goal.returns
returns g c =
    let wrote = subst (λ text. WroteFront Out text (g.H.Host.view c.decide.new.host) (g.H.Host.view c.write_all.new.host)) c.as_slice.ensures c.in-Err.ensures.front in
    record {
      ran = ran (ends_in_fault c.requires.fresh c.decide.ensures.keeps c.in-Ok.ensures.due wrote c.in-Err.ensures.faulted) (Takes-then _ _ _ wrote.wrote.opened wrote.wrote.left c.decide.ensures.takes);
    }
