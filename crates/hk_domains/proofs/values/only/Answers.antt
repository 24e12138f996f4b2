use Rattle.hk_domains.proofs.Counting.{one_bit, IsOnlyValue-one_bit}
use Rattle.hk_domains.proofs.values.only.Goals as goal

pub returns-clause-alone : goal.returns-clause-alone
returns-clause-alone c = IsOnlyValue-one_bit c.args.value c.requires

pub returns-clause-power : goal.returns-clause-power
returns-clause-power c = one_bit c.args.value c.requires
