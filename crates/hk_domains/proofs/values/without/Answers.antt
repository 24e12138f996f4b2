use Rattle.hk_domains.proofs.Counting.{IsWithout-clear, IsWithout-absent}
use Rattle.hk_domains.proofs.values.without.Goals as goal

pub returns-clause-without : goal.returns-clause-without
returns-clause-without c = IsWithout-clear c.args.set c.args.value c.ranges.set.fits c.requires

pub returns-clause-same : goal.returns-clause-same
returns-clause-same c =
    λ absent. IsWithout-absent c.args.set c.args.value _ (IsWithout-clear c.args.set c.args.value c.ranges.set.fits c.requires) absent
