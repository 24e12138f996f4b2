use Rattle.std.proofs.Common.{arith}
use Rattle.hk_domains.proofs.Counting.{HasSeveral-test}
use Rattle.hk_domains.proofs.values.has_several.Goals as goal

pub returns : goal.returns
returns c =
    HasSeveral-test c.args.set c.without.result (omega (arith, c.if-set-eq0.false)) c.ranges.set.fits c.without.type_inv c.without.ensures.without
