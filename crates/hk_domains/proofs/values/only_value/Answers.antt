use Rattle.std.proofs.Common.{◌≡◌, ap, arith, Some, true, false}
use Rattle.std.specs.Int.{trailing_zeros, w128}
use Rattle.std.proofs.lemmas.Nat.Bits.{bit_at-trailing_zeros}
use Rattle.hk_domains.proofs.Counting.{IsOnlyValue-lowest}
use Rattle.hk_domains.proofs.values.only_value.Goals as goal

pub returns-clause-some : goal.returns-clause-some
returns-clause-some c =
    IsOnlyValue-lowest c.args.set (omega (arith, c.if-set-eq0.false)) c.ranges.set.fits (λ several. let no : false ≡ true = c.if-has_several.ensures.1 several in cc)

pub returns-clause-all : goal.returns-clause-all
returns-clause-all c =
    λ value alone.
    let lowest = bit_at-trailing_zeros w128 c.args.set (omega (arith, c.if-set-eq0.false)) c.ranges.set.fits in
    ap Some (alone.only (trailing_zeros w128 c.args.set) lowest.0 lowest.1)
