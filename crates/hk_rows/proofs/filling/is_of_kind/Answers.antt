use Rattle.std.proofs.Common.{rules, ◌<◌, ◌^◌, w64, FitsSigned, subst}
use Rattle.std.proofs.lemmas.Int.{to_z-of_z}
use Rattle.hk_kinds.specs.Limits.{IsWithinLimit}
use Rattle.hk_rows.proofs.Shaped.{min_is, max_is, interval_is, some_is, all_is}
use Rattle.hk_rows.proofs.filling.is_of_kind.Goals as goal

pub returns-in-Min-Num : goal.returns-in-Min-Num
returns-in-Min-Num c told =
    let fits : FitsSigned w64 c.in-Min-Num.n = search rules in
    min_is c.in-Min-Num.is-0 c.in-Min-Num.is-1 (subst IsWithinLimit (to_z-of_z w64 c.in-Min-Num.n fits) (c.is_within.ensures told))

pub returns-in-Max-Num : goal.returns-in-Max-Num
returns-in-Max-Num c told =
    let fits : FitsSigned w64 c.in-Max-Num.n = search rules in
    max_is c.in-Max-Num.is-0 c.in-Max-Num.is-1 (subst IsWithinLimit (to_z-of_z w64 c.in-Max-Num.n fits) (c.is_within-in-Max-Num.ensures told))

pub returns-then-is_within : goal.returns-then-is_within
returns-then-is_within c told =
    let low_fits : FitsSigned w64 c.in-Interval-Pair.low = search rules in
    let high_fits : FitsSigned w64 c.in-Interval-Pair.high = search rules in
    let low = subst IsWithinLimit (to_z-of_z w64 c.in-Interval-Pair.low low_fits) (c.is_within-in-Interval-Pair.ensures c.if-is_within.true) in
    interval_is c.in-Interval-Pair.is-0 c.in-Interval-Pair.is-1 low (subst IsWithinLimit (to_z-of_z w64 c.in-Interval-Pair.high high_fits) (c.is_within-then-is_within.ensures told))

pub returns-in-SomeBits-Bits : goal.returns-in-SomeBits-Bits
returns-in-SomeBits-Bits c told =
    let set : c.in-SomeBits-Bits.field-0-1 < 2 ^ 128 = search rules in
    some_is c.in-SomeBits-Bits.is-0 c.in-SomeBits-Bits.is-1 set

pub returns-in-AllBits-Bits : goal.returns-in-AllBits-Bits
returns-in-AllBits-Bits c told =
    let set : c.in-AllBits-Bits.field-0-1 < 2 ^ 128 = search rules in
    all_is c.in-AllBits-Bits.is-0 c.in-AllBits-Bits.is-1 set
