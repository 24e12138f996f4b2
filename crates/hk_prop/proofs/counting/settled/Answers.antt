use Rattle.std.proofs.Common.{◌≡◌, get_or, arith, sym}
use Rattle.hk_group.proofs.Places.{place_found, place_missing}
use Rattle.hk_prop.proofs.counting.settled.Goals as goal

pub returns-then-sets-at-eq0 : goal.returns-then-sets-at-eq0
returns-then-sets-at-eq0 c =
    let empty : get_or c.args.sets.now c.sets.at 0 ≡ 0 = omega (arith, c.if-sets-at-eq0.true) in
    sym (place_found c.args.sets.now 0 c.sets.at (omega (arith, c.sets-test.true, c.sets.auto.at-end)) c.sets.invariant empty)

pub returns : goal.returns
returns c = sym (place_missing c.args.sets.now 0 (λ j low. c.sets.invariant j (omega (arith, low, c.sets-test.false))))
