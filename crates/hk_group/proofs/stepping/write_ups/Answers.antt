use Rattle.std.proofs.Common.{◌≡◌, ◌≤◌, ◌+◌, length, arith, refl}
use Rattle.hk_group.specs.Groups.{up_width}
use Rattle.hk_group.proofs.Written.{ups_end, up_turn_own, up_turn_end, up_turn_room, up_turn}
use Rattle.hk_group.proofs.stepping.write_ups.Goals as goal

pub write_up-requires-clause-from : goal.write_up-requires-clause-from
write_up-requires-clause-from c = up_turn_own _ _ _ _ _ _ _ c.loop-k.invariant c.loop-k-test.true c.index-parts-k.result c.index-parts-k.is

pub write_up-requires-clause-room : goal.write_up-requires-clause-room
write_up-requires-clause-room c = up_turn_room _ _ _ _ _ _ _ c.loop-k.invariant c.loop-k-test.true c.index-parts-k.result c.index-parts-k.is

pub overflow_add-first : goal.overflow_add-first
overflow_add-first c =
    let end : c.loop-k.first + up_width c.index-parts-k.result ≤ length c.args.from.now = up_turn_end _ _ _ _ _ _ _ c.loop-k.invariant c.loop-k-test.true c.index-parts-k.result c.index-parts-k.is in
    let long : c.len-count.result ≡ length c.args.from.now = c.len-count.ensures in
    grind (arith, c.len-count.type_inv, c.up_count-first.ensures.count)

pub loop-k-preserved : goal.loop-k-preserved
loop-k-preserved c = up_turn _ _ _ _ _ _ _ c.loop-k.invariant c.loop-k-test.true c.index-parts-k.result c.index-parts-k.is _ refl c.up_count-first.result c.write_up.new.to c.up_count-first.ensures.rules.rules c.up_count-first.ensures.count c.write_up.ensures

pub returns : goal.returns
returns c = ups_end _ _ _ _ _ _ _ c.loop-k.invariant c.loop-k-test.false
