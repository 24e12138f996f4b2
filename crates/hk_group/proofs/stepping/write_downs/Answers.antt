use Rattle.std.proofs.Common.{◌≡◌, ◌≤◌, ◌+◌, length, arith, refl}
use Rattle.hk_group.specs.Groups.{down_width}
use Rattle.hk_group.proofs.Written.{downs_end, down_turn_own, down_turn_end, down_turn_room, down_turn}
use Rattle.hk_group.proofs.stepping.write_downs.Goals as goal

pub write_down-requires-clause-from : goal.write_down-requires-clause-from
write_down-requires-clause-from c = down_turn_own _ _ _ _ _ _ _ c.loop-k.invariant c.loop-k-test.true c.index-parts-k.result c.index-parts-k.is

pub write_down-requires-clause-room : goal.write_down-requires-clause-room
write_down-requires-clause-room c = down_turn_room _ _ _ _ _ _ _ c.loop-k.invariant c.loop-k-test.true c.index-parts-k.result c.index-parts-k.is

pub overflow_add-first : goal.overflow_add-first
overflow_add-first c =
    let end : c.loop-k.first + down_width c.index-parts-k.result ≤ length c.args.from.now = down_turn_end _ _ _ _ _ _ _ c.loop-k.invariant c.loop-k-test.true c.index-parts-k.result c.index-parts-k.is in
    let long : c.len-count.result ≡ length c.args.from.now = c.len-count.ensures in
    grind (arith, c.len-count.type_inv, c.down_count-first.ensures.count)

pub loop-k-preserved : goal.loop-k-preserved
loop-k-preserved c = down_turn _ _ _ _ _ _ _ c.loop-k.invariant c.loop-k-test.true c.index-parts-k.result c.index-parts-k.is _ refl c.down_count-first.result c.write_down.new.to c.down_count-first.ensures.rules.rules c.down_count-first.ensures.count c.write_down.ensures

pub returns : goal.returns
returns c = downs_end _ _ _ _ _ _ _ c.loop-k.invariant c.loop-k-test.false
