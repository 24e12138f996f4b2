use Rattle.std.proofs.Common.{◌≡◌, ◌≤◌, ◌+◌, length, arith, refl}
use Rattle.hk_group.specs.Groups.{down_width, up_width}
use Rattle.hk_group.proofs.Tested.{test_down, test_up, test_down_end, test_up_end, test_turn}
use Rattle.hk_group.proofs.testing.parts_pass.Goals as goal

pub passes-requires-clause-down : goal.passes-requires-clause-down
passes-requires-clause-down c = test_down _ _ _ _ _ _ _ _ _ c.loop-k.invariant c.loop-k-test.true c.index-parts-k.result c.index-parts-k.is

pub passes-requires-clause-up : goal.passes-requires-clause-up
passes-requires-clause-up c = test_up _ _ _ _ _ _ _ _ _ c.loop-k.invariant c.loop-k-test.true c.index-parts-k.result c.index-parts-k.is

pub overflow_add-first_down : goal.overflow_add-first_down
overflow_add-first_down c =
    let end : c.loop-k.first_down + down_width c.index-parts-k.result ≤ length c.args.down.now = test_down_end _ _ _ _ _ _ _ _ _ c.loop-k.invariant c.loop-k-test.true c.index-parts-k.result c.index-parts-k.is in
    let long : c.len-down_count.result ≡ length c.args.down.now = c.len-down_count.ensures in
    grind (arith, c.len-down_count.type_inv, c.down_count-first_down.ensures.count)

pub overflow_add-first_up : goal.overflow_add-first_up
overflow_add-first_up c =
    let end : c.loop-k.first_up + up_width c.index-parts-k.result ≤ length c.args.up.now = test_up_end _ _ _ _ _ _ _ _ _ c.loop-k.invariant c.loop-k-test.true c.index-parts-k.result c.index-parts-k.is in
    let long : c.len-up_count.result ≡ length c.args.up.now = c.len-up_count.ensures in
    grind (arith, c.len-up_count.type_inv, c.up_count-first_up.ensures.count)

pub loop-k-preserved : goal.loop-k-preserved
loop-k-preserved c = test_turn _ _ _ _ _ _ _ _ _ c.loop-k.invariant c.loop-k-test.true c.index-parts-k.result c.index-parts-k.is _ refl c.passes.result c.down_count-first_down.result c.up_count-first_up.result c.passes.ensures c.if-not-passes.false c.down_count-first_down.ensures.count c.up_count-first_up.ensures.count
