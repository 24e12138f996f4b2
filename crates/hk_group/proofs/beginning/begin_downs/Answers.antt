use Rattle.std.proofs.Common.{◌≡◌, ◌≤◌, ◌+◌, length, arith, sym, ◌∙◌}
use Rattle.hk_group.specs.Groups.{down_width}
use Rattle.hk_group.proofs.Begun.{downs_last, down_begin_room, down_begin_end, down_begin_turn}
use Rattle.hk_group.proofs.beginning.begin_downs.Goals as goal

pub begin_down-requires : goal.begin_down-requires
begin_down-requires c = down_begin_room _ _ _ _ c.loop-k.invariant c.loop-k-test.true c.index-parts-k.result c.index-parts-k.is

pub overflow_add-first : goal.overflow_add-first
overflow_add-first c =
    let end : c.loop-k.first + down_width c.index-parts-k.result ≤ length c.loop-k.to = down_begin_end _ _ _ _ c.loop-k.invariant c.loop-k-test.true c.index-parts-k.result c.index-parts-k.is in
    let long : length c.loop-k.to ≡ length c.args.to.now = c.loop-k.invariant.whole ∙ sym c.requires in
    grind (arith, c.len-places.ensures, c.len-places.type_inv, c.down_count-first.ensures.count)

pub loop-k-preserved : goal.loop-k-preserved
loop-k-preserved c = down_begin_turn _ _ _ _ c.loop-k.invariant c.loop-k-test.true c.index-parts-k.result c.index-parts-k.is c.down_count-first.result c.begin_down.new.to c.down_count-first.ensures.count c.begin_down.ensures

pub returns : goal.returns
returns c = downs_last _ _ _ _ c.loop-k.invariant c.loop-k-test.false
