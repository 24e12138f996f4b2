use Rattle.std.proofs.Common.{◌≡◌, ◌≤◌, ◌+◌, length, arith, sym, ◌∙◌}
use Rattle.hk_group.specs.Groups.{up_width}
use Rattle.hk_group.proofs.Begun.{ups_last, up_begin_room, up_begin_end, up_begin_turn}
use Rattle.hk_group.proofs.beginning.begin_ups.Goals as goal

pub begin_up-requires : goal.begin_up-requires
begin_up-requires c = up_begin_room _ _ _ _ c.loop-k.invariant c.loop-k-test.true c.index-parts-k.result c.index-parts-k.is

pub overflow_add-first : goal.overflow_add-first
overflow_add-first c =
    let end : c.loop-k.first + up_width c.index-parts-k.result ≤ length c.loop-k.to = up_begin_end _ _ _ _ c.loop-k.invariant c.loop-k-test.true c.index-parts-k.result c.index-parts-k.is in
    let long : length c.loop-k.to ≡ length c.args.to.now = c.loop-k.invariant.whole ∙ sym c.requires in
    grind (arith, c.len-places.ensures, c.len-places.type_inv, c.up_count-first.ensures.count)

pub loop-k-preserved : goal.loop-k-preserved
loop-k-preserved c = up_begin_turn _ _ _ _ c.loop-k.invariant c.loop-k-test.true c.index-parts-k.result c.index-parts-k.is c.up_count-first.result c.begin_up.new.to c.up_count-first.ensures.count c.begin_up.ensures

pub returns : goal.returns
returns c = ups_last _ _ _ _ c.loop-k.invariant c.loop-k-test.false
