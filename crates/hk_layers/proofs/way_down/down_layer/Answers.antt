use Rattle.std.proofs.Common.{◌∙◌}
use Rattle.hk_layers.proofs.FlatMarks.{falls_by, length_leads}
use Rattle.hk_layers.proofs.way_down.down_layer.Goals as goal

pub returns-clause-down : goal.returns-clause-down
returns-clause-down c = λ old old_next long count olds.
    falls_by c.args.spot.now old old_next c.args.front.now.halves c.args.count _ _ _ count (c.in_ok-mark_layer.ensures.marks old old_next long count olds) c.in_ok-lead_on.ensures.leads c.in_ok-lead_on.ensures.next

pub returns-clause-long : goal.returns-clause-long
returns-clause-long c = length_leads c.mark_layer.new.marks _ _ c.in_ok-lead_on.ensures.leads c.in_ok-mark_layer.ensures.marked.long ∙ c.in_ok-mark_layer.ensures.long
