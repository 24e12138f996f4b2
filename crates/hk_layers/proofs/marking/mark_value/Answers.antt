use Rattle.std.proofs.Common.{◌≡◌, ◌++◌, ◌∷◌, [], true, false, sym, ◌∙◌, ap, subst, OnOk}
use Rattle.hk_group.specs.Groups.{group_up_shape, group_passes}
use Rattle.hk_kinds.proofs.StateLaws.{HasShape-top}
use Rattle.hk_kinds.specs.Shapes.{HasShape}
use Rattle.hk_kinds.specs.Tops.{top_state}
use Rattle.hk_text.specs.Sets.{members_below}
use Rattle.hk_layers.proofs.RowMarks.{gone_without, gone_outside, tested}
use Rattle.hk_layers.specs.Layers.{Mark}
use Rattle.hk_layers.specs.inside.Marked.{marks_of}
use Rattle.hk_layers.proofs.marking.mark_value.Goals as goal

pub passes_at-requires-clause-up : goal.passes_at-requires-clause-up
passes_at-requires-clause-up c =
    subst (HasShape (group_up_shape c.args.spot.now.group)) (sym c.requires.top_up) (HasShape-top (group_up_shape c.args.spot.now.group))

pub returns-then-is_empty-clause-marks : goal.returns-then-is_empty-clause-marks
returns-then-is_empty-clause-marks c =
    let gone = gone_without c.args.spot.now c.args.down.now c.args.value _ (c.is_empty.ensures.0 c.if-is_empty.true) in
    subst (λ (m : Mark). OnOk c.stop.result (marks_of c.stop.new.self ≡ marks_of c.args.marks.now ++ m ∷ [])) (sym gone) c.stop.ensures.marks

pub returns-then-not-is_left-clause-marks : goal.returns-then-not-is_left-clause-marks
returns-then-not-is_left-clause-marks c =
    let gone = gone_outside c.args.spot.now c.args.down.now c.args.value (members_below c.args.set.now 256) (sym c.is_left.ensures ∙ c.if-not-is_left.true) in
    subst (λ (m : Mark). OnOk c.stop-then-not-is_left.result (marks_of c.stop-then-not-is_left.new.self ≡ marks_of c.args.marks.now ++ m ∷ [])) (sym gone) c.stop-then-not-is_left.ensures.marks

pub returns-then-passes_at-clause-marks : goal.returns-then-passes_at-clause-marks
returns-then-passes_at-clause-marks c =
    let top = c.requires.top_up in
    let is = c.args.spot.now in
    let down = c.args.down.now in
    let passing : group_passes is.group is.layer c.args.value is.best down (top_state (group_up_shape is.group)) ≡ true =
    ap (group_passes is.group is.layer c.args.value is.best down) (sym top)
    ∙ sym c.passes_at.ensures ∙ c.if-passes_at.true in
    let mark = tested is down c.args.value (members_below c.args.set.now 256) c.is_empty.result true c.is_empty.ensures c.if-is_empty.false (sym c.is_left.ensures ∙ c.if-not-is_left.false) passing in
    subst (λ (m : Mark). OnOk c.go_on.result (marks_of c.go_on.new.self ≡ marks_of c.args.marks.now ++ m ∷ [])) (sym mark) c.go_on.ensures.marks

pub returns-else-passes_at-clause-marks : goal.returns-else-passes_at-clause-marks
returns-else-passes_at-clause-marks c =
    let top = c.requires.top_up in
    let is = c.args.spot.now in
    let down = c.args.down.now in
    let passing : group_passes is.group is.layer c.args.value is.best down (top_state (group_up_shape is.group)) ≡ false =
    ap (group_passes is.group is.layer c.args.value is.best down) (sym top)
    ∙ sym c.passes_at.ensures ∙ c.if-passes_at.false in
    let mark = tested is down c.args.value (members_below c.args.set.now 256) c.is_empty.result false c.is_empty.ensures c.if-is_empty.false (sym c.is_left.ensures ∙ c.if-not-is_left.false) passing in
    subst (λ (m : Mark). OnOk c.stop-else-passes_at.result (marks_of c.stop-else-passes_at.new.self ≡ marks_of c.args.marks.now ++ m ∷ [])) (sym mark) c.stop-else-passes_at.ensures.marks
