use Rattle.std.proofs.Common.{◌≡◌, ◌+◌, ◌^◌, ◌<◌, ◌++◌, ◌∷◌, [], length, sym, ◌∙◌, ap, subst}
use Rattle.hk_group.specs.Groups.{group_down_shape, group_down}
use Rattle.hk_kinds.specs.Shapes.{HasShape}
use Rattle.hk_text.specs.Sets.{members_below}
use Rattle.hk_layers.specs.Layers.{goes_on}
use Rattle.hk_layers.specs.Spots.{PlainSpot}
use Rattle.hk_layers.specs.inside.Marked.{AreMarked, marks_of}
use Rattle.hk_layers.specs.Views.{MarksView}
use Rattle.hk_layers.proofs.MarkLists.{marked_on, marks_on, refused, wide_as_candidates, with_mark}
use Rattle.hk_layers.specs.declared.marks.Fate.TheVariants as fate
use Rattle.hk_layers.proofs.marks.Marks.go_on.Goals as goal

pub number_of-requires-clause-width : goal.number_of-requires-clause-width
number_of-requires-clause-width c = ap length c.view.ensures ∙ wide_as_candidates _ _ _ _ _ _ c.write_down.ensures.shape (ap (λ (s : PlainSpot). s.group) c.spot.view_is) c.requires.marked (ap (λ (m : MarksView). m.width) c.self.view_is)

pub invariant_of-self : goal.invariant_of-self
invariant_of-self c = wide_as_candidates _ _ _ _ _ _ c.write_down.ensures.shape (ap (λ (s : PlainSpot). s.group) c.spot.view_is) c.requires.marked (ap (λ (m : MarksView). m.width) c.self.view_is) ∙ sym c.number_of.ensures.width

pub returns-in_err-number-clause-marks : goal.returns-in_err-number-clause-marks
returns-in_err-number-clause-marks c = refused _ _ c.from_residual.ensures.0

pub invariant_of-self-2 : goal.invariant_of-self-2
invariant_of-self-2 c = wide_as_candidates _ _ _ _ _ _ c.write_down.ensures.shape (ap (λ (s : PlainSpot). s.group) c.spot.view_is) c.requires.marked (ap (λ (m : MarksView). m.width) c.self.view_is) ∙ sym c.number_of.ensures.width

pub returns-in_err-add-clause-marks : goal.returns-in_err-add-clause-marks
returns-in_err-add-clause-marks c = refused _ _ c.from_residual-in_err-add.ensures.0

-- what was there before, by the lists
abbrev before : goal.In_ok-add → MarksView
before c = record { width = c.self.inside.candidates.width; candidates = c.self.inside.candidates.rows; fates = c.self.inside.fates.items; sets = c.self.inside.sets.items }

marked : (c : goal.In_ok-add) → AreMarked c.args.spot.now c.args.old_rows (before c)
marked c = subst (AreMarked c.args.spot.now c.args.old_rows) (sym c.self.view_is) c.requires.marked

shaped : (c : goal.In_ok-add) → HasShape (group_down_shape c.args.spot.now.group) c.view.result
shaped c = subst (HasShape (group_down_shape c.args.spot.now.group)) (sym c.view.ensures) (subst (λ (s : PlainSpot). HasShape (group_down_shape s.group) c.write_down.new.to) c.spot.view_is c.write_down.ensures.shape)

few : (c : goal.In_ok-add) → length c.self.inside.candidates.rows + 1 < 2 ^ 32
few c = subst (λ (m : MarksView). length m.candidates + 1 < 2 ^ 32) (sym c.self.view_is) c.requires.few

stepped : (c : goal.In_ok-add) → c.view.result ≡ group_down c.args.spot.now.group c.args.spot.now.layer c.args.value c.args.from.now
stepped c = c.view.ensures ∙ (c.write_down.ensures.step ∙ ap (λ (s : PlainSpot). group_down s.group s.layer c.args.value c.args.from.now) c.spot.view_is)

pub returns-clause-marks : goal.returns-clause-marks
returns-clause-marks c =
    ap marks_of c.in_ok-add.ensures.ok
    ∙ (marks_on _ _ (before c) (marked c) c.args.set.now c.requires.within c.view.result (shaped c) (few c) _ c.in_ok-number.number c.number_of.new.candidates.rows c.in_ok-number.ensures.number
    ∙ (ap (λ state. marks_of (before c) ++ goes_on state (members_below c.args.set.now 256) ∷ []) (stepped c)
    ∙ ap (λ (m : MarksView). marks_of m ++ goes_on (group_down c.args.spot.now.group c.args.spot.now.layer c.args.value c.args.from.now) (members_below c.args.set.now 256) ∷ []) c.self.view_is))

pub returns-clause-marked : goal.returns-clause-marked
returns-clause-marked c =
    subst (AreMarked c.args.spot.now c.args.old_rows) (sym c.in_ok-add.ensures.ok)
    (subst (λ w. AreMarked c.args.spot.now c.args.old_rows (record (with_mark (before c) c.number_of.new.candidates.rows (fate.On c.in_ok-number.number) c.args.set.now) { width = w })) (sym c.number_of.ensures.width)
    (marked_on _ _ (before c) (marked c) c.args.set.now c.requires.within c.view.result (shaped c) (few c) _ c.in_ok-number.number c.number_of.new.candidates.rows c.in_ok-number.ensures.number))
