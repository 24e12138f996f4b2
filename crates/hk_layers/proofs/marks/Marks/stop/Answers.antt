use Rattle.std.proofs.Common.{◌++◌, ◌∷◌, [], sym, ◌∙◌, ap, subst}
use Rattle.hk_layers.specs.inside.Marked.{AreMarked, marks_of}
use Rattle.hk_layers.proofs.MarkLists.{IsStop, marked_stay, marks_stay, stop_cut, stop_gone}
use Rattle.hk_layers.proofs.marks.Marks.stop.Goals as goal
use Rattle.hk_layers.proofs.marks.Marks.stop.Goals.{then-cut, else-cut}

stops : (c : goal.In_ok-add) → IsStop c.args.cut c.if-cut.fate
stops c = elim c.if-cut.branch [ then-cut w ↦ stop_cut _ _ w.if-cut.true w.fate-is | else-cut w ↦ stop_gone _ _ w.if-cut.false w.fate-is ]

pub returns-clause-marks : goal.returns-clause-marks
returns-clause-marks c =
    ap marks_of c.in_ok-add.ensures.ok
    ∙ (marks_stay _ _ _ c.requires.marked _ c.requires.within c.if-cut.fate
    ∙ ap (λ mark. marks_of c.args.self.now ++ mark ∷ []) ((stops c).mark_is c.args.self.now.candidates c.args.set.now))

pub returns-clause-marked : goal.returns-clause-marked
returns-clause-marked c = subst (AreMarked c.args.spot.now c.args.old_rows) (sym c.in_ok-add.ensures.ok) (marked_stay _ _ _ c.requires.marked _ c.requires.within c.if-cut.fate ((stops c).there c.args.self.now.candidates))
