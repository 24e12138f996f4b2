use Rattle.std.proofs.Common.{false, get_or, sym, ◌∙◌, ap}
use Rattle.std.proofs.lemmas.List.{get_or_past}
use Rattle.hk_layers.proofs.UpLists.{seen_there, seen_none}
use Rattle.hk_layers.proofs.ups.Ups.at.Goals as goal
use Rattle.hk_layers.proofs.ups.Ups.at.Goals.{else-row-there-via-then-row-there+else-there-row, else-row-there-via-else-row-there}

pub returns-then-there-row : goal.returns-then-there-row
returns-then-there-row c = seen_there _ _ _ _ c.self.view_is c.self.invariant c.args.row _ _ (ap (λ flags. get_or flags c.args.row false) c.as_slice-there.ensures.value) c.if-there-row.true c.at.ensures.row

pub returns-else-row-there : goal.returns-else-row-there
returns-else-row-there c =
    let flag = ap (λ flags. get_or flags c.args.row false) (sym c.as_slice-there.ensures.value) in elim c.else-row-there.branch [
      | else-row-there-via-then-row-there+else-there-row w ↦ seen_none _ _ _ _ c.self.view_is c.self.invariant c.args.row (flag ∙ w.if-there-row.false)
      | else-row-there-via-else-row-there w ↦ seen_none _ _ _ _ c.self.view_is c.self.invariant c.args.row (flag ∙ get_or_past _ c.args.row false w.if-row-there.false)
    ]
