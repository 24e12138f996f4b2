use Rattle.std.proofs.Common.{subst, sym}
use Rattle.hk_kinds.proofs.StateLaws.{HasShape-top}
use Rattle.hk_kinds.specs.Shapes.{HasShape}
use Rattle.hk_rows.proofs.changed.state_of.Goals as goal

pub returns-in-Ok : goal.returns-in-Ok
returns-in-Ok c = subst (HasShape c.args.shape.now) (sym c.in-Ok.ensures) (HasShape-top c.args.shape.now)
