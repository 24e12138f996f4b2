use Rattle.std.proofs.Common.{subst, sym, refl}
use Rattle.hk_kinds.specs.Shapes.{HasShape}
use Rattle.hk_rows.proofs.Shaped.{HasShape-set}
use Rattle.hk_rows.proofs.filling.put.Goals as goal

pub returns : goal.returns
returns c =
    subst (HasShape c.args.kinds.now) (sym c.set.ensures)
    (HasShape-set c.args.kinds.now c.args.state.now c.args.at c.args.property _ c.if-at-kinds.false c.requires (c.if-not-is_of_kind.ensures refl))
