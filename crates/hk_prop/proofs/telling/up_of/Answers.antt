use Rattle.std.proofs.Common.{List, sym, subst}
use Rattle.hk_kinds.proofs.StateLaws.{HasShape-top}
use Rattle.hk_kinds.specs.Shapes.{HasShape}
use Rattle.hk_kinds.specs.declared.kinds.Kind.{Kind}
use Rattle.hk_kinds.specs.declared.properties.Prop.{Prop}
use Rattle.hk_prop.proofs.telling.up_of.Goals as goal

pub up-requires-clause-shape : goal.up-requires-clause-shape
up-requires-clause-shape c =
    subst (λ (kinds : List Kind). HasShape kinds c.in_ok-state.state) c.requires.shape
    (subst (λ (state : List Prop). HasShape c.args.shape.now state) (sym c.in_ok-state.ensures) (HasShape-top c.args.shape.now))
