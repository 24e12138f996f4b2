use Rattle.std.proofs.Common.{◌<◌, sym, subst}
use Rattle.hk_arena.proofs.Zeros.{AreKept-none, opening_zeros}
use Rattle.hk_arena.specs.Forms.{Form}
use Rattle.hk_arena.proofs.diagram.Diagram.make.Goals as goal

pub invariant_of-opened : goal.invariant_of-opened
invariant_of-opened c = AreKept-none c.in_ok-layout.layout c.in-Ok.store c.in-Ok.ensures.content c.in-Ok.ensures.stack

pub opened-requires-clause-opening : goal.opened-requires-clause-opening
opened-requires-clause-opening c =
    opening_zeros c.in_ok-layout.layout c.in-Ok.store (subst (λ (form : Form). 0 < form.width) (sym c.in_ok-layout.ensures) c.requires.some_width) c.in-Ok.ensures.content c.in-Ok.ensures.written
