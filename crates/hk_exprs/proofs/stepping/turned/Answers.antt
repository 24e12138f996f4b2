use Rattle.std.proofs.Common.{◌≡◌, refl}
use Rattle.hk_exprs.proofs.KeepingFrames.{from_empty}
use Rattle.hk_exprs.specs.inside.Machines as machine
use Rattle.hk_exprs.specs.inside.Standing.{IsKeptFrame, kept_turned}
use Rattle.hk_exprs.specs.declared.frames.Frame.TheVariants as frame
use Rattle.hk_exprs.proofs.stepping.turned.Goals as goal

pub returns-in-Empty-clause-some : goal.returns-in-Empty-clause-some
returns-in-Empty-clause-some c = λ names f kept. from_empty (λ f. (f ≡ machine.Empty) × IsKeptFrame names machine.Turned frame.Turned) c.in-Empty.is (refl, kept_turned) f kept
