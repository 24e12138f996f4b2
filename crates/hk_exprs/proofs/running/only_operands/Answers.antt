use Rattle.std.proofs.Common.{◌≡◌, refl}
use Rattle.hk_exprs.specs.inside.Machines as machine
use Rattle.hk_exprs.specs.inside.Standing.{IsKept}
use Rattle.hk_exprs.proofs.KeepingFrames.{from_both}
use Rattle.hk_exprs.proofs.running.only_operands.Goals as goal

pub returns-in-Both-clause-some : goal.returns-in-Both-clause-some
returns-in-Both-clause-some c = λ names. from_both (λ f. (x : machine.Operand) × (y : machine.Operand) × (f ≡ machine.Both x y) × IsKept names x c.in-Both.a × IsKept names y c.in-Both.b) c.in-Both.is (λ x y kept more. (x, y, refl, kept, more))
