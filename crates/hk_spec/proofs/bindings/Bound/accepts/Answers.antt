use Rattle.std.proofs.Common.{◌↔◌, IsTrue, IfOk, subst}
use Rattle.std.specs.Int.{w64}
use Rattle.std.proofs.lemmas.Int.{to_z-of_z}
use Rattle.hk_spec.specs.Runs.{Accepts}
use Rattle.hk_spec.proofs.bindings.Bound.accepts.Goals as goal

pub returns-in-Ok : goal.returns-in-Ok
returns-in-Ok c =
    subst (λ best. IfOk c.accepts_between.result (λ accepted. IsTrue accepted ↔ Accepts c.args.self.now best c.args.values.now)) (to_z-of_z w64 c.args.best c.ranges.best) c.accepts_between.ensures
