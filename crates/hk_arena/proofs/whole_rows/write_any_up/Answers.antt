use Rattle.std.proofs.Common.{◌+◌, ◌*◌, IfSome, length, subst, arith}
use Rattle.hk_kinds.specs.Shapes.{HasShape}
use Rattle.hk_arena.proofs.Properties.{length-shape}
use Rattle.hk_arena.proofs.WholeRows.{IsRowWritten-within}
use Rattle.hk_arena.proofs.whole_rows.write_any_up.Goals as goal

pub returns-in_err-write_up-in-Some-clause-written :
    goal.returns-in_err-write_up-in-Some-clause-written
returns-in_err-write_up-in-Some-clause-written g c =
    let long = length-shape (subst (λ up. IfSome up (HasShape c.args.layout.now.shape.up)) c.in-Some.is c.requires.shape) in
    IsRowWritten-within c.args.layout.now c.args.row (1 + 2 * length c.in-Some.state) (1 + 2 * length c.args.layout.now.shape.up) c.args.store.now c.write_up.new.store (omega arith) c.write_up.ensures.written

pub returns-in_err-write_up-in-Some-clause-ticks : goal.returns-in_err-write_up-in-Some-clause-ticks
returns-in_err-write_up-in-Some-clause-ticks g c =
    let long = length-shape (subst (λ up. IfSome up (HasShape c.args.layout.now.shape.up)) c.in-Some.is c.requires.shape) in
    omega (arith, c.write_up.ensures.ticks)

pub returns-in_ok-write_up-in-Some-clause-written :
    goal.returns-in_ok-write_up-in-Some-clause-written
returns-in_ok-write_up-in-Some-clause-written g c =
    let long = length-shape (subst (λ up. IfSome up (HasShape c.args.layout.now.shape.up)) c.in-Some.is c.requires.shape) in
    IsRowWritten-within c.args.layout.now c.args.row (1 + 2 * length c.in-Some.state) (1 + 2 * length c.args.layout.now.shape.up) c.args.store.now c.write_up.new.store (omega arith) c.write_up.ensures.written

pub returns-in_ok-write_up-in-Some-clause-ticks : goal.returns-in_ok-write_up-in-Some-clause-ticks
returns-in_ok-write_up-in-Some-clause-ticks g c =
    let long = length-shape (subst (λ up. IfSome up (HasShape c.args.layout.now.shape.up)) c.in-Some.is c.requires.shape) in
    omega (arith, c.write_up.ensures.ticks)
