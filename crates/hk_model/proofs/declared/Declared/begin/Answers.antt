use Rattle.std.proofs.Common.{sym, subst, ◌≤◌, ◌<◌, length, arith}
use Rattle.hk_model.specs.Limits.{most_specifications}
use Rattle.hk_model.specs.inside.Faults.{IsLineFault}
use Rattle.hk_model.proofs.Openings.{begun_taken, begun_full, begun_opens, begun_fault}
use Rattle.hk_model.proofs.declared.Declared.begin.Goals as goal

pub returns-then-taken-clause-err : goal.returns-then-taken-clause-err
returns-then-taken-clause-err c = begun_taken c.args.self.now c.requires.has c.requires.begins.1 c.requires.outside c.requires.started c.is_taken-taken.ensures c.in-Ok.ensures.ok c.if-taken.true

pub returns-then-spec_count-ge-SPECIFICATIONS-clause-err : goal.returns-then-spec_count-ge-SPECIFICATIONS-clause-err
returns-then-spec_count-ge-SPECIFICATIONS-clause-err c =
    let full : most_specifications ≤ length c.args.self.now.specs = omega (arith, c.if-spec_count-ge-SPECIFICATIONS.true, c.spec_count.ensures) in
    begun_full c.args.self.now c.requires.has c.requires.begins.1 c.requires.outside c.requires.started c.is_taken-taken.ensures c.in-Ok.ensures.ok c.if-taken.false full

pub returns-else-spec_count-ge-SPECIFICATIONS-clause-ok : goal.returns-else-spec_count-ge-SPECIFICATIONS-clause-ok
returns-else-spec_count-ge-SPECIFICATIONS-clause-ok c =
    let room : length c.args.self.now.specs < most_specifications = omega (arith, c.if-spec_count-ge-SPECIFICATIONS.false, c.spec_count.ensures) in
    begun_opens c.args.self.now c.requires.has c.requires.begins.1 c.requires.outside c.requires.started c.is_taken-taken.ensures c.in-Ok.ensures.ok c.if-taken.false room

pub returns-in-Err-clause-err : goal.returns-in-Err-clause-err
returns-in-Err-clause-err c = subst (IsLineFault c.args.self.now c.args.line.now) (sym c.begin_fault.ensures)
    (begun_fault c.args.self.now c.requires.has c.requires.begins.1 c.requires.outside c.requires.started c.is_taken-taken.ensures c.in-Err.fault c.in-Err.ensures.err)
