use Rattle.std.proofs.Common.{IfErr, map, subst}
use Rattle.hk_parse.specs.inside.LineParts.{IsHeaderFault}
use Rattle.hk_parse.specs.inside.Headers.{plain_param}
use Rattle.hk_parse.proofs.Beginnings.{texts_err}
use Rattle.hk_parse.proofs.blocks.Block.begin.Goals as goal

pub returns-in-Ok-Some-clause-err : goal.returns-in-Ok-Some-clause-err
returns-in-Ok-Some-clause-err c =
    let wrong = subst (λ params. IfErr c.declare.result (IsHeaderFault c.in-Ok-Some.header.name.now (map plain_param params))) c.as_slice.ensures c.declare.ensures.err in
    texts_err c.declare.result (rw c.in-Ok-Some.field-0-is at c.in-Ok-Some.ensures.some) wrong
