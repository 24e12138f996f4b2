use Rattle.std.proofs.Common.{◌≤◌, length, arith}
use Rattle.hk_group.proofs.SumSizes.{scope_short}
use Rattle.hk_draft.proofs.specifying.variable_count.Goals as goal

pub prove-unreachable-requires : goal.prove-unreachable-requires
prove-unreachable-requires c =
    let short : length c.args.scope.now ≤ 256 = scope_short 256 c.args.scope.now c.requires in
    omega (arith, short, c.if-prove.true)
