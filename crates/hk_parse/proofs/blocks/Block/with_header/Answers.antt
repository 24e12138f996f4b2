use Rattle.std.proofs.Common.{subst}
use Rattle.hk_parse.specs.Blocks.{IsPart}
use Rattle.hk_parse.proofs.Beginnings.{begun_is_part, begun_fields}
use Rattle.hk_parse.proofs.blocks.Block.with_header.Goals as goal

pub invariant_of-result : goal.invariant_of-result
invariant_of-result c =
    subst IsPart (begun_fields c.in_ok-bytes_of.ensures c.new.ensures c.new-2.ensures c.new-3.ensures c.new-4.ensures) (begun_is_part c.args.name.now _ _ c.requires c.in_ok-declared_params.ensures)
