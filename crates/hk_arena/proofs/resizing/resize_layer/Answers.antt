use Rattle.std.proofs.Common.{◌+◌, ◌*◌, length, map, arith}
use Rattle.hk_trail.specs.Places.{cell_count}
use Rattle.hk_arena.proofs.Numbering.{IsRaised-more, IsRaised-within}
use Rattle.hk_arena.specs.Diagrams.{values_of}
use Rattle.hk_arena.proofs.resizing.resize_layer.Goals as goal

pub returns-clause-raised : goal.returns-clause-raised
returns-clause-raised g c =
    let cells = c.args.layout.now.width * length (values_of c.args.layout.now.shape c.args.layer) in
    let old = map cell_count c.args.store.now.written in
    let new = map cell_count c.write_rows.new.store.written in
    IsRaised-within (cells + 1) (1 + cells) old new (omega arith)
    (IsRaised-more cells 1 old (map cell_count c.erase_rows.new.store.written) new c.erase_rows.ensures.written.raised c.write_rows.ensures.raised)
