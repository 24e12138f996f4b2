use Rattle.std.proofs.Common.{arith, ap, length, length-take}
use Rattle.hkdd.proofs.Pieces.{TookFew-reads}
use Rattle.hkdd.proofs.reading.read_piece.Goals as goal

pub returns-in_err-count-clause-few : goal.returns-in_err-count-clause-few
returns-in_err-count-clause-few g c =
    let bounded = length-take c.min-asked.result c.args.piece.now in
    let had = ap length c.as_slice.ensures in
    TookFew-reads c.args.text.now _ _ c.read.new.into _ (grind arith) c.read.ensures.reads
