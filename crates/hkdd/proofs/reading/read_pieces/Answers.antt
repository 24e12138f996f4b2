use Rattle.hkdd.proofs.Pieces.{goes_on, TookFew-then}
use Rattle.hkdd.proofs.reading.read_pieces.Goals as goal

pub returns-in_err-count-clause-few : goal.returns-in_err-count-clause-few
returns-in_err-count-clause-few g c = TookFew-then _ _ _ _ c.pieces.invariant c.read_piece.ensures.few

pub pieces-preserved : goal.pieces-preserved
pieces-preserved g c = goes_on _ _ _ _ _ _ c.pieces.invariant c.in_ok-count.ensures.took
