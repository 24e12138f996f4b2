use Rattle.hkdd.proofs.Pieces.{WereRead-taken}
use Rattle.hkdd.proofs.Takings.{TakesAtMost-opened}
use Rattle.hkdd.proofs.reading.read_file.Goals as goal

pub returns-in_err-text-clause-few : goal.returns-in_err-text-clause-few
returns-in_err-text-clause-few g c = TakesAtMost-opened _ _ _ _ c.in_ok-open_model.ensures.opened c.read_pieces.ensures.few

pub returns-clause-few : goal.returns-clause-few
returns-clause-few g c = TakesAtMost-opened _ _ _ _ c.in_ok-open_model.ensures.opened c.read_pieces.ensures.few

pub returns-clause-read : goal.returns-clause-read
returns-clause-read g c = WereRead-taken _ _ _ _ _ c.in_ok-open_model.ensures.opened c.in_ok-text.ensures.took
