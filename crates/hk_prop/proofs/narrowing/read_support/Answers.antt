use Rattle.hk_prop.proofs.TableRows.{live_there}
use Rattle.hk_prop.proofs.narrowing.read_support.Goals as goal

pub support_into-requires-clause-live : goal.support_into-requires-clause-live
support_into-requires-clause-live c = live_there c.args.diagram.now.shape c.args.diagram.now.table c.fits.ensures.fits c.requires.tellable.names
