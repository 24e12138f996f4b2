use Rattle.hk_sweep.proofs.Exact.{narrow_is_exact}
use Rattle.hk_sweep.proofs.exact_laws.narrow_tight_revision_is_exact.Goals as goal

pub returns : goal.returns
returns c = narrow_is_exact
