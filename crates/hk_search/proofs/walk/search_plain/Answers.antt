use Rattle.std.proofs.Common.{List, ℕ, None, subst}
use Rattle.hk_base.specs.Lists.{IsFrontOf}
use Rattle.hk_search.specs.inside.Walks.{IsBestAfter}
use Rattle.hk_search.proofs.Trying.{IsFinding-all}
use Rattle.hk_search.proofs.walk.search_plain.Goals as goal

pub returns : goal.returns
returns c =
    IsFinding-all c.args.problem.now
    (subst (λ (front : List ℕ). IsBestAfter c.args.problem.now (IsFrontOf front) None c.improve_from.new.best) c.in_ok-values.ensures.items c.in_ok-improve_from.ensures.tried)
