-- What a search has told is a front of what is due.
use Rattle.std.proofs.Common.{ℕ, zero, suc, Bool, true, false, if◌then◌else◌, List, [], ◌∷◌, ◌++◌}
use Rattle.hk_prop.specs.Contents.{Content}
use Rattle.hk_prop.specs.Passes.{NodePasses}
use Rattle.hk_prop.specs.Told.{IsToldFront, passes_items}
use Rattle.hk_prop.proofs.Fronts.{front_itself, front_more, front_further}
use Rattle.hk_search.specs.Nodes.{NodeEnd, fails, solves, branches, end_of, bound_of, is_over}
use Rattle.hk_search.specs.Rules.{Rules}
use Rattle.hk_search.specs.Searches.{Heard, finish, left_open, shut, turn, turn_by}
use Rattle.hk_table.specs.declared.items.TraceItem.TheVariants as item

shut_front : (heard : Heard) (waiting : List Content) → IsToldFront heard.told (shut heard waiting).told
shut_front heard [] = front_itself heard.told
shut_front heard (at ∷ later) = front_further heard.told (left_open heard).told (shut (left_open heard) later).told (front_more heard.told (item.OpenLeaf ∷ [])) (shut_front (left_open heard) later)

module _ (r : Rules) where
  turn_front : (heard : Heard) (passes : NodePasses) (end : NodeEnd) → IsToldFront heard.told (turn_by r heard passes end).heard.told
  turn_front heard passes fails = front_more heard.told (passes_items passes.each ++ item.Fail ∷ [])
  turn_front heard passes (solves values) = front_more heard.told (passes_items passes.each ++ item.Sol values ∷ [])
  turn_front heard passes (branches variable value) = front_more heard.told (passes_items passes.each ++ item.Branch variable value ∷ [])

  pub finish_front : (budget : ℕ) (heard : Heard) (waiting : List Content) → IsToldFront heard.told (finish r budget heard waiting).told
  finish_front zero heard waiting = shut_front heard waiting
  finish_front (suc more) heard [] = front_itself heard.told
  finish_front (suc more) heard (at ∷ later) = by (is_over r heard.outcome.best) (finish_front more (turn r heard at).heard ((turn r heard at).children ++ later))
    where
      by : (b : Bool) → IsToldFront (turn r heard at).heard.told (finish r more (turn r heard at).heard ((turn r heard at).children ++ later)).told
          → IsToldFront heard.told (if b then shut heard (at ∷ later) else (let entered = turn r heard at in finish r more entered.heard (entered.children ++ later))).told
      by true rest = shut_front heard (at ∷ later)
      by false rest = front_further heard.told (turn r heard at).heard.told (finish r more (turn r heard at).heard ((turn r heard at).children ++ later)).told
          (turn_front heard (r.passes (bound_of heard.outcome.best) at) (end_of (r.passes (bound_of heard.outcome.best) at).last.domains)) rest
