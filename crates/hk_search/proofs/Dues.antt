-- What is due of a search, node by node.
use Rattle.std.proofs.Common.{◌≡◌, ℕ, zero, suc, ◌+◌, ◌-◌, ◌<◌, ◌≤◌, true, false, if◌then◌else◌, List, [], ◌∷◌, ◌++◌, refl, ap, ◌∙◌, arith}
use Rattle.hk_prop.specs.Contents.{Content}
use Rattle.hk_prop.specs.Passes.{NodePasses}
use Rattle.hk_search.specs.Nodes.{NodeEnd, fails, solves, branches, end_of, bound_of, is_over}
use Rattle.hk_search.specs.Rules.{Rules}
use Rattle.hk_search.specs.Searches.{Heard, Turn, due, finish, shut, turn, turn_by}

module _ (r : Rules) where
  turned_by : (heard : Heard) (passes : NodePasses) (end : NodeEnd) → (turn_by r heard passes end).heard.outcome.nodes ≡ heard.outcome.nodes + 1
  turned_by heard passes fails = refl
  turned_by heard passes (solves values) = refl
  turned_by heard passes (branches variable value) = refl

  -- a node that is entered is counted
  pub turned_nodes : (heard : Heard) (at : Content) → (turn r heard at).heard.outcome.nodes ≡ heard.outcome.nodes + 1
  turned_nodes heard at = turned_by heard (r.passes (bound_of heard.outcome.best) at) (end_of (r.passes (bound_of heard.outcome.best) at).last.domains)

  pub finish_none : (budget : ℕ) (heard : Heard) → finish r budget heard [] ≡ heard
  finish_none zero heard = refl
  finish_none (suc more) heard = refl

  finish_over : (budget : ℕ) (heard : Heard) (at : Content) (later : List Content) → is_over r heard.outcome.best ≡ true → finish r budget heard (at ∷ later) ≡ shut heard (at ∷ later)
  finish_over zero heard at later over = refl
  finish_over (suc more) heard at later over =
      ap (λ b. if b then shut heard (at ∷ later) else (let turned = turn r heard at in finish r more turned.heard (turned.children ++ later))) over

  pub due_over : (budget : ℕ) (heard : Heard) (at : Content) (later : List Content) → is_over r heard.outcome.best ≡ true → due r budget heard (at ∷ later) ≡ shut heard (at ∷ later)
  due_over budget heard at later over = finish_over (budget - heard.outcome.nodes) heard at later over

  pub due_spent : (budget : ℕ) (heard : Heard) (waiting : List Content) → budget ≤ heard.outcome.nodes → due r budget heard waiting ≡ shut heard waiting
  due_spent budget heard waiting spent = let none : budget - heard.outcome.nodes ≡ 0 = omega (arith, spent) in ap (λ n. finish r n heard waiting) none

  pub due_more : (budget : ℕ) (heard : Heard) (at : Content) (later : List Content) → is_over r heard.outcome.best ≡ false → heard.outcome.nodes < budget
      → due r budget heard (at ∷ later) ≡ due r budget (turn r heard at).heard ((turn r heard at).children ++ later)
  due_more budget heard at later goes within =
      let turned : Turn = turn r heard at in
      let left : budget - heard.outcome.nodes ≡ suc (budget - turned.heard.outcome.nodes) = omega (arith, turned_nodes heard at, within) in
      ap (λ n. finish r n heard (at ∷ later)) left
      ∙ ap (λ b. if b then shut heard (at ∷ later) else finish r (budget - turned.heard.outcome.nodes) turned.heard (turned.children ++ later)) goes
