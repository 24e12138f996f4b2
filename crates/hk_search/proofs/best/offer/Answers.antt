use Rattle.std.proofs.Common.{◌≡◌, ℤ, Option, IfSome, IsSome, FitsSigned, to_z, of_z, All, refl, sym, subst, ◌∙◌, rules}
use Rattle.std.specs.Int.{w64}
use Rattle.std.proofs.lemmas.Int.{to_z-of_z}
use Rattle.hk_group.specs.Solutions.{Holds, cost_of}
use Rattle.hk_search.proofs.Trying.{IsBestAfter-costless, IsBestAfter-worse, IsBestAfter-better}
use Rattle.hk_search.proofs.best.offer.Goals as goal
use Rattle.hk_search.proofs.best.offer.Goals.{After-is_better}

-- the cost that is compared is that of the values
priced : (c : After-is_better) → to_z w64 (of_z w64 c.in-Some.cost) ≡ cost_of c.args.problem.now c.args.values.now
priced c =
    let fits : FitsSigned w64 c.in-Some.cost = search rules in
    to_z-of_z w64 c.in-Some.cost fits ∙ subst (λ (cost : Option ℤ). IfSome cost (λ found. found ≡ cost_of c.args.problem.now c.args.values.now)) c.in-Some.is c.in_ok-cost.ensures.cost

pub returns-in_default : goal.returns-in_default
returns-in_default c =
    IsBestAfter-costless c.args.problem.now c.args.values.now c.args.best.now c.in_ok-cost.field-0 c.requires.whole c.in_ok-cost.ensures.holds c.in_default.is

pub returns-then-not-is_better : goal.returns-then-not-is_better
returns-then-not-is_better c =
    IsBestAfter-worse c.args.problem.now c.args.values.now (to_z w64 (of_z w64 c.in-Some.cost)) c.args.best.now c.requires.whole (priced (goal.at.returns-then-not-is_better c).After-is_better)
    (λ better. let told = c.is_better.ensures.1 better in let not_told = c.if-not-is_better.true in cc)

pub returns : goal.returns
returns c =
    let hold : All (Holds c.args.values.now) c.args.problem.now.constraints = c.in_ok-cost.ensures.holds.0 (subst (λ (cost : Option ℤ). IsSome cost) (sym c.in-Some.is) refl) in
    IsBestAfter-better c.args.problem.now c.args.values.now c.args.best.now (record { cost = to_z w64 (of_z w64 c.in-Some.cost); values = c.from_vec-values.result })
    c.requires.begun c.requires.whole hold (c.from_vec-values.ensures ∙ c.in_ok-to_vec.ensures.items_if_clones_equal (λ x y e. e))
    (priced (goal.at.returns c).After-is_better) (c.is_better.ensures.0 c.if-not-is_better.false)
