-- Trees cut at a budget: how many nodes they enter, and what is left out.
use Rattle.std.proofs.Common.{◌≡◌, ℕ, zero, suc, ◌-◌, ◌≤◌, min, refl, ap₂, arith}
use Rattle.hk_search.specs.Trees.{Node, open_leaf, fail_node, sol_node, branch_node, node_count, cut}

-- a tree within the budget is left whole
pub cut_whole : (budget : ℕ) (tree : Node) → node_count tree ≤ budget → cut budget tree ≡ tree
cut_whole zero open_leaf few = refl
cut_whole zero (fail_node passes) few = absurd (omega arith)
cut_whole zero (sol_node passes values) few = absurd (omega arith)
cut_whole zero (branch_node passes variable value first second) few = absurd (omega arith)
cut_whole (suc more) open_leaf few = refl
cut_whole (suc more) (fail_node passes) few = refl
cut_whole (suc more) (sol_node passes values) few = refl
cut_whole (suc more) (branch_node passes variable value first second) few =
    ap₂ (λ (a b : Node). branch_node passes variable value a b) (cut_whole more first (omega arith)) (cut_whole (more - node_count first) second (omega arith))

-- a cut tree enters as many nodes as the budget, or all
pub count_cut : (budget : ℕ) (tree : Node) → node_count (cut budget tree) ≡ min budget (node_count tree)
count_cut zero tree = omega arith
count_cut (suc more) open_leaf = omega arith
count_cut (suc more) (fail_node passes) = omega arith
count_cut (suc more) (sol_node passes values) = omega arith
count_cut (suc more) (branch_node passes variable value first second) = omega (arith, count_cut more first, count_cut (more - node_count first) second)
