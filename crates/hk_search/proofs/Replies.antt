-- The outcome of a search gives the reply of the problem.
use Rattle.std.proofs.Common.{◌≡◌, ◌⊎◌, ℕ, zero, suc, ◌+◌, ◌-◌, ◌<◌, ◌≤◌, ◌&&◌, ◌||◌, Bool, true, false, if◌then◌else◌, List, [], ◌∷◌, ◌++◌, Option, None, Some, refl, sym, ap, ap₂, ◌∙◌, subst, inl, inr, arith}
use Rattle.std.proofs.lemmas.Bool.{cases_lt}
use Rattle.hk_group.specs.Problems.{PlainProblem, IsValid}
use Rattle.hk_prop.specs.Contents.{Content, opening_content, values_left}
use Rattle.hk_search.specs.AnswerTexts.{IsAnswerText, infeasible, solved, answer_lines, finding_text, first_line}
use Rattle.hk_search.specs.Findings.{IsFinding}
use Rattle.hk_search.specs.Nodes.{is_over}
use Rattle.hk_search.specs.Replies.{IsReply, IsReplyOf, answered, unfinished, decides, status_of, outcome_text, nodes_line, unfinished_text}
use Rattle.hk_search.specs.Rules.{Rules, rules_of}
use Rattle.hk_search.specs.Searches.{Heard, begun, finish}
use Rattle.hk_search.specs.Trees.{Node, open_leaf, fail_node, sol_node, branch_node, node_count, is_closed, best_after, IsTight, cut, with_tree}
use Rattle.hk_search.specs.declared.found.Found.{Found}
use Rattle.hk_search.specs.declared.found.Outcome.{Outcome}
use Rattle.hk_table.specs.declared.items.TraceItem.{TraceItem}
use Rattle.hk_prop.proofs.Fuel.{node_fewer}
use Rattle.hk_search.proofs.Cutting.{finish_tree, open_when_over}
use Rattle.hk_search.proofs.OneTree.{some_tight_tree}
use Rattle.hk_search.proofs.RealRules.{last_is_answer}
use Rattle.hk_search.proofs.Uncut.{cut_whole, count_cut}

and_false : (b : Bool) → (b && false) ≡ false
and_false true = refl
and_false false = refl

module _ (r : Rules) where
  -- a tight tree has an open leaf only where the search is over after it
  closed_or_over : (best : Option Found) (at : Content) (tree : Node) → IsTight r best at tree → (is_closed tree ≡ true) ⊎ (is_over r (best_after r best tree) ≡ true)
  closed_or_over best at open_leaf tight = inr tight
  closed_or_over best at (fail_node passes) tight = inl refl
  closed_or_over best at (sol_node passes values) tight = inl refl
  closed_or_over best at (branch_node passes x d m n) tight = elim (closed_or_over best _ m tight.1) [
    | inl closed ↦ elim (closed_or_over (best_after r best m) _ n tight.2) [
      | inl also ↦ inl (ap (λ b. b && is_closed n) closed ∙ also)
      | inr over ↦ inr over
    ]
    | inr over ↦ inr (subst (λ t. is_over r (best_after r (best_after r best m) t) ≡ true) (sym (open_when_over r (best_after r best m) _ n over tight.2)) over)
  ]

  -- a node that is entered is one before which the search isn't over
  entered_before : (best : Option Found) (at : Content) (tree : Node) → IsTight r best at tree → 0 < node_count tree → is_over r best ≡ false
  entered_before best at open_leaf tight some = absurd (omega arith)
  entered_before best at (fail_node passes) tight some = tight.goes_on
  entered_before best at (sol_node passes values) tight some = tight.goes_on
  entered_before best at (branch_node passes x d m n) tight some = tight.0.goes_on

  -- where a budget leaves something out, a leaf is open, and the search isn't over
  cut_open : (budget : ℕ) (best : Option Found) (at : Content) (tree : Node) → IsTight r best at tree → budget < node_count tree → (is_closed (cut budget tree) ≡ false) × (is_over r (best_after r best (cut budget tree)) ≡ false)
  cut_open zero best at tree tight more = (refl, entered_before best at tree tight more)
  cut_open (suc k) best at open_leaf tight more = absurd (omega arith)
  cut_open (suc k) best at (fail_node passes) tight more = absurd (omega arith)
  cut_open (suc k) best at (sol_node passes values) tight more = absurd (omega arith)
  cut_open (suc k) best at (branch_node passes x d m n) tight more = elim (cases_lt k (node_count m)) [
    | inl within ↦
        let first = cut_open k best _ m tight.1 within in
        let none : k - node_count m ≡ 0 = omega (arith, within) in (
          ap (λ b. b && is_closed (cut (k - node_count m) n)) first.0,
          ap (λ j. is_over r (best_after r (best_after r best (cut k m)) (cut j n))) none ∙ first.1,
        )
    | inr beyond ↦
        let whole = cut_whole k m beyond in
        let second = cut_open (k - node_count m) (best_after r best m) _ n tight.2 (omega (arith, more, beyond)) in (
          ap (λ b. is_closed (cut k m) && b) second.0 ∙ and_false (is_closed (cut k m)),
          ap (λ t. is_over r (best_after r (best_after r best t) (cut (k - node_count m) n))) whole ∙ second.1,
        )
  ]

-- the text of what a finished search found answers the problem
finding_answers : (p : PlainProblem) (best : Option Found) → IsFinding p best → IsAnswerText p (finding_text p best)
finding_answers p None none = infeasible none
finding_answers p (Some found) is = subst (λ cost. IsAnswerText p (first_line p.objective cost ++ answer_lines p.names found.values)) (sym is.1) (solved found.values is.0)

or_true : (a b : Bool) → (a ≡ true) ⊎ (b ≡ true) → (a || b) ≡ true
or_true a b (inl e) = ap (λ c. c || b) e
or_true true b (inr e) = refl
or_true false b (inr e) = e

module _ (p : PlainProblem) (valid : IsValid p) (width : ℕ) (some : 0 < width) (tree : Node) (tight : IsTight (rules_of p width) None (opening_content p) tree) where
  -- what the outcome of a tree is, from the beginning on
  abbrev outcome_of : Node → Outcome
  outcome_of t = record { best = best_after (rules_of p width) None t; nodes = node_count t; complete = is_closed t }

  reply_within : (budget : ℕ) → node_count tree ≤ budget → IsReplyOf p width budget tree (status_of p (outcome_of (cut budget tree))) (outcome_text p (outcome_of (cut budget tree)))
  reply_within budget within =
      let best : Option Found = best_after (rules_of p width) None tree in
      let decided : decides p (outcome_of tree) ≡ true = or_true (is_closed tree) (is_over (rules_of p width) best) (closed_or_over (rules_of p width) None (opening_content p) tree tight) in
      subst (λ t. IsReplyOf p width budget tree (status_of p (outcome_of t)) (outcome_text p (outcome_of t))) (sym (cut_whole budget tree within))
      (subst (λ b. IsReplyOf p width budget tree (if b then 0 else 6) ((if b then finding_text p best else unfinished_text p.names best) ++ nodes_line (node_count tree))) (sym decided)
      (answered within (finding_answers p best (last_is_answer p valid width some tree tight))))

  reply_beyond : (budget : ℕ) → budget < node_count tree → IsReplyOf p width budget tree (status_of p (outcome_of (cut budget tree))) (outcome_text p (outcome_of (cut budget tree)))
  reply_beyond budget beyond =
      let best : Option Found = best_after (rules_of p width) None (cut budget tree) in
      let left = cut_open (rules_of p width) budget None (opening_content p) tree tight beyond in
      let decided : decides p (outcome_of (cut budget tree)) ≡ false = ap₂ (λ a b. a || b) left.0 left.1 in
      let all : budget ≡ node_count (cut budget tree) = omega (arith, count_cut budget tree, beyond) in
      subst (λ b. IsReplyOf p width budget tree (if b then 0 else 6) ((if b then finding_text p best else unfinished_text p.names best) ++ nodes_line (node_count (cut budget tree)))) (sym decided)
      (subst (λ n. IsReplyOf p width budget tree 6 (unfinished_text p.names best ++ nodes_line n)) all (unfinished beyond))

  pub tree_replies : (budget : ℕ) (told : Option (List TraceItem))
      → let outcome = (with_tree (rules_of p width) (begun told) (cut budget tree)).outcome in IsReplyOf p width budget tree (status_of p outcome) (outcome_text p outcome)
  tree_replies budget told =
      let t : Node = cut budget tree in
      let same : outcome_of t ≡ (with_tree (rules_of p width) (begun told) t).outcome =
      ap (λ n. let o : Outcome = record { best = best_after (rules_of p width) None t; nodes = n; complete = is_closed t } in o) (let none : node_count t ≡ 0 + node_count t = omega arith in none) in
      subst (λ o. IsReplyOf p width budget tree (status_of p o) (outcome_text p o)) same
      (elim (cases_lt budget (node_count tree)) [ inl beyond ↦ reply_beyond budget beyond | inr within ↦ reply_within budget within ])

-- what a search from the opening tables on has told in the end gives the reply
pub search_replies : (p : PlainProblem) → IsValid p → (width : ℕ) → 0 < width → (budget : ℕ) (told : Option (List TraceItem))
    → let outcome = (finish (rules_of p width) budget (begun told) (opening_content p ∷ [])).outcome in IsReply p width budget (status_of p outcome) (outcome_text p outcome)
search_replies p valid width some budget told =
    let found = some_tight_tree (rules_of p width) (record { narrows = λ b c. node_fewer p width b c }) (suc (values_left p.domains)) None (opening_content p) (omega arith) in
    record {
      tree = found.0;
      tight = found.1;
      reply = subst (λ (h : Heard). IsReplyOf p width budget found.0 (status_of p h.outcome) (outcome_text p h.outcome)) (sym (finish_tree (rules_of p width) budget (begun told) (opening_content p) found.0 found.1))
          (tree_replies p valid width some found.0 found.1 budget told);
    }
