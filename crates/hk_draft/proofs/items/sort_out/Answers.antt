use Rattle.std.proofs.Common.{List, ◌++◌, Option, sym, ap, ◌∙◌}
use Rattle.hk_group.specs.declared.linear.Linear.{Linear}
use Rattle.hk_group.specs.declared.problem.Constraint.{Constraint}
use Rattle.hk_draft.specs.Items.{first_some, rule_constraints, rule_objective}
use Rattle.hk_draft.proofs.MoreItems.{constraints_more, objective_more}
use Rattle.hk_draft.proofs.items.sort_out.Goals as goal

pub loop-item-preserved : goal.loop-item-preserved
loop-item-preserved c = record {
  constraints =
      c.in_ok-sort.ensures.constraints
      ∙ ap (λ (constraints : List Constraint). constraints ++ rule_constraints c.in-Some.item.rule) c.loop-item.invariant.constraints
      ∙ sym (constraints_more c.loop-item.yielded c.in-Some.item);
  objective =
      c.in_ok-sort.ensures.objective
      ∙ ap (λ (objective : Option Linear). first_some objective (rule_objective c.in-Some.item.rule)) c.loop-item.invariant.objective
      ∙ sym (objective_more c.loop-item.yielded c.in-Some.item);
}
