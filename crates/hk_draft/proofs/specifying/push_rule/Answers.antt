use Rattle.std.proofs.Common.{◌≤◌, length, ap, subst, sym, ◌∙◌}
use Rattle.std.proofs.lemmas.Result.{on_ok_weaker}
use Rattle.hk_spec.specs.Library.{objective_bound}
use Rattle.hk_group.specs.Composed.{parts_of}
use Rattle.hk_draft.proofs.OneParts.{objective_few, objective_pushed}
use Rattle.hk_draft.proofs.specifying.push_rule.Goals as goal

pub objective-requires-clause-few : goal.objective-requires-clause-few
objective-requires-clause-few c =
    subst (λ n. n ≤ 256) (ap length (sym c.as_slice.ensures)) (objective_few c.args.rule.now c.in-Objective.linear c.in-Objective.is c.requires.small)

pub returns-in_ok-bound-in-Objective-clause-parts : goal.returns-in_ok-bound-in-Objective-clause-parts
returns-in_ok-bound-in-Objective-clause-parts c =
    on_ok_weaker c.push_part.result (objective_pushed _ (parts_of c.args.specs.now c.args.scopes.now) c.args.rule.now c.in-Objective.linear c.as_slice-scope.result.now c.in_ok-bound-in-Objective.bound
    c.in-Objective.is c.as_slice-scope.ensures (c.in_ok-bound-in-Objective.ensures.text ∙ ap objective_bound c.as_slice.ensures)) c.push_part.ensures.parts
