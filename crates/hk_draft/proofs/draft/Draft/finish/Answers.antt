use Rattle.indexmap.specs.IndexMap.{keys, values}
use Rattle.std.proofs.Common.{◌≡◌, ℕ, List, [], map, All, IfOk, Result, Ok, Option, sym, ap, subst, ◌∙◌}
use Rattle.hk_group.specs.declared.linear.Linear.{Linear}
use Rattle.hk_group.specs.declared.problem.Constraint.{Constraint}
use Rattle.hk_group.specs.Groups.{PlainGroup, IsGroup}
use Rattle.hk_draft.specs.Drafts.{IsValidDraft}
use Rattle.hk_draft.specs.Items.{gather, constraints_of, objective_of}
use Rattle.hk_draft.specs.inside.Items.{AreSmallItems}
use Rattle.hk_draft.proofs.Naming.{draft_of, names_of}
use Rattle.hk_draft.proofs.OneProblem.{problem_valid}
use Rattle.hk_draft.proofs.SmallItems.{draft_small}
use Rattle.hk_draft.proofs.draft.Draft.finish.Goals as goal

pub groups_of-groups-requires : goal.groups_of-groups-requires
groups_of-groups-requires c =
    let entries = c.self.inside.variables.entries in
    let valid : IsValidDraft (draft_of entries c.self.inside.items c.self.inside.fresh) = subst IsValidDraft (sym c.self.view_is) c.requires in
    subst AreSmallItems (sym c.as_slice.ensures) (draft_small entries c.self.inside.items c.self.inside.fresh valid)

-- what holds of a result that succeeds, holds of what it gives
of_ok : {A E : Type 0} (P : A → Type 0) {result : Result A E} {given : A} → result ≡ Ok given → IfOk result P → P given
of_ok P is holds = subst (λ r. IfOk r P) is holds

pub problem_of-requires : goal.problem_of-requires
problem_of-requires c =
    let variables = c.self.inside.variables in
    let items = c.self.inside.items in
    let parts = c.in-Ok.parts in
    let valid : IsValidDraft (draft_of variables.entries items c.self.inside.fresh) = subst IsValidDraft (sym c.self.view_is) c.requires in
    let made : c.columns.result ≡ Ok parts.1.0 = of_ok (λ both. c.columns.result ≡ Ok both.0) c.in-Ok.ensures.second c.pair-rest.ensures.first in
    let sorted : c.rules_of.result ≡ Ok parts.1.1 = of_ok (λ both. c.rules_of.result ≡ Ok both.1) c.in-Ok.ensures.second c.pair-rest.ensures.second in
    problem_valid valid (record {
      names = of_ok (λ (columns : List (List ℕ) × List ℕ). columns.0 ≡ names_of (keys variables)) made c.columns.ensures.names;
      domains = of_ok (λ (columns : List (List ℕ) × List ℕ). columns.1 ≡ values variables) made c.columns.ensures.domains;
      constraints = of_ok (λ (rules : List Constraint × Option Linear). rules.0 ≡ constraints_of items) sorted c.rules_of.ensures.constraints;
      objective = of_ok (λ (rules : List Constraint × Option Linear). rules.1 ≡ objective_of items) sorted c.rules_of.ensures.objective;
      groups = of_ok (λ (groups : List PlainGroup). map (λ (group : PlainGroup). group.parts) groups ≡ gather [] c.as_slice.result.now) c.in-Ok.ensures.first c.groups_of-groups.ensures.parts ∙ ap (gather []) c.as_slice.ensures;
      composed = of_ok (All IsGroup) c.in-Ok.ensures.first c.groups_of-groups.ensures.composed;
    })
