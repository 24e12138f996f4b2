-- The parts in the groups of a draft are those of what is declared, and the groups are few.
use Rattle.std.proofs.Common.{◌≡◌, suc, ◌+◌, ◌≤◌, Bool, true, false, List, [], ◌∷◌, ◌++◌, length, Option, None, Some, refl, sym, ap, subst, ◌∙◌, arith, append_assoc, length-append}
use Rattle.std.specs.List.{flat_map}
use Rattle.std.proofs.lemmas.Grind.{flat_map-append}
use Rattle.std.proofs.lemmas.List.{append-nil}
use Rattle.hk_group.specs.declared.linear.Linear.{Linear}
use Rattle.hk_group.specs.declared.problem.Constraint.{Constraint}
use Rattle.hk_group.specs.Grouping.{constraint_parts, objective_part, HaveParts, IsWith}
use Rattle.hk_group.specs.Groups.{Part}
use Rattle.hk_group.specs.Limits.{most_groups}
use Rattle.hk_draft.specs.Drafts.{put, put_last}

-- the parts of groups, group after group
abbrev pub all_parts : List (List Part) → List Part
all_parts groups = flat_map (λ parts. parts) groups

module _ (parts : List Part) where
  -- where parts are put in groups, they come after all others
  all_last : (groups : List (List Part)) → all_parts (put_last groups parts) ≡ all_parts groups ++ parts
  all_last [] = append-nil parts
  all_last (group ∷ []) = append_assoc group parts [] ∙ ap (λ more. group ++ more) (append-nil parts) ∙ ap (λ front. front ++ parts) (sym (append-nil group))
  all_last (group ∷ next ∷ more) = ap (λ rest. group ++ rest) (all_last (next ∷ more)) ∙ sym (append_assoc group (all_parts (next ∷ more)) parts)

  pub all_put : (fresh : Bool) (groups : List (List Part)) → all_parts (put fresh groups parts) ≡ all_parts groups ++ parts
  all_put true groups = flat_map-append (λ ps. ps) groups (parts ∷ []) ∙ ap (λ more. all_parts groups ++ more) (append-nil parts)
  all_put false groups = all_last groups

  -- parts in the last group make no group more, unless they are the first
  pub as_many : (group : List Part) (more : List (List Part)) → length (put_last (group ∷ more) parts) ≡ length (group ∷ more)
  as_many group [] = refl
  as_many group (next ∷ more) = ap suc (as_many next more)

  few_last : (groups : List (List Part)) → length groups ≤ most_groups → length (put_last groups parts) ≤ most_groups
  few_last [] few = omega arith
  few_last (group ∷ more) few = subst (λ n. n ≤ most_groups) (sym (as_many group more)) few

  -- where there is room for a group, groups stay few
  pub few_put : (fresh : Bool) (groups : List (List Part)) → (fresh ≡ true → length groups + 1 ≤ most_groups) → length groups ≤ most_groups → length (put fresh groups parts) ≤ most_groups
  few_put true groups room few = subst (λ n. n ≤ most_groups) (sym (length-append groups (parts ∷ []))) (room refl)
  few_put false groups room few = few_last groups few

-- a list with an item at some place, and further items after it
with_more : {X : Type 0} {item : X} {items more : List X} → IsWith item items more → (xs : List X) → IsWith item (items ++ xs) (more ++ xs)
with_more {item = item} w xs = record {
  front = w.front;
  back = w.back ++ xs;
  before = ap (λ items. items ++ xs) w.before ∙ append_assoc w.front w.back xs;
  after = ap (λ items. items ++ xs) w.after ∙ append_assoc w.front (item ∷ w.back) xs;
}

-- a constraint more has its parts after all others
pub constraint_put : (constraints : List Constraint) (constraint : Constraint) (objective : Option Linear) (parts : List Part) → HaveParts constraints objective parts
    → HaveParts (constraints ++ constraint ∷ []) objective (parts ++ constraint_parts constraint)
constraint_put constraints constraint objective parts have = by objective have
  where
    each : flat_map constraint_parts (constraints ++ constraint ∷ []) ≡ flat_map constraint_parts constraints ++ constraint_parts constraint
    each = flat_map-append constraint_parts constraints (constraint ∷ []) ∙ ap (λ more. flat_map constraint_parts constraints ++ more) (append-nil (constraint_parts constraint))

    by : (objective : Option Linear) → HaveParts constraints objective parts → HaveParts (constraints ++ constraint ∷ []) objective (parts ++ constraint_parts constraint)
    by None have = ap (λ ps. ps ++ constraint_parts constraint) have ∙ sym each
    by (Some linear) have = subst (λ items. IsWith (objective_part linear) items (parts ++ constraint_parts constraint)) (sym each) (with_more have (constraint_parts constraint))

-- so has the objective, where there was none
pub objective_put : (constraints : List Constraint) (before : Option Linear) (linear : Linear) (parts : List Part) → before ≡ None → HaveParts constraints before parts
    → HaveParts constraints (Some linear) (parts ++ objective_part linear ∷ [])
objective_put constraints before linear parts none have =
    let plain : parts ≡ flat_map constraint_parts constraints = subst (λ o. HaveParts constraints o parts) none have in
    record {
      front = flat_map constraint_parts constraints;
      back = [];
      before = sym (append-nil (flat_map constraint_parts constraints));
      after = ap (λ ps. ps ++ objective_part linear ∷ []) plain;
    }
