-- What one item more makes of the constraints, the objective and the groups of items.
use Rattle.std.proofs.Common.{◌≡◌, ℕ, suc, ◌+◌, ◌≤◌, Bool, true, false, max, List, [], ◌∷◌, ◌++◌, length, Option, None, Some, refl, sym, ap, ◌∙◌, arith, length-append}
use Rattle.std.proofs.lemmas.Grind.{flat_map-append}
use mir.Val.{bool_byte}
use Rattle.std.proofs.lemmas.List.{append-nil}
use Rattle.hk_group.specs.declared.linear.Linear.{Linear}
use Rattle.hk_group.specs.Groups.{Part}
use Rattle.hk_draft.specs.declared.items.Item.{Item}
use Rattle.hk_draft.specs.Drafts.{put}
use Rattle.hk_draft.proofs.PartsDeclared.{as_many}
use Rattle.hk_draft.specs.Items.{rule_constraints, rule_objective, rule_parts, first_some, constraints_of, objective_of, gather}

-- the constraints with those of one item more
pub constraints_more : (items : List Item) (item : Item) → constraints_of (items ++ item ∷ []) ≡ constraints_of items ++ rule_constraints item.rule
constraints_more items item =
    flat_map-append (λ (i : Item). rule_constraints i.rule) items (item ∷ []) ∙ ap (λ more. constraints_of items ++ more) (append-nil (rule_constraints item.rule))

-- of three, the first that there is
first_none : (a : Option Linear) → first_some a None ≡ a
first_none None = refl
first_none (Some linear) = refl

first_of_three : (a b c : Option Linear) → first_some a (first_some b c) ≡ first_some (first_some a b) c
first_of_three None b c = refl
first_of_three (Some linear) b c = refl

-- the objective with one item more
pub objective_more : (items : List Item) (item : Item) → objective_of (items ++ item ∷ []) ≡ first_some (objective_of items) (rule_objective item.rule)
objective_more [] item = first_none (rule_objective item.rule)
objective_more (first ∷ items) item =
    ap (first_some (rule_objective first.rule)) (objective_more items item) ∙ first_of_three (rule_objective first.rule) (objective_of items) (rule_objective item.rule)

-- the groups with one item more
pub gather_more : (groups : List (List Part)) (items : List Item) (item : Item) → gather groups (items ++ item ∷ []) ≡ put item.starts (gather groups items) (rule_parts item.rule)
gather_more groups [] item = refl
gather_more groups (first ∷ items) item = gather_more (put first.starts groups (rule_parts first.rule)) items item

-- so many groups are there after an item, of so many before it
abbrev pub one_if : Bool → ℕ
one_if true = 1
one_if false = 0

pub put_count : (fresh : Bool) (groups : List (List Part)) (parts : List Part) → length (put fresh groups parts) ≡ max (length groups + one_if fresh) 1
put_count true groups parts = length-append groups (parts ∷ []) ∙ sym (more (length groups))
  where
    more : (n : ℕ) → max (n + 1) 1 ≡ n + 1
    more n = omega arith
put_count false [] parts = refl
put_count false (group ∷ more) parts = as_many parts group more ∙ sym (grown (length more))
  where
    grown : (n : ℕ) → max (suc n + 0) 1 ≡ suc n
    grown n = omega arith

-- an item makes one group more at most
pub few_more : (fresh : Bool) (count index : ℕ) → count ≤ index → max (count + one_if fresh) 1 ≤ index + 1
few_more true count index few = omega (arith, few)
few_more false count index few = omega (arith, few)

-- the number of a mark
pub one_of : (fresh : Bool) → bool_byte fresh ≡ one_if fresh
one_of true = refl
one_of false = refl
