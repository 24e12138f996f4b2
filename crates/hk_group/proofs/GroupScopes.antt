-- The variables of each group of a valid problem are a scope of the problem.
use Rattle.std.proofs.Common.{◌≡◌, ℕ, ◌<◌, ◌≤◌, List, [], ◌∷◌, ◌++◌, length, get_or, slice_index, All, Any, Contains, Option, None, Some, IfSome, arith, refl, sym, ap, subst, ◌∙◌}
use Rattle.std.specs.List.{flat_map}
use Rattle.std.proofs.lemmas.List.Concat.{flat_map-cons}
use Rattle.std.proofs.lemmas.List.Elements.{All-nil, All-cons, All-head, All-tail, All-append, All-map, All-weaker, All-get_or, Contains-get_or}
use Rattle.hk_group.specs.declared.problem.Constraint.{Constraint}
use Rattle.hk_group.specs.declared.problem.Constraint.TheVariants.{AllDifferent, Among, Sequence, Gcc, Sum, User}
use Rattle.hk_group.specs.declared.linear.Linear.{Linear}
use Rattle.hk_group.specs.Groups.{Part, PlainGroup, IsGroup}
use Rattle.hk_group.specs.Grouping.{HaveParts, constraint_parts, objective_part, parts_in}
use Rattle.hk_group.specs.Limits.{most_variables}
use Rattle.hk_group.specs.Problems.{PlainProblem, IsScope, IsConstraint, IsDomain, IsLinear, IsValid}
use Rattle.hk_group.specs.Solutions.{scope_values}
use Rattle.hk_text.specs.Sets.{members}
use Rattle.hk_group.proofs.SetSizes.{members-some}
use Rattle.hk_group.proofs.SumSizes.{scope_short}

-- a part whose scope is one of that many variables
abbrev IsOver : ℕ → Part → Type 0
IsOver variables part = IsScope variables part.scope

module _ {X Y : Type 0} (P : Y → Type 0) (f : X → List Y) where
  -- what holds of the items of all lists holds of those of the joined list
  all_joined : (xs : List X) → All (λ x. All P (f x)) xs → All P (flat_map f xs)
  all_joined [] each = All-nil P
  all_joined (x ∷ xs) each = subst (All P) (sym (flat_map-cons f x xs)) (All-append P (f x) (flat_map f xs) (All-head (λ x. All P (f x)) x xs each) (all_joined xs (All-tail (λ x. All P (f x)) x xs each)))

module _ {Y : Type 0} (P : Y → Type 0) where
  -- what holds of all of two lists holds of each
  all_left : (xs ys : List Y) → All P (xs ++ ys) → All P xs
  all_left [] ys each = All-nil P
  all_left (x ∷ xs) ys each = All-cons P x xs (All-head P x (xs ++ ys) each) (all_left xs ys (All-tail P x (xs ++ ys) each))

  all_right : (xs ys : List Y) → All P (xs ++ ys) → All P ys
  all_right [] ys each = each
  all_right (x ∷ xs) ys each = all_right xs ys (All-tail P x (xs ++ ys) each)

-- and the other way round
all_apart : {X Y : Type 0} (P : Y → Type 0) (f : X → List Y) (xs : List X) → All P (flat_map f xs) → All (λ x. All P (f x)) xs
all_apart P f [] each = All-nil (λ x. All P (f x))
all_apart P f (x ∷ xs) each =
    let parts = subst (All P) (flat_map-cons f x xs) each in
    All-cons (λ x. All P (f x)) x xs (all_left P (f x) (flat_map f xs) parts) (all_apart P f xs (all_right P (f x) (flat_map f xs) parts))

-- each part of a constraint has the constraint's scope
alone : (variables : ℕ) (part : Part) → IsOver variables part → All (IsOver variables) (part ∷ [])
alone variables part is = All-cons (IsOver variables) part [] is (All-nil (IsOver variables))

constraint_over : (variables : ℕ) (c : Constraint) → IsConstraint variables c → All (IsOver variables) (constraint_parts c)
unfolding constraint_parts
constraint_over variables (AllDifferent scope) is = alone variables _ is
constraint_over variables (Among scope set least most) is = alone variables _ is.over
constraint_over variables (Sequence scope window set least most) is = alone variables _ is.counts.over
constraint_over variables (Gcc scope rows) is = All-map (IsOver variables) _ rows (λ k row within. is.over)
constraint_over variables (Sum scope coefs least most) is = alone variables _ is.0.over
constraint_over variables (User bound scope) is = alone variables _ is.0

constraints_over : (variables : ℕ) (constraints : List Constraint) → All (IsConstraint variables) constraints → All (IsOver variables) (flat_map constraint_parts constraints)
constraints_over variables constraints each = all_joined (IsOver variables) constraint_parts constraints
    (All-weaker (IsConstraint variables) (λ c. All (IsOver variables) (constraint_parts c)) (constraint_over variables) constraints each)

objective_over : (variables : ℕ) (linear : Linear) → IsLinear variables linear.scope linear.coefs → IsOver variables (objective_part linear)
unfolding objective_part
objective_over variables linear is = is.over

-- and so has each part of a problem
parts_over : (variables : ℕ) (constraints : List Constraint) (objective : Option Linear) (parts : List Part) → All (IsConstraint variables) constraints
    → IfSome objective (λ linear. IsLinear variables linear.scope linear.coefs) → HaveParts constraints objective parts → All (IsOver variables) parts
parts_over variables constraints None parts each linear have = subst (All (IsOver variables)) (sym have) (constraints_over variables constraints each)
parts_over variables constraints (Some objective) parts each linear have =
    let split = subst (All (IsOver variables)) have.before (constraints_over variables constraints each) in
    let front = all_left (IsOver variables) have.front have.back split in
    let back = all_right (IsOver variables) have.front have.back split in
    let whole = All-append (IsOver variables) have.front (objective_part objective ∷ have.back) front
    (All-cons (IsOver variables) (objective_part objective) have.back (objective_over variables objective linear) back) in
    subst (All (IsOver variables)) (sym have.after) whole

some_variable : (vars : List ℕ) (x : ℕ) → Contains vars x → 0 < length vars
some_variable vars x (k, within, is) = omega (arith, within)

-- a group has a variable, as its first part has one
some_of : (variables : ℕ) (g : PlainGroup) → IsGroup g → All (IsOver variables) g.parts → 0 < length g.vars
some_of variables g rules each = at g.parts rules.some each (λ x. (rules.union x).1)
  where
    at : (parts : List Part) → 0 < length parts → All (IsOver variables) parts → ((x : ℕ) → Any (λ (part : Part). Contains part.scope x) parts → Contains g.vars x) → 0 < length g.vars
    at [] some over union = absurd (omega arith)
    at (part ∷ parts) some over union =
        let scope = All-head (IsOver variables) part parts over in
        let x = get_or part.scope 0 0 in
        some_variable g.vars x (union x (0, part, omega arith, refl, Contains-get_or part.scope 0 0 scope.some))

-- a variable that stands in the scope of a part is declared
declared_of : (variables : ℕ) (parts : List Part) → All (IsOver variables) parts → (x : ℕ) → Any (λ (part : Part). Contains part.scope x) parts → x < variables
declared_of variables parts each x (k, part, within, is, (i, inside, at)) =
    let over : IsOver variables part = subst (IsOver variables) is (All-get_or (IsOver variables) parts k part within each) in
    subst (λ y. y < variables) at (over.declared i x inside)

-- the variables of a group are a scope where those of its parts are
pub group_scope : (variables : ℕ) (g : PlainGroup) → IsGroup g → All (IsOver variables) g.parts → IsScope variables g.vars
group_scope variables g rules each = record {
  some = some_of variables g rules each;
  rising = rules.rising;
  declared = λ k d within. declared_of variables g.parts each (get_or g.vars k d) ((rules.union (get_or g.vars k d)).0 (Contains-get_or g.vars k d within));
}

scopes_of : (variables : ℕ) (groups : List PlainGroup) → All IsGroup groups → All (λ (g : PlainGroup). All (IsOver variables) g.parts) groups → All (λ (g : PlainGroup). IsScope variables g.vars) groups
scopes_of variables groups rules each k g within = group_scope variables (get_or groups k g) (rules k g within) (each k g within)

-- the variables of each group of a valid problem are a scope of the problem
pub valid_scopes : (p : PlainProblem) → IsValid p → All (λ (g : PlainGroup). IsScope (length p.names) g.vars) p.groups
valid_scopes p valid =
    let variables = length p.names in
    let parts = parts_over variables p.constraints p.objective (parts_in p.groups) valid.constraints valid.objective valid.parts in
    scopes_of variables p.groups valid.groups (all_apart (IsOver variables) (λ (g : PlainGroup). g.parts) p.groups parts)

-- the same where the groups and the sets of values are at hand
pub valid_scopes_of : (p : PlainProblem) (groups : List PlainGroup) (domains : List ℕ) → IsValid p → groups ≡ p.groups → domains ≡ p.domains → All (λ (g : PlainGroup). IsScope (length domains) g.vars) groups
valid_scopes_of p groups domains valid groups_are domains_are =
    let one_each : length p.names ≡ length domains = valid.named ∙ sym (ap length domains_are) in
    subst (λ (all : List PlainGroup). All (λ (g : PlainGroup). IsScope (length domains) g.vars) all) (sym groups_are) (subst (λ n. All (λ (g : PlainGroup). IsScope n g.vars) p.groups) one_each (valid_scopes p valid))

-- there are no more of them than a problem has at most
pub valid_few : (p : PlainProblem) → IsValid p → All (λ (g : PlainGroup). length g.vars ≤ most_variables) p.groups
valid_few p valid k g within = omega (arith, valid.variables, scope_short (length p.names) (get_or p.groups k g).vars (valid_scopes p valid k g within))

pub valid_few_of : (p : PlainProblem) (groups : List PlainGroup) → IsValid p → groups ≡ p.groups → All (λ (g : PlainGroup). length g.vars ≤ most_variables) groups
valid_few_of p groups valid groups_are = subst (λ (all : List PlainGroup). All (λ (g : PlainGroup). length g.vars ≤ most_variables) all) (sym groups_are) (valid_few p valid)

-- and each has a value
pub valid_values : (p : PlainProblem) → IsValid p → All (λ (g : PlainGroup). All (λ (set : ℕ). 0 < length (members set)) (scope_values g.vars p.domains)) p.groups
valid_values p valid k g within = All-map (λ (set : ℕ). 0 < length (members set)) (λ variable. slice_index p.domains variable) vars (λ j variable inside.
    let declared : get_or vars j variable < length p.names = (valid_scopes p valid k g within).declared j variable inside in
    let domain : IsDomain (slice_index p.domains (get_or vars j variable)) = valid.domains (get_or vars j variable) 0 (omega (arith, declared, valid.named)) in
    members-some (slice_index p.domains (get_or vars j variable)) domain.least domain.small domain.some)
  where
    vars : List ℕ
    vars = (get_or p.groups k g).vars
