-- The variables of a problem's groups are the problem's.
use Rattle.std.proofs.Common.{◌≡◌, ℕ, ◌<◌, List, [], ◌∷◌, length, All, Option, None, Some, sym, subst, inl, inr, arith}
use Rattle.std.specs.List.{flat_map}
use Rattle.std.specs.Prelude.{IfSome}
use Rattle.std.proofs.lemmas.List.Elements.{All-head, All-tail}
use Rattle.hk_spec.specs.Library.{gcc_bound}
use Rattle.hk_group.specs.declared.problem.Constraint.{Constraint}
use Rattle.hk_group.specs.declared.problem.Constraint.TheVariants.{AllDifferent, Among, Sequence, Gcc, Sum, User}
use Rattle.hk_group.specs.declared.linear.Linear.{Linear}
use Rattle.hk_group.specs.Groups.{Part, PlainGroup, IsGroup}
use Rattle.hk_group.specs.Grouping.{part_on, constraint_parts, objective_part, parts_in, HaveParts}
use Rattle.hk_group.specs.Problems.{PlainProblem, IsValid, IsLinear, IsConstraint}
use Rattle.hk_table.specs.Members.{Member, first, later}
use Rattle.hk_table.proofs.Members.{Member-cases, Member-append_cases, Member-append_left, Member-append_right, Member-mapped, Member-at, Member-from_contains, Contains-from_member, All-member}

-- a member of a list of one
pub only_member : {A : Type 0} {x y : A} → Member x (y ∷ []) → x ≡ y
only_member m = elim (Member-cases m) [ inl same ↦ same | inr none ↦ elim none [ ] ]

-- the scope of a part names variables alone
abbrev DeclaredIn : ℕ → Part → Type 0
DeclaredIn variables part = All (λ variable. variable < variables) part.scope

-- a member of a group's parts is one of all parts
pub part_among : {part : Part} {g : PlainGroup} {groups : List PlainGroup} → Member g groups → Member part g.parts → Member part (parts_in groups)
part_among {groups = []} m among = elim m [ ]
part_among {groups = other ∷ groups} first among = Member-append_left (parts_in groups) among
part_among {groups = other ∷ groups} (later m) among = Member-append_right other.parts (part_among m among)

constraint_declared : (variables : ℕ) (c : Constraint) → IsConstraint variables c → (part : Part) → Member part (constraint_parts c) → DeclaredIn variables part
unfolding constraint_parts
constraint_declared variables (AllDifferent scope) rules part m = subst (DeclaredIn variables) (sym (only_member m)) rules.declared
constraint_declared variables (Among scope set least most) rules part m = subst (DeclaredIn variables) (sym (only_member m)) rules.over.declared
constraint_declared variables (Sequence scope window set least most) rules part m = subst (DeclaredIn variables) (sym (only_member m)) rules.counts.over.declared
constraint_declared variables (Gcc scope rows) rules part m = let from = Member-mapped (λ row. part_on scope (gcc_bound (length scope) row)) rows m in subst (DeclaredIn variables) (sym from.2) rules.over.declared
constraint_declared variables (Sum scope coefs least most) rules part m = subst (DeclaredIn variables) (sym (only_member m)) rules.0.over.declared
constraint_declared variables (User bound scope) rules part m = subst (DeclaredIn variables) (sym (only_member m)) rules.0.declared

constraints_declared : (variables : ℕ) (constraints : List Constraint) → All (IsConstraint variables) constraints → (part : Part) → Member part (flat_map constraint_parts constraints) → DeclaredIn variables part
constraints_declared variables [] rules part m = elim m [ ]
constraints_declared variables (c ∷ constraints) rules part m = elim (Member-append_cases (constraint_parts c) m) [
  | inl here ↦ constraint_declared variables c (All-head (IsConstraint variables) c constraints rules) part here
  | inr there ↦ constraints_declared variables constraints (All-tail (IsConstraint variables) c constraints rules) part there
]

objective_declared : (variables : ℕ) (linear : Linear) → IsLinear variables linear.scope linear.coefs → DeclaredIn variables (objective_part linear)
unfolding objective_part
objective_declared variables linear rules = rules.over.declared

parts_declared : (variables : ℕ) (constraints : List Constraint) (objective : Option Linear) → All (IsConstraint variables) constraints → IfSome objective (λ linear. IsLinear variables linear.scope linear.coefs) → (parts : List Part)
    → HaveParts constraints objective parts → (part : Part) → Member part parts → DeclaredIn variables part
parts_declared variables constraints None rules linear parts have part m = constraints_declared variables constraints rules part (subst (Member part) have m)
parts_declared variables constraints (Some objective) rules linear parts have part m = elim (Member-append_cases have.front (subst (Member part) have.after m)) [
  | inl front ↦ constraints_declared variables constraints rules part (subst (Member part) (sym have.before) (Member-append_left have.back front))
  | inr back ↦ elim (Member-cases back) [
    | inl same ↦ subst (DeclaredIn variables) (sym same) (objective_declared variables objective linear)
    | inr rest ↦ constraints_declared variables constraints rules part (subst (Member part) (sym have.before) (Member-append_right have.front rest))
  ]
]

-- the variables of a group are the problem's
pub group_declared : (p : PlainProblem) → IsValid p → (g : PlainGroup) → Member g p.groups → (variable : ℕ) → Member variable g.vars → variable < length p.domains
group_declared p valid g m variable among =
    let rules = All-member IsGroup valid.groups m in
    let any = (rules.union variable).0 (Contains-from_member among) in
    let owned : Member any.1 g.parts = Member-at g.parts any.0 any.1 any.2 any.3 in
    let declared : DeclaredIn (length p.names) any.1 = parts_declared (length p.names) p.constraints p.objective valid.constraints valid.objective (parts_in p.groups) valid.parts any.1 (part_among m owned) in
    let below : variable < length p.names = All-member (λ v. v < length p.names) declared (Member-from_contains any.1.scope variable any.4) in
    omega (arith, below, valid.named)
