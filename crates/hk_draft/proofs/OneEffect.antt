-- A statement has one effect.
use Rattle.std.proofs.Common.{◌≡◌, ℕ, ℤ, pos, List, [], ◌∷◌, ◌++◌, map, Option, Some, false, refl, sym, ap, ◌∙◌}
use Rattle.hk_group.specs.declared.linear.Linear.{Linear}
use Rattle.hk_group.specs.declared.problem.Constraint.{Constraint}
use Rattle.hk_group.specs.declared.problem.Constraint.TheVariants.{AllDifferent, Among, Sequence, Gcc, Sum}
use Rattle.hk_group.specs.Grouping.{constraint_parts, objective_part}
use Rattle.hk_lines.specs.Phrases.{Values}
use Rattle.hk_draft.specs.Drafts.{PlainDraft, put}
use Rattle.hk_lines.specs.Statements.{Statement}
use Rattle.hk_draft.specs.Declares.{term_coefs, made_row, AddsVariable, AreNamesOf, AddsConstraint, AddsObjective, Declares, declares_header, declares_variable, declares_distinct, declares_among, declares_sequence, declares_gcc, declares_total, declares_objective, declares_group}
use Rattle.hk_lines.proofs.Domains.{same_domains}

-- a list of places is determined by the list of their options
pub same_places : (xs ys : List ℕ) → map Some xs ≡ map Some ys → xs ≡ ys
same_places [] [] same = refl
same_places [] (y ∷ ys) same = cc
same_places (x ∷ xs) [] same = cc
same_places (x ∷ xs) (y ∷ ys) same =
    let rest : map Some xs ≡ map Some ys = cc in
    let tails = same_places xs ys rest in
    cc

-- names have one scope
pub same_scopes : {names : List (List ℕ)} {before : PlainDraft} {a b : List ℕ} → AreNamesOf names before a → AreNamesOf names before b → a ≡ b
same_scopes {a = a} {b = b} x y = same_places a b (sym x.declared ∙ y.declared)

-- a new variable has one effect
same_added_variable : {name : List ℕ} {set : List Values} {before after other : PlainDraft} → AddsVariable name set before after → AddsVariable name set before other → after ≡ other
same_added_variable {name = name} {before = before} x y =
    x.added
    ∙ ap (λ domain. record before { names = before.names ++ name ∷ []; domains = before.domains ++ domain ∷ [] }) (same_domains x.is_set y.is_set)
    ∙ sym y.added

-- the draft with one constraint more, and with an objective
abbrev pub with_constraint : PlainDraft → Constraint → PlainDraft
with_constraint before constraint = record before {
  constraints = before.constraints ++ constraint ∷ [];
  groups = put before.fresh before.groups (constraint_parts constraint);
  fresh = false;
}

abbrev pub with_objective : PlainDraft → Linear → PlainDraft
with_objective before linear = record before {
  groups = put before.fresh before.groups (objective_part linear ∷ []);
  objective = Some linear;
  fresh = false;
}

-- a new constraint has one effect
pub same_added_constraint : {c d : Constraint} {before after other : PlainDraft} → c ≡ d → AddsConstraint c before after → AddsConstraint d before other → after ≡ other
same_added_constraint {before = before} same x y = x.added ∙ ap (with_constraint before) same ∙ sym y.added

-- an objective has one effect
same_added_objective : {a b : Linear} {before after other : PlainDraft} → a ≡ b → AddsObjective a before after → AddsObjective b before other → after ≡ other
same_added_objective {before = before} same x y = x.added ∙ ap (with_objective before) same ∙ sym y.added

-- a sum over a scope, for an objective
abbrev linear_over : List ℤ → List ℕ → Linear
linear_over coefs scope = record { scope = scope; coefs = coefs }

-- a statement has one effect
pub declares_one : {before after other : Option PlainDraft} {s : Statement} → Declares before s after → Declares before s other → after ≡ other
declares_one declares_header declares_header = refl
declares_one (declares_variable x) (declares_variable y) = ap Some (same_added_variable x y)
declares_one (declares_distinct n x) (declares_distinct n' y) = ap Some (same_added_constraint (ap AllDifferent (same_scopes n n')) x y)
declares_one (declares_among {counting = c} n small is_set x) (declares_among n' small' is_set' y) =
    let scopes = same_scopes n n' in
    let sets = same_domains is_set is_set' in
    ap Some (same_added_constraint (λ i. Among (scopes i) (sets i) (pos c.least) (pos c.most)) x y)
declares_one (declares_sequence {window = w} {counting = c} n is_window small is_set x) (declares_sequence n' is_window' small' is_set' y) =
    let scopes = same_scopes n n' in
    let sets = same_domains is_set is_set' in
    ap Some (same_added_constraint (λ i. Sequence (scopes i) w (sets i) (pos c.least) (pos c.most)) x y)
declares_one (declares_gcc {rows = rows} n some once small x) (declares_gcc n' some' once' small' y) =
    ap Some (same_added_constraint (ap (λ scope. Gcc scope (map made_row rows)) (same_scopes n n')) x y)
declares_one (declares_total {terms = terms} {least = least} {most = most} n small above below x) (declares_total n' small' above' below' y) =
    ap Some (same_added_constraint (ap (λ scope. Sum scope (term_coefs terms) least most) (same_scopes n n')) x y)
declares_one (declares_objective {terms = terms} n small x) (declares_objective n' small' y) =
    ap Some (same_added_objective (ap (linear_over (term_coefs terms)) (same_scopes n n')) x y)
declares_one declares_group declares_group = refl
