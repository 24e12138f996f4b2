-- What a statement declares is valid where what was declared before it is.
use Rattle.std.proofs.Common.{◌≡◌, ℕ, ◌+◌, ◌<◌, ◌≤◌, List, [], ◌∷◌, ◌++◌, length, map, Option, None, Some, true, refl, sym, ap, subst, ◌∙◌, arith, length-append}
use Rattle.std.specs.Prelude.{pos, All}
use Rattle.std.proofs.lemmas.List.{length-map}
use Rattle.std.proofs.lemmas.List.Elements.{All-nil, All-cons, All-head, All-push, All-weaker}
use Rattle.std.proofs.lemmas.List.Quantifiers.{position-Some}
use Rattle.hk_group.specs.declared.problem.Constraint.{Constraint}
use Rattle.hk_group.specs.declared.linear.Linear.{Linear}
use Rattle.hk_group.specs.Limits.{most_variables, most_name_bytes, most_constraints, most_groups, greatest_coefficient}
use Rattle.hk_lines.specs.Phrases.{Values, Term, Counting, NamesThen, last_name, more_name, AreCounting, TermsThen, last_term, more_term}
use Rattle.hk_group.specs.Problems.{IsScope, IsWithin, IsAmong, IsLinear, IsConstraint, IsDomain}
use Rattle.hk_draft.specs.Drafts.{PlainDraft, HasGroup, IsValidDraft, empty_draft}
use Rattle.hk_lines.specs.Statements.{Statement, Says, says_distinct, says_among, says_sequence, says_gcc, says_total, says_objective}
use Rattle.hk_draft.specs.Declares.{place_of, made_row, IsSmallCounting, AddsVariable, AreNamesOf, AddsConstraint, AddsObjective, term_names, term_coefs, Declares, declares_header, declares_variable, declares_distinct, declares_among, declares_sequence, declares_gcc, declares_total, declares_objective, declares_group}
use Rattle.hk_lines.specs.ValueSets.{IsSetOf}
use Rattle.hk_group.specs.Grouping.{constraint_parts, objective_part, HaveParts}
use Rattle.hk_draft.proofs.GroupParts.{constraint_group, objective_group, groups_put}
use Rattle.hk_draft.proofs.PartsDeclared.{all_parts, all_put, few_put, constraint_put, objective_put}
use Rattle.hk_draft.proofs.ValidRows.{bounds_within, rows_valid, rows_once}
use Rattle.hk_group.proofs.MoreVariables.{constraint_more, objective_more}
use Rattle.hk_lines.proofs.Elements.{any_first}

-- what is declared so far is valid
abbrev pub IsValidSoFar : Option PlainDraft → Type 0
IsValidSoFar None = Unit {0}
IsValidSoFar (Some draft) = IsValidDraft draft

-- the draft without variables and constraints is valid
empty_valid : IsValidDraft empty_draft
empty_valid = record {
  named = refl;
  variables = omega arith;
  names = All-nil _;
  domains = All-nil _;
  few = omega arith;
  constraints = All-nil _;
  objective = tt;
  few_groups = omega arith;
  groups = All-nil _;
  parts = refl;
}

-- a set of items of which none is turned is a domain
items_domain : (set : List Values) (domain : ℕ) → 0 < length set → All (λ values. values.first ≤ values.last) set → IsSetOf set domain → IsDomain domain
items_domain [] domain some ordered is = absurd (omega (arith, some))
items_domain (values ∷ more) domain some ordered is = record {
  small = is.small;
  least = values.first;
  some = (is.values values.first).1 (any_first _ values more (omega arith, All-head (λ item. item.first ≤ item.last) values more ordered));
}

-- a new variable keeps a draft valid
variable_valid : {name : List ℕ} {set : List Values} {before after : PlainDraft} → AddsVariable name set before after → IsValidDraft before → IsValidDraft after
variable_valid {name = name} {set = set} {before = before} adds valid = subst IsValidDraft (sym adds.added) (record {
  named = length-append before.names (name ∷ []) ∙ ap (λ n. n + 1) valid.named ∙ sym (length-append before.domains (adds.domain ∷ []));
  variables = subst (λ n. n ≤ most_variables) (sym longer) (omega (arith, adds.room));
  names = All-push (λ text. length text ≤ most_name_bytes) before.names name valid.names adds.short;
  domains = All-push IsDomain before.domains adds.domain valid.domains (items_domain set adds.domain adds.some adds.ordered adds.is_set);
  few = valid.few;
  constraints = All-weaker (IsConstraint (length before.names)) (IsConstraint (length (before.names ++ name ∷ [])))
      (constraint_more (length before.names) (length (before.names ++ name ∷ [])) (omega (arith, longer))) before.constraints valid.constraints;
  objective = objective_more (length before.names) (length (before.names ++ name ∷ [])) (omega (arith, longer)) before.objective valid.objective;
  few_groups = valid.few_groups;
  groups = valid.groups;
  parts = valid.parts;
})
  where
    longer : length (before.names ++ name ∷ []) ≡ length before.names + 1
    longer = length-append before.names (name ∷ [])

-- the place of a name is that of a variable
places_below : (all names : List (List ℕ)) (scope : List ℕ) → map (place_of all) names ≡ map Some scope → All (λ v. v < length all) scope
places_below all names [] same = All-nil _
places_below all [] (v ∷ scope) same = cc
places_below all (name ∷ names) (v ∷ scope) same =
    let place : place_of all name ≡ Some v = cc in
    let rest : map (place_of all) names ≡ map Some scope = cc in
    All-cons (λ u. u < length all) v scope (position-Some _ all v [] place).0 (places_below all names scope rest)

module _ {names : List (List ℕ)} {before : PlainDraft} {scope : List ℕ} (named : AreNamesOf names before scope) where
  -- a scope has a variable for each of its names
  pub as_many : length names ≡ length scope
  as_many = sym (length-map names (place_of before.names)) ∙ ap length named.declared ∙ length-map scope Some

  -- the variables of names are a scope
  pub named_scope : 0 < length names → IsScope (length before.names) scope
  named_scope some = record {
    some = subst (λ n. 0 < n) as_many some;
    rising = named.rising;
    declared = places_below before.names names scope named.declared;
  }

-- the variables of terms, with their coefficients, are a sum
named_linear : (terms : List Term) {before : PlainDraft} {scope : List ℕ} → 0 < length terms → AreNamesOf (term_names terms) before scope
    → All (IsWithin greatest_coefficient) (term_coefs terms) → IsLinear (length before.names) scope (term_coefs terms)
named_linear terms some named small = record {
  over = named_scope named (subst (λ n. 0 < n) (sym (length-map terms (λ term. term.name))) some);
  one_each = length-map terms (λ term. term.coef) ∙ sym (length-map terms (λ term. term.name)) ∙ as_many named;
  small = small;
}

-- room for a group is room for one more
room_more : (before : PlainDraft) → HasGroup before → before.fresh ≡ true → length before.groups + 1 ≤ most_groups
room_more before has fresh = let less = has fresh in omega (arith, less)

-- a new constraint on variables keeps a draft valid
pub constraint_valid : {constraint : Constraint} {before after : PlainDraft} → IsConstraint (length before.names) constraint → AddsConstraint constraint before after → IsValidDraft before → IsValidDraft after
constraint_valid {constraint = constraint} {before = before} is adds valid = subst IsValidDraft (sym adds.added) (record {
  named = valid.named;
  variables = valid.variables;
  names = valid.names;
  domains = valid.domains;
  few = subst (λ n. n ≤ most_constraints) (sym (length-append before.constraints (constraint ∷ []))) (omega (arith, adds.room));
  constraints = All-push (IsConstraint (length before.names)) before.constraints constraint valid.constraints is;
  objective = valid.objective;
  few_groups = few_put (constraint_parts constraint) before.fresh before.groups (room_more before adds.group) valid.few_groups;
  groups = groups_put (constraint_parts constraint) (constraint_group (length before.names) valid.variables constraint is) before.fresh before.groups valid.groups;
  parts = subst (HaveParts (before.constraints ++ constraint ∷ []) before.objective) (sym (all_put (constraint_parts constraint) before.fresh before.groups))
      (constraint_put before.constraints constraint before.objective (all_parts before.groups) valid.parts);
})

-- an objective on variables keeps a draft valid
objective_valid : {linear : Linear} {before after : PlainDraft} → IsLinear (length before.names) linear.scope linear.coefs → AddsObjective linear before after → IsValidDraft before → IsValidDraft after
objective_valid {linear = linear} {before = before} is adds valid = subst IsValidDraft (sym adds.added) (record {
  named = valid.named;
  variables = valid.variables;
  names = valid.names;
  domains = valid.domains;
  few = valid.few;
  constraints = valid.constraints;
  objective = is;
  few_groups = few_put (objective_part linear ∷ []) before.fresh before.groups (room_more before adds.group) valid.few_groups;
  groups = groups_put (objective_part linear ∷ []) (objective_group (length before.names) valid.variables linear is) before.fresh before.groups valid.groups;
  parts = subst (HaveParts before.constraints (Some linear)) (sym (all_put (objective_part linear ∷ []) before.fresh before.groups))
      (objective_put before.constraints before.objective linear (all_parts before.groups) adds.new valid.parts);
})

-- terms are some
terms_some : {texts rest : List (List ℕ)} {terms : List Term} → TermsThen texts terms rest → 0 < length terms
terms_some (last_term signed word) = omega arith
terms_some (more_term signed word more) = omega arith

-- the names of a scope are some
names_some : {texts rest names : List (List ℕ)} → NamesThen texts names rest → 0 < length names
names_some (last_name x word) = omega arith
names_some (more_name x word later) = omega arith

-- what a line counts is a count of variables
among_valid : {texts : List (List ℕ)} {counting : Counting} {before : PlainDraft} {scope : List ℕ} {set : ℕ} → AreCounting texts counting → AreNamesOf counting.names before scope → IsSmallCounting counting → IsSetOf counting.set set
    → IsAmong (length before.names) scope set (pos counting.least) (pos counting.most)
among_valid are named small is_set = record { over = named_scope named (names_some are.scope); small = is_set.small; bounds = bounds_within small.least_fits small.most_fits }

-- a statement that a line says keeps what is declared valid
pub statement_valid : {texts : List (List ℕ)} {s : Statement} {before after : Option PlainDraft} → Says texts s → Declares before s after → IsValidSoFar before → IsValidSoFar after
statement_valid says declares_header valid = empty_valid
statement_valid says (declares_variable adds) valid = variable_valid adds valid
statement_valid (says_distinct x words) (declares_distinct named adds) valid = constraint_valid (named_scope named (omega arith)) adds valid
statement_valid (says_among x are) (declares_among named small is_set adds) valid = constraint_valid (among_valid are named small is_set) adds valid
statement_valid (says_sequence x number are) (declares_sequence named is_window small is_set adds) valid =
    constraint_valid (record { counts = among_valid are named small is_set; some = is_window.some; short = is_window.short }) adds valid
statement_valid (says_gcc x scope rows) (declares_gcc {rows = listed} named some once small adds) valid =
    constraint_valid (record { over = named_scope named (names_some scope); some = omega (arith, some, length-map listed made_row); each = rows_valid _ small; once = rows_once rows small once }) adds valid
statement_valid (says_total {terms = terms} x all bounds) (declares_total named small least most adds) valid = constraint_valid (named_linear terms (terms_some all) named small, least, most) adds valid
statement_valid (says_objective {terms = terms} x all) (declares_objective named small adds) valid = objective_valid (named_linear terms (terms_some all) named small) adds valid
statement_valid says declares_group valid = record {
  named = valid.named;
  variables = valid.variables;
  names = valid.names;
  domains = valid.domains;
  few = valid.few;
  constraints = valid.constraints;
  objective = valid.objective;
  few_groups = valid.few_groups;
  groups = valid.groups;
  parts = valid.parts;
}
