-- What the texts of a line say, by the phrases that they begin with.
use Rattle.std.proofs.Common.{◌≡◌, ℕ, ℤ, List, [], ◌∷◌, map, w64, of_z, to_z, refl, sym, ap, subst, ◌∙◌}
use Rattle.std.specs.Prelude.{codes}
use Rattle.hk_lines.specs.Phrases.{Values, Term, SetThen, TermsThen, BoundsThen, NamesThen}
use Rattle.hk_lines.specs.inside.Pieces.{WordThen}
use Rattle.hk_lines.specs.Shapes.{SayNothing, capped_values, capped_term, capped_statement}
use Rattle.hk_lines.specs.inside.Capped.{BeginsCapped, AreBounds}
use Rattle.hk_lines.specs.Statements.{Statement, Header, Variable, Distinct, Among, Sequence, Gcc, Total, Objective, NewGroup, Says, says_header, says_variable, says_distinct, says_among, says_sequence, says_gcc, says_total, says_objective, says_new_group, scope_end}
use Rattle.hk_lines.proofs.Capping.{signed_in_word}
use Rattle.hk_text.proofs.TokenTexts.{apart, same_rest}
use Rattle.hk_lines.proofs.Phrasing.{set_one, terms_one}
use Rattle.hk_lines.proofs.ScopeNames.{scope_of_names, names_of_scope, names_one}

-- the texts say a statement which is this one when its numbers are capped
abbrev pub SayCapped : List (List ℕ) → Statement → Type 0
SayCapped texts capped = (statement : Statement) × Says texts statement × (capped ≡ capped_statement statement)

-- `hkm 1` says the header
pub header_said : {texts : List (List ℕ)} → texts ≡ codes "hkm" ∷ codes "1" ∷ [] → SayCapped texts Header
header_said is = (Header, says_header is, refl)

-- `group` says that what follows stands in a new group
pub new_group_said : {texts : List (List ℕ)} → texts ≡ codes "group" ∷ [] → SayCapped texts NewGroup
new_group_said is = (NewGroup, says_new_group is, refl)

-- texts without a first word of a statement say nothing
pub nothing_said : {texts : List (List ℕ)}
    → (texts ≡ codes "hkm" ∷ codes "1" ∷ [] → ⊥)
    → (texts ≡ codes "group" ∷ [] → ⊥)
    → ((rest : List (List ℕ)) → texts ≡ codes "var" ∷ rest → ⊥)
    → ((rest : List (List ℕ)) → texts ≡ codes "alldifferent" ∷ rest → ⊥)
    → ((rest : List (List ℕ)) → texts ≡ codes "among" ∷ rest → ⊥)
    → ((rest : List (List ℕ)) → texts ≡ codes "sequence" ∷ rest → ⊥)
    → ((rest : List (List ℕ)) → texts ≡ codes "gcc" ∷ rest → ⊥)
    → ((rest : List (List ℕ)) → texts ≡ codes "sum" ∷ rest → ⊥)
    → ((rest : List (List ℕ)) → texts ≡ codes "minimize" ∷ rest → ⊥)
    → SayNothing texts
nothing_said header group variable distinct among sequence gcc total objective Header (says_header x) = header x
nothing_said header group variable distinct among sequence gcc total objective (Variable n s) (says_variable x word set) = variable _ x
nothing_said header group variable distinct among sequence gcc total objective (Distinct ns) (says_distinct x words) = distinct _ x
nothing_said header group variable distinct among sequence gcc total objective (Among c) (says_among x counting) = among _ x
nothing_said header group variable distinct among sequence gcc total objective (Sequence w c) (says_sequence x number counting) = sequence _ x
nothing_said header group variable distinct among sequence gcc total objective (Gcc ns rs) (says_gcc x scope rows) = gcc _ x
nothing_said header group variable distinct among sequence gcc total objective (Total ts l m) (says_total x terms bounds) = total _ x
nothing_said header group variable distinct among sequence gcc total objective (Objective ts) (says_objective x terms) = objective _ x
nothing_said header group variable distinct among sequence gcc total objective NewGroup (says_new_group x) = group x

-- the parts of a variable's texts after the first
record VariableParts (texts : List (List ℕ)) : Type 0 where
  name : List ℕ
  more : List (List ℕ)
  set : List Values
  parts : texts ≡ name ∷ codes "in" ∷ more
  phrase : SetThen more set []

variable_parts : {all texts : List (List ℕ)} {statement : Statement} → Says all statement → all ≡ codes "var" ∷ texts → VariableParts texts
variable_parts (says_header x) is = absurd (apart 0 x is refl)
variable_parts (says_variable {more = more} {name = name} {set = set} x word phrase) is = record { name = name; more = more; set = set; parts = same_rest is x; phrase = phrase }
variable_parts (says_distinct x words) is = absurd (apart 0 x is refl)
variable_parts (says_among x counting) is = absurd (apart 0 x is refl)
variable_parts (says_sequence x number counting) is = absurd (apart 0 x is refl)
variable_parts (says_gcc x scope rows) is = absurd (apart 0 x is refl)
variable_parts (says_total x terms bounds) is = absurd (apart 0 x is refl)
variable_parts (says_objective x terms) is = absurd (apart 0 x is refl)
variable_parts (says_new_group x) is = absurd (apart 0 x is refl)

-- the names of a scope whose texts these are
record DistinctParts (texts : List (List ℕ)) : Type 0 where
  inner : List (List ℕ)
  names : List (List ℕ)
  parts : texts ≡ codes "(" ∷ inner
  phrase : NamesThen inner names []

distinct_parts : {all texts : List (List ℕ)} {statement : Statement} → Says all statement → all ≡ codes "alldifferent" ∷ texts → DistinctParts texts
distinct_parts (says_header x) is = absurd (apart 0 x is refl)
distinct_parts (says_variable x word phrase) is = absurd (apart 0 x is refl)
distinct_parts (says_distinct {name = name} {more = more} x words) is = record {
  inner = name ∷ scope_end more;
  names = name ∷ more;
  parts = same_rest is x;
  phrase = names_of_scope name more refl words;
}
distinct_parts (says_among x counting) is = absurd (apart 0 x is refl)
distinct_parts (says_sequence x number counting) is = absurd (apart 0 x is refl)
distinct_parts (says_gcc x scope rows) is = absurd (apart 0 x is refl)
distinct_parts (says_total x terms bounds) is = absurd (apart 0 x is refl)
distinct_parts (says_objective x terms) is = absurd (apart 0 x is refl)
distinct_parts (says_new_group x) is = absurd (apart 0 x is refl)

-- the terms of a sum and its bounds
record TotalParts (texts : List (List ℕ)) : Type 0 where
  inner : List (List ℕ)
  rest : List (List ℕ)
  terms : List Term
  least : ℤ
  most : ℤ
  parts : texts ≡ codes "(" ∷ inner
  phrase : TermsThen inner terms rest
  bounds : BoundsThen rest least most []

total_parts : {all texts : List (List ℕ)} {statement : Statement} → Says all statement → all ≡ codes "sum" ∷ texts → TotalParts texts
total_parts (says_header x) is = absurd (apart 0 x is refl)
total_parts (says_variable x word phrase) is = absurd (apart 0 x is refl)
total_parts (says_distinct x words) is = absurd (apart 0 x is refl)
total_parts (says_among x counting) is = absurd (apart 0 x is refl)
total_parts (says_sequence x number counting) is = absurd (apart 0 x is refl)
total_parts (says_gcc x scope rows) is = absurd (apart 0 x is refl)
total_parts (says_total {more = more} {bounds = rest} {terms = terms} {least = least} {most = most} x phrase bounds) is =
    record { inner = more; rest = rest; terms = terms; least = least; most = most; parts = same_rest is x; phrase = phrase; bounds = bounds }
total_parts (says_objective x terms) is = absurd (apart 0 x is refl)
total_parts (says_new_group x) is = absurd (apart 0 x is refl)

-- the terms of an objective
record ObjectiveParts (texts : List (List ℕ)) : Type 0 where
  inner : List (List ℕ)
  terms : List Term
  parts : texts ≡ codes "(" ∷ inner
  phrase : TermsThen inner terms []

objective_parts : {all texts : List (List ℕ)} {statement : Statement} → Says all statement → all ≡ codes "minimize" ∷ texts → ObjectiveParts texts
objective_parts (says_header x) is = absurd (apart 0 x is refl)
objective_parts (says_variable x word phrase) is = absurd (apart 0 x is refl)
objective_parts (says_distinct x words) is = absurd (apart 0 x is refl)
objective_parts (says_among x counting) is = absurd (apart 0 x is refl)
objective_parts (says_sequence x number counting) is = absurd (apart 0 x is refl)
objective_parts (says_gcc x scope rows) is = absurd (apart 0 x is refl)
objective_parts (says_total x terms bounds) is = absurd (apart 0 x is refl)
objective_parts (says_objective {more = more} {terms = terms} x phrase) is = record { inner = more; terms = terms; parts = same_rest is x; phrase = phrase }
objective_parts (says_new_group x) is = absurd (apart 0 x is refl)

-- a sum is determined by its terms and its bounds
same_total : {ts ts' : List Term} {l l' m m' : ℤ} → ts ≡ ts' → l ≡ l' → m ≡ m' → Total ts l m ≡ Total ts' l' m'
same_total x y z = cc

module _ {texts : List (List ℕ)} where
  -- `var NAME in SET` says a variable
  pub variable_said : {after more rest : List (List ℕ)} {name : List ℕ} {set : List Values} → WordThen texts name after → after ≡ codes "in" ∷ more
      → BeginsCapped SetThen (map capped_values) more set rest → rest ≡ [] → SayCapped (codes "var" ∷ texts) (Variable name set)
  variable_said {name = name} {set = set} word keyword begins over = (
    Variable name begins.exact,
    says_variable (ap (λ ts. codes "var" ∷ ts) (word.parts ∙ ap (λ ts. name ∷ ts) keyword)) word.is_word (subst (SetThen _ begins.exact) over begins.phrase),
    ap (Variable name) begins.is_capped,
  )

  -- nothing is said where more follows the set
  pub no_variable : {after more rest : List (List ℕ)} {name : List ℕ} {set : List Values} → WordThen texts name after → after ≡ codes "in" ∷ more
      → BeginsCapped SetThen (map capped_values) more set rest → (rest ≡ [] → ⊥) → SayNothing (codes "var" ∷ texts)
  no_variable {name = name} word keyword begins further statement says =
      let parts = variable_parts says refl in
      let same = same_rest refl (same_rest (word.parts ∙ ap (λ ts. name ∷ ts) keyword) parts.parts) in
      further (set_one begins.phrase (subst (λ ts. SetThen ts parts.set []) (sym same) parts.phrase)).1

  -- `alldifferent (NAME, NAME)` says that variables differ
  pub distinct_said : {inner rest names : List (List ℕ)} → texts ≡ codes "(" ∷ inner → NamesThen inner names rest → rest ≡ [] → SayCapped (codes "alldifferent" ∷ texts) (Distinct names)
  distinct_said {names = names} opening phrase over =
      let scope = scope_of_names phrase over in (
        Distinct (scope.first ∷ scope.more),
        says_distinct (ap (λ ts. codes "alldifferent" ∷ ts) (opening ∙ ap (λ ts. codes "(" ∷ ts) scope.texts_are)) scope.words,
        ap Distinct scope.names_are,
      )

  -- nothing is said where no names follow
  pub no_distinct : {inner : List (List ℕ)} → texts ≡ codes "(" ∷ inner → ((names : List (List ℕ)) → NamesThen inner names [] → ⊥) → SayNothing (codes "alldifferent" ∷ texts)
  no_distinct opening none statement says =
      let parts = distinct_parts says refl in
      none parts.names (subst (λ ts. NamesThen ts parts.names []) (same_rest parts.parts opening) parts.phrase)

  -- nothing is said where more follows the names
  pub no_more_distinct : {inner rest names : List (List ℕ)} → texts ≡ codes "(" ∷ inner → NamesThen inner names rest → (rest ≡ [] → ⊥) → SayNothing (codes "alldifferent" ∷ texts)
  no_more_distinct opening phrase further = no_distinct opening (λ other ends. further (names_one phrase ends).1)

  -- `sum (TERM, TERM) LEAST..MOST` says a sum, its bounds in words of 64 bits
  pub total_said : {inner rest : List (List ℕ)} {terms : List Term} {least most : ℤ} → texts ≡ codes "(" ∷ inner → BeginsCapped TermsThen (map capped_term) inner terms rest
      → AreBounds rest least most → SayCapped (codes "sum" ∷ texts) (Total terms (to_z w64 (of_z w64 least)) (to_z w64 (of_z w64 most)))
  total_said {least = least} {most = most} opening begins bounds = (
    Total begins.exact bounds.from bounds.to,
    says_total (ap (λ ts. codes "sum" ∷ ts) opening) begins.phrase bounds.bounds,
    same_total begins.is_capped (signed_in_word least bounds.from bounds.least_is ∙ bounds.least_is) (signed_in_word most bounds.to bounds.most_is ∙ bounds.most_is),
  )

  -- nothing is said where no bounds follow the terms
  pub no_total : {inner rest : List (List ℕ)} {terms : List Term} → texts ≡ codes "(" ∷ inner → BeginsCapped TermsThen (map capped_term) inner terms rest
      → ((least most : ℤ) → BoundsThen rest least most [] → ⊥) → SayNothing (codes "sum" ∷ texts)
  no_total opening begins none statement says =
      let parts = total_parts says refl in
      let same = (terms_one begins.phrase (subst (λ ts. TermsThen ts parts.terms parts.rest) (same_rest parts.parts opening) parts.phrase)).1 in
      none parts.least parts.most (subst (λ ts. BoundsThen ts parts.least parts.most []) (sym same) parts.bounds)

  -- `minimize (TERM, TERM)` says an objective
  pub objective_said : {inner rest : List (List ℕ)} {terms : List Term} → texts ≡ codes "(" ∷ inner → BeginsCapped TermsThen (map capped_term) inner terms rest
      → rest ≡ [] → SayCapped (codes "minimize" ∷ texts) (Objective terms)
  objective_said opening begins over = (
    Objective begins.exact,
    says_objective (ap (λ ts. codes "minimize" ∷ ts) opening) (subst (TermsThen _ begins.exact) over begins.phrase),
    ap Objective begins.is_capped,
  )

  -- nothing is said where more follows the terms
  pub no_objective : {inner rest : List (List ℕ)} {terms : List Term} → texts ≡ codes "(" ∷ inner → BeginsCapped TermsThen (map capped_term) inner terms rest
      → (rest ≡ [] → ⊥) → SayNothing (codes "minimize" ∷ texts)
  no_objective opening begins further statement says =
      let parts = objective_parts says refl in
      further (terms_one begins.phrase (subst (λ ts. TermsThen ts parts.terms []) (same_rest parts.parts opening) parts.phrase)).1
