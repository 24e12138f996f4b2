-- The tokens of a line say at most one statement.
use Rattle.std.proofs.Common.{◌≡◌, ℕ, List, [], ◌∷◌, refl, ap, subst, ◌∙◌}
use Rattle.hk_lines.specs.Phrases.{NamesThen, SetThen, TermsThen, BoundsThen, AreCounting, AreRows}
use Rattle.hk_lines.specs.Statements.{Statement, Variable, Distinct, Among, Sequence, Gcc, Total, Objective, Says, says_header, says_variable, says_distinct, says_among, says_sequence, says_gcc, says_total, says_objective, says_new_group, scope_end}
use Rattle.hk_text.proofs.TokenTexts.{apart, apart_none, same_first, same_rest}
use Rattle.hk_lines.proofs.CountPhrases.{counting_one, rows_one}
use Rattle.hk_lines.proofs.Phrasing.{first_number_one, set_one, terms_one, bounds_one}
use Rattle.hk_lines.proofs.ScopeNames.{names_one}

-- the names of a scope are determined by its tokens
pub scope_end_one : (xs ys : List (List ℕ)) → scope_end xs ≡ scope_end ys → xs ≡ ys
scope_end_one [] [] same = refl
scope_end_one [] (y ∷ ys) same = absurd (apart 0 refl same refl)
scope_end_one (x ∷ xs) [] same = absurd (apart 0 refl same refl)
scope_end_one (x ∷ xs) (y ∷ ys) same =
    let names = same_rest refl same in
    let first : x ≡ y = same_first refl names in
    let rest : xs ≡ ys = scope_end_one xs ys (same_rest refl names) in
    cc

-- texts say one statement
pub says_one : {texts : List (List ℕ)} {s t : Statement} → Says texts s → Says texts t → s ≡ t
says_one (says_header x) (says_header y) = refl
says_one (says_header x) (says_variable y word set) = absurd (apart 0 x y refl)
says_one (says_header x) (says_distinct y words) = absurd (apart 0 x y refl)
says_one (says_header x) (says_among y counting) = absurd (apart 0 x y refl)
says_one (says_header x) (says_sequence y number counting) = absurd (apart 0 x y refl)
says_one (says_header x) (says_gcc y scope rows) = absurd (apart 0 x y refl)
says_one (says_header x) (says_total y terms bounds) = absurd (apart 0 x y refl)
says_one (says_header x) (says_objective y terms) = absurd (apart 0 x y refl)
says_one (says_header x) (says_new_group y) = absurd (apart 0 x y refl)
says_one (says_variable x word set) (says_header y) = absurd (apart 0 x y refl)
says_one (says_variable {name = n} {set = s} x word set) (says_variable {name = n'} {set = s'} y word' set') =
    let after = same_rest x y in
    let name : n ≡ n' = same_first refl after in
    let more = same_rest refl (same_rest refl after) in
    let same : s ≡ s' = (set_one (subst (λ texts. SetThen texts s []) more set) set').0 in
    ap (λ named. Variable named s) name ∙ ap (Variable n') same
says_one (says_variable x word set) (says_distinct y words) = absurd (apart 0 x y refl)
says_one (says_variable x word set) (says_among y counting) = absurd (apart 0 x y refl)
says_one (says_variable x word set) (says_sequence y number counting) = absurd (apart 0 x y refl)
says_one (says_variable x word set) (says_gcc y scope rows) = absurd (apart 0 x y refl)
says_one (says_variable x word set) (says_total y terms bounds) = absurd (apart 0 x y refl)
says_one (says_variable x word set) (says_objective y terms) = absurd (apart 0 x y refl)
says_one (says_variable x word set) (says_new_group y) = absurd (apart 0 x y refl)
says_one (says_distinct x words) (says_header y) = absurd (apart 0 x y refl)
says_one (says_distinct x words) (says_variable y word set) = absurd (apart 0 x y refl)
says_one (says_distinct {name = n} {more = m} x words) (says_distinct {name = n'} {more = m'} y words') =
    let scope = same_rest refl (same_rest x y) in
    let name : n ≡ n' = same_first refl scope in
    let more : m ≡ m' = scope_end_one m m' (same_rest refl scope) in
    ap (λ first. Distinct (first ∷ m)) name ∙ ap (λ rest. Distinct (n' ∷ rest)) more
says_one (says_distinct x words) (says_among y counting) = absurd (apart 0 x y refl)
says_one (says_distinct x words) (says_sequence y number counting) = absurd (apart 0 x y refl)
says_one (says_distinct x words) (says_gcc y scope rows) = absurd (apart 0 x y refl)
says_one (says_distinct x words) (says_total y terms bounds) = absurd (apart 0 x y refl)
says_one (says_distinct x words) (says_objective y terms) = absurd (apart 0 x y refl)
says_one (says_distinct x words) (says_new_group y) = absurd (apart 0 x y refl)
says_one (says_among x counting) (says_header y) = absurd (apart 0 x y refl)
says_one (says_among x counting) (says_variable y word set) = absurd (apart 0 x y refl)
says_one (says_among x counting) (says_distinct y words) = absurd (apart 0 x y refl)
says_one (says_among {counting = c} x counting) (says_among y counting') =
    let more = same_rest refl (same_rest x y) in
    ap Among (counting_one (subst (λ texts. AreCounting texts c) more counting) counting')
says_one (says_among x counting) (says_sequence y number counting') = absurd (apart 0 x y refl)
says_one (says_among x counting) (says_gcc y scope rows) = absurd (apart 0 x y refl)
says_one (says_among x counting) (says_total y terms bounds) = absurd (apart 0 x y refl)
says_one (says_among x counting) (says_objective y terms) = absurd (apart 0 x y refl)
says_one (says_among x counting) (says_new_group y) = absurd (apart 0 x y refl)
says_one (says_sequence x number counting) (says_header y) = absurd (apart 0 x y refl)
says_one (says_sequence x number counting) (says_variable y word set) = absurd (apart 0 x y refl)
says_one (says_sequence x number counting) (says_distinct y words) = absurd (apart 0 x y refl)
says_one (says_sequence x number counting) (says_among y counting') = absurd (apart 0 x y refl)
says_one (says_sequence {window = w} {counting = c} x number counting) (says_sequence {window = w'} y number' counting') =
    let after = same_rest x y in
    let window : w ≡ w' = first_number_one refl after number number' in
    let same = counting_one (subst (λ texts. AreCounting texts c) (same_rest refl (same_rest refl after)) counting) counting' in
    λ i. Sequence (window i) (same i)
says_one (says_sequence x number counting) (says_gcc y scope rows) = absurd (apart 0 x y refl)
says_one (says_sequence x number counting) (says_total y terms bounds) = absurd (apart 0 x y refl)
says_one (says_sequence x number counting) (says_objective y terms) = absurd (apart 0 x y refl)
says_one (says_sequence x number counting) (says_new_group y) = absurd (apart 0 x y refl)
says_one (says_gcc x scope rows) (says_header y) = absurd (apart 0 x y refl)
says_one (says_gcc x scope rows) (says_variable y word set) = absurd (apart 0 x y refl)
says_one (says_gcc x scope rows) (says_distinct y words) = absurd (apart 0 x y refl)
says_one (says_gcc x scope rows) (says_among y counting) = absurd (apart 0 x y refl)
says_one (says_gcc x scope rows) (says_sequence y number counting) = absurd (apart 0 x y refl)
says_one (says_gcc {after = a} {names = n} {rows = r} x scope rows) (says_gcc y scope' rows') =
    let more = same_rest refl (same_rest x y) in
    let names = names_one (subst (λ texts. NamesThen texts n a) more scope) scope' in
    let same = rows_one (subst (λ texts. AreRows texts r) names.1 rows) rows' in
    λ i. Gcc (names.0 i) (same i)
says_one (says_gcc x scope rows) (says_total y terms bounds) = absurd (apart 0 x y refl)
says_one (says_gcc x scope rows) (says_objective y terms) = absurd (apart 0 x y refl)
says_one (says_gcc x scope rows) (says_new_group y) = absurd (apart 0 x y refl)
says_one (says_total x terms bounds) (says_header y) = absurd (apart 0 x y refl)
says_one (says_total x terms bounds) (says_variable y word set) = absurd (apart 0 x y refl)
says_one (says_total x terms bounds) (says_distinct y words) = absurd (apart 0 x y refl)
says_one (says_total x terms bounds) (says_among y counting) = absurd (apart 0 x y refl)
says_one (says_total x terms bounds) (says_sequence y number counting) = absurd (apart 0 x y refl)
says_one (says_total x terms bounds) (says_gcc y scope rows) = absurd (apart 0 x y refl)
says_one (says_total {bounds = b} {terms = t} {least = l} {most = m} x terms bounds) (says_total {terms = t'} {least = l'} {most = m'} y terms' bounds') =
    let more = same_rest refl (same_rest x y) in
    let read = terms_one (subst (λ texts. TermsThen texts t b) more terms) terms' in
    let ends = bounds_one (subst (λ texts. BoundsThen texts l m []) read.1 bounds) bounds' in
    ap (λ sum. Total sum l m) read.0 ∙ ap (λ least. Total t' least m) ends.0 ∙ ap (Total t' l') ends.1
says_one (says_total x terms bounds) (says_objective y terms') = absurd (apart 0 x y refl)
says_one (says_total x terms bounds) (says_new_group y) = absurd (apart 0 x y refl)
says_one (says_objective x terms) (says_header y) = absurd (apart 0 x y refl)
says_one (says_objective x terms) (says_variable y word set) = absurd (apart 0 x y refl)
says_one (says_objective x terms) (says_distinct y words) = absurd (apart 0 x y refl)
says_one (says_objective x terms) (says_among y counting) = absurd (apart 0 x y refl)
says_one (says_objective x terms) (says_sequence y number counting) = absurd (apart 0 x y refl)
says_one (says_objective x terms) (says_gcc y scope rows) = absurd (apart 0 x y refl)
says_one (says_objective x terms) (says_total y terms' bounds) = absurd (apart 0 x y refl)
says_one (says_objective {terms = t} x terms) (says_objective y terms') =
    let more = same_rest refl (same_rest x y) in
    ap Objective (terms_one (subst (λ texts. TermsThen texts t []) more terms) terms').0
says_one (says_objective x terms) (says_new_group y) = absurd (apart 0 x y refl)
says_one (says_new_group x) (says_header y) = absurd (apart 0 x y refl)
says_one (says_new_group x) (says_variable y word set) = absurd (apart 0 x y refl)
says_one (says_new_group x) (says_distinct y words) = absurd (apart 0 x y refl)
says_one (says_new_group x) (says_among y counting) = absurd (apart 0 x y refl)
says_one (says_new_group x) (says_sequence y number counting) = absurd (apart 0 x y refl)
says_one (says_new_group x) (says_gcc y scope rows) = absurd (apart 0 x y refl)
says_one (says_new_group x) (says_total y terms bounds) = absurd (apart 0 x y refl)
says_one (says_new_group x) (says_objective y terms) = absurd (apart 0 x y refl)
says_one (says_new_group x) (says_new_group y) = refl

-- no tokens say no statement
pub says_nothing : {s : Statement} → Says [] s → ⊥
says_nothing (says_header x) = apart_none refl x
says_nothing (says_variable x word set) = apart_none refl x
says_nothing (says_distinct x words) = apart_none refl x
says_nothing (says_among x counting) = apart_none refl x
says_nothing (says_sequence x number counting) = apart_none refl x
says_nothing (says_gcc x scope rows) = apart_none refl x
says_nothing (says_total x terms bounds) = apart_none refl x
says_nothing (says_objective x terms) = apart_none refl x
says_nothing (says_new_group x) = apart_none refl x
