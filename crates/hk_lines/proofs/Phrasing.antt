-- A phrase has at most one meaning: tokens begin with one value of it, and go on with one rest.
use Rattle.std.proofs.Common.{◌≡◌, ℕ, ℤ, pos, negsuc, suc, List, ◌∷◌, refl, ap, subst}
use Rattle.std.specs.Prelude.{codes}
use Rattle.hk_text.specs.Numbers.{IsNumber}
use Rattle.hk_text.proofs.Digits.{IsNumber-one}
use Rattle.hk_lines.specs.Phrases.{Values, Term, SignedThen, then_plain, then_minus, ItemsThen, last_number, last_range, more_number, more_range, SetThen, set_range, set_empty, set_items, TermsThen, last_term, more_term, BoundsThen, then_bounds}
use Rattle.hk_text.proofs.TokenTexts.{apart, same_first, same_rest, mark_no_number}

-- texts that are one write one number
pub number_one : {x y : List ℕ} {m n : ℕ} → x ≡ y → IsNumber x m → IsNumber y n → m ≡ n
number_one {y = y} {m = m} {n = n} same one other = IsNumber-one y m n (subst (λ text. IsNumber text m) same one) other

-- the numbers that the first texts write are one
pub first_number_one : {texts xs ys : List (List ℕ)} {x y : List ℕ} {m n : ℕ} → texts ≡ x ∷ xs → texts ≡ y ∷ ys → IsNumber x m → IsNumber y n → m ≡ n
first_number_one x y one other = number_one (same_first x y) one other

-- tokens begin with one signed number
pub signed_one : {texts rest rest' : List (List ℕ)} {value value' : ℤ} → SignedThen texts value rest → SignedThen texts value' rest' → (value ≡ value') × (rest ≡ rest')
signed_one (then_plain x number) (then_plain y number') = (ap pos (first_number_one x y number number'), same_rest x y)
signed_one (then_plain x number) (then_minus y number') = absurd (mark_no_number (same_first x y) refl number)
signed_one (then_minus x number) (then_plain y number') = absurd (mark_no_number (same_first y x) refl number')
signed_one (then_minus {n = n} x number) (then_minus {n = n'} y number') =
    let next = same_rest x y in
    let same : suc n ≡ suc n' = first_number_one refl next number number' in
    let less : n ≡ n' = cc in
    (ap negsuc less, same_rest refl next)

-- a range and further ones are determined by its bounds and by those
more_items : {m n m' n' : ℕ} {items items' : List Values} → m ≡ m' → n ≡ n' → items ≡ items' → record { first = m; last = n } ∷ items ≡ record { first = m'; last = n' } ∷ items'
more_items first last items = cc

-- a term and further ones are determined by its coefficient, its name and those
more_terms : {coef coef' : ℤ} {name name' : List ℕ} {terms terms' : List Term} → coef ≡ coef' → name ≡ name' → terms ≡ terms' → record { coef = coef; name = name } ∷ terms ≡ record { coef = coef'; name = name' } ∷ terms'
more_terms coefs names terms = cc

-- tokens begin with one list of items
pub items_one : {texts rest rest' : List (List ℕ)} {items items' : List Values} → ItemsThen texts items rest → ItemsThen texts items' rest' → (items ≡ items') × (rest ≡ rest')
items_one (last_number x number) (last_number y number') =
    let same = first_number_one x y number number' in
    (more_items same same refl, same_rest refl (same_rest x y))
items_one (last_number x number) (last_range y from to) = absurd (apart 1 x y refl)
items_one (last_number x number) (more_number y number' later) = absurd (apart 1 x y refl)
items_one (last_number x number) (more_range y from to later) = absurd (apart 1 x y refl)
items_one (last_range x from to) (last_number y number) = absurd (apart 1 x y refl)
items_one (last_range x from to) (last_range y from' to') =
    let ends = same_rest refl (same_rest x y) in
    (more_items (first_number_one x y from from') (first_number_one refl ends to to') refl, same_rest refl (same_rest refl ends))
items_one (last_range x from to) (more_number y number later) = absurd (apart 1 x y refl)
items_one (last_range x from to) (more_range y from' to' later) = absurd (apart 3 x y refl)
items_one (more_number x number later) (last_number y number') = absurd (apart 1 x y refl)
items_one (more_number x number later) (last_range y from to) = absurd (apart 1 x y refl)
items_one (more_number {rest = rest} {items = items} x number later) (more_number y number' later') =
    let same = first_number_one x y number number' in
    let more = same_rest refl (same_rest x y) in
    let both = items_one (subst (λ texts. ItemsThen texts items rest) more later) later' in
    (more_items same same both.0, both.1)
items_one (more_number x number later) (more_range y from to later') = absurd (apart 1 x y refl)
items_one (more_range x from to later) (last_number y number) = absurd (apart 1 x y refl)
items_one (more_range x from to later) (last_range y from' to') = absurd (apart 3 x y refl)
items_one (more_range x from to later) (more_number y number later') = absurd (apart 1 x y refl)
items_one (more_range {rest = rest} {items = items} x from to later) (more_range y from' to' later') =
    let ends = same_rest refl (same_rest x y) in
    let more = same_rest refl (same_rest refl ends) in
    let both = items_one (subst (λ texts. ItemsThen texts items rest) more later) later' in
    (more_items (first_number_one x y from from') (first_number_one refl ends to to') both.0, both.1)

-- items don't begin with a closing brace
pub items_no_brace : {texts rest more : List (List ℕ)} {items : List Values} → ItemsThen texts items rest → texts ≡ codes "}" ∷ more → ⊥
items_no_brace (last_number x number) y = mark_no_number (same_first x y) refl number
items_no_brace (last_range x from to) y = mark_no_number (same_first x y) refl from
items_no_brace (more_number x number later) y = mark_no_number (same_first x y) refl number
items_no_brace (more_range x from to later) y = mark_no_number (same_first x y) refl from

-- tokens begin with one set
pub set_one : {texts rest rest' : List (List ℕ)} {set set' : List Values} → SetThen texts set rest → SetThen texts set' rest' → (set ≡ set') × (rest ≡ rest')
set_one (set_range x from to) (set_range y from' to') =
    let ends = same_rest refl (same_rest x y) in
    (more_items (first_number_one x y from from') (first_number_one refl ends to to') refl, same_rest refl ends)
set_one (set_range x from to) (set_empty y) = absurd (apart 1 x y refl)
set_one (set_range x from to) (set_items y items) = absurd (mark_no_number (same_first x y) refl from)
set_one (set_empty x) (set_range y from to) = absurd (apart 1 x y refl)
set_one (set_empty x) (set_empty y) = (refl, same_rest refl (same_rest x y))
set_one (set_empty x) (set_items y items) = absurd (items_no_brace items (same_rest y x))
set_one (set_items x items) (set_range y from to) = absurd (mark_no_number (same_first y x) refl from)
set_one (set_items x items) (set_empty y) = absurd (items_no_brace items (same_rest x y))
set_one (set_items {rest = rest} {items = set} x items) (set_items y items') = items_one (subst (λ texts. ItemsThen texts set rest) (same_rest x y) items) items'

-- tokens begin with one list of terms
pub terms_one : {texts rest rest' : List (List ℕ)} {terms terms' : List Term} → TermsThen texts terms rest → TermsThen texts terms' rest' → (terms ≡ terms') × (rest ≡ rest')
terms_one (last_term signed word) (last_term signed' word') =
    let both = signed_one signed signed' in
    let ends = same_rest refl both.1 in
    (more_terms both.0 (same_first refl ends) refl, same_rest refl (same_rest refl ends))
terms_one (last_term signed word) (more_term signed' word' later) = absurd (apart 2 refl (signed_one signed signed').1 refl)
terms_one (more_term signed word later) (last_term signed' word') = absurd (apart 2 refl (signed_one signed signed').1 refl)
terms_one (more_term {rest = rest} {terms = terms} signed word later) (more_term signed' word' later') =
    let both = signed_one signed signed' in
    let ends = same_rest refl both.1 in
    let more = same_rest refl (same_rest refl ends) in
    let further = terms_one (subst (λ texts. TermsThen texts terms rest) more later) later' in
    (more_terms both.0 (same_first refl ends) further.0, further.1)

-- tokens begin with one pair of bounds
pub bounds_one : {texts rest rest' : List (List ℕ)} {least most least' most' : ℤ} → BoundsThen texts least most rest → BoundsThen texts least' most' rest' → (least ≡ least') × (most ≡ most') × (rest ≡ rest')
bounds_one (then_bounds {rest = rest} {most = most} from to) (then_bounds from' to') =
    let first = signed_one from from' in
    let last = signed_one (subst (λ texts. SignedThen texts most rest) (same_rest refl first.1) to) to' in
    (first.0, last.0, last.1)
