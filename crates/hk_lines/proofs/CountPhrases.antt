-- What among, sequence and gcc count has one reading: names, sets and numbers, and rows.
use Rattle.std.proofs.Common.{◌≡◌, ℕ, ◌<◌, List, [], ◌∷◌, length, refl, ap, subst, ◌∙◌, arith}
use Rattle.hk_lines.specs.Phrases.{Values, Row, Counting, RangeThen, SetThen, AreCounting, RowThen, AreRows, last_row, more_rows}
use Rattle.hk_text.proofs.TokenTexts.{apart_none, same_first, same_rest}
use Rattle.hk_lines.proofs.Phrasing.{first_number_one, set_one}
use Rattle.hk_lines.proofs.ScopeNames.{names_one}

-- tokens begin with one range
pub range_one : {texts rest rest' : List (List ℕ)} {v w : Values} → RangeThen texts v rest → RangeThen texts w rest' → (v ≡ w) × (rest ≡ rest')
range_one {v = v} {w = w} x y =
    let ends = same_rest refl (same_rest x.parts y.parts) in
    let first : v.first ≡ w.first = first_number_one x.parts y.parts x.from_is y.from_is in
    let last : v.last ≡ w.last = first_number_one refl ends x.to_is y.to_is in
    (λ i. record { first = first i; last = last i }, same_rest refl ends)

-- texts are one counting
pub counting_one : {texts : List (List ℕ)} {c d : Counting} → AreCounting texts c → AreCounting texts d → c ≡ d
counting_one {c = c} {d = d} x y =
    let names = names_one x.scope y.scope in
    let set = set_one (subst (λ ts. SetThen ts c.set x.counts) names.1 x.set) y.set in
    let bounds = range_one (subst (λ ts. RangeThen ts (record { first = c.least; last = c.most }) []) set.1 x.bounds) y.bounds in
    λ i. record { names = names.0 i; set = set.0 i; least = (bounds.0 i).first; most = (bounds.0 i).last }

-- tokens begin with one row
pub row_one : {texts rest rest' : List (List ℕ)} {r s : Row} → RowThen texts r rest → RowThen texts s rest' → (r ≡ s) × (rest ≡ rest')
row_one {rest = rest} {r = r} {s = s} x y =
    let counts = same_rest refl (same_rest x.parts y.parts) in
    let digits : r.digits ≡ s.digits = same_first x.parts y.parts in
    let value : r.value ≡ s.value = first_number_one x.parts y.parts x.value_is y.value_is in
    let bounds = range_one (subst (λ ts. RangeThen ts (record { first = r.least; last = r.most }) rest) counts x.bounds) y.bounds in
    (λ i. record { value = value i; digits = digits i; least = (bounds.0 i).first; most = (bounds.0 i).last }, bounds.1)

-- texts are one list of rows
pub rows_one : {texts : List (List ℕ)} {rows rows' : List Row} → AreRows texts rows → AreRows texts rows' → rows ≡ rows'
rows_one (last_row x) (last_row y) = ap (λ row. row ∷ []) (row_one x y).0
rows_one (last_row x) (more_rows y later) = absurd (apart_none refl (row_one x y).1)
rows_one (more_rows x later) (last_row y) = absurd (apart_none refl (row_one y x).1)
rows_one (more_rows {rows = rows} x later) (more_rows {row = row} y later') =
    let both = row_one x y in
    let further = rows_one (subst (λ ts. AreRows ts rows) (same_rest refl both.1) later) later' in
    ap (λ first. first ∷ rows) both.0 ∙ ap (λ others. row ∷ others) further

-- a range and a row take a text
pub range_shorter : {texts rest : List (List ℕ)} {values : Values} → RangeThen texts values rest → length rest < length texts
range_shorter range = let long = ap length range.parts in omega (arith, long)

pub row_shorter : {texts rest : List (List ℕ)} {row : Row} → RowThen texts row rest → length rest < length texts
row_shorter row = let long = ap length row.parts in let less = range_shorter row.bounds in omega (arith, long, less)
