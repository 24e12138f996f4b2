-- What among, sequence and gcc count, as it is read: names, sets and numbers, and rows up to the last token.
use Rattle.std.proofs.Common.{◌≡◌, ◌≢◌, ℕ, ◌<◌, List, [], ◌∷◌, ◌++◌, length, map, refl, sym, ap, subst, ◌∙◌, arith}
use Rattle.std.specs.Prelude.{codes}
use Rattle.std.proofs.lemmas.List.{append_assoc}
use Rattle.hk_text.specs.Numbers.{IsNumberUpTo}
use Rattle.hk_lines.specs.Limits.{above_limits}
use Rattle.hk_lines.specs.Phrases.{Values, Row, RangeThen, NamesThen, SetThen, AreCounting, RowThen, AreRows, last_row, more_rows}
use Rattle.hk_lines.specs.Shapes.{capped_values, capped_counting, capped_row}
use Rattle.hk_lines.specs.inside.Capped.{BeginsCapped, BeginsWithout, IsCapped, AreNone}
use Rattle.hk_lines.specs.inside.Pieces.{IsWholeRange}
use Rattle.hk_text.proofs.TokenTexts.{apart_none, same_rest}
use Rattle.hk_lines.proofs.CountPhrases.{range_one, row_one, row_shorter}
use Rattle.hk_lines.proofs.Lists.{ReadsOn, capped_more}
use Rattle.hk_lines.proofs.Phrasing.{set_one}
use Rattle.hk_lines.proofs.ScopeNames.{names_one}

-- a range with nothing after it
pub whole_range_said : {texts rest : List (List ℕ)} {values : Values} → BeginsCapped RangeThen capped_values texts values rest → rest ≡ [] → IsCapped IsWholeRange capped_values texts values
whole_range_said {texts = texts} begins over = record { exact = begins.exact; phrase = subst (RangeThen texts begins.exact) over begins.phrase; is_capped = begins.is_capped }

-- no range at all, or one with more after it
pub no_range_whole : {texts : List (List ℕ)} → BeginsWithout RangeThen texts → AreNone IsWholeRange texts
no_range_whole none values range = none values [] range

pub range_goes_on : {texts rest : List (List ℕ)} {values : Values} → BeginsCapped RangeThen capped_values texts values rest → rest ≢ [] → AreNone IsWholeRange texts
range_goes_on begins further values range = further (range_one begins.phrase range).1

-- names, a set and numbers that were read
pub counting_said : {texts names after rest : List (List ℕ)} {set : List Values} {counts : Values}
    → NamesThen texts names after → BeginsCapped SetThen (map capped_values) after set rest → IsCapped IsWholeRange capped_values rest counts
    → IsCapped AreCounting capped_counting texts (record { names = names; set = set; least = counts.first; most = counts.last })
counting_said {names = names} {after = after} {rest = rest} scope set counts = record {
  exact = record { names = names; set = set.exact; least = counts.exact.first; most = counts.exact.last };
  phrase = record { after = after; counts = rest; scope = scope; set = set.phrase; bounds = counts.phrase };
  is_capped = λ i. record { names = names; set = set.is_capped i; least = (counts.is_capped i).first; most = (counts.is_capped i).last };
}

pub no_set_counting : {texts names after : List (List ℕ)} → NamesThen texts names after → BeginsWithout SetThen after → AreNone AreCounting texts
no_set_counting scope none counting x = none counting.set x.counts (subst (λ ts. SetThen ts counting.set x.counts) (names_one x.scope scope).1 x.set)

pub no_counts_counting : {texts names after rest : List (List ℕ)} {set : List Values}
    → NamesThen texts names after → BeginsCapped SetThen (map capped_values) after set rest → AreNone IsWholeRange rest → AreNone AreCounting texts
no_counts_counting scope set none counting x =
    let same = set_one (subst (λ ts. SetThen ts counting.set x.counts) (names_one x.scope scope).1 x.set) set.phrase in
    none _ (subst (λ ts. RangeThen ts (record { first = counting.least; last = counting.most }) []) same.1 x.bounds)

-- a row that was read
pub row_said : {texts after counts rest : List (List ℕ)} {digits : List ℕ} {value : ℕ} {bounds : Values}
    → texts ≡ digits ∷ after → IsNumberUpTo digits above_limits value → after ≡ codes ":" ∷ counts → BeginsCapped RangeThen capped_values counts bounds rest
    → BeginsCapped RowThen capped_row texts (record { value = value; digits = digits; least = bounds.first; most = bounds.last }) rest
row_said {counts = counts} {digits = digits} parts number colon bounds = record {
  exact = record { value = number.n; digits = digits; least = bounds.exact.first; most = bounds.exact.last };
  phrase = record { counts = counts; parts = parts ∙ ap (λ ts. digits ∷ ts) colon; value_is = number.number; bounds = bounds.phrase };
  is_capped = λ i. record { value = number.value_is i; digits = digits; least = (bounds.is_capped i).first; most = (bounds.is_capped i).last };
}

pub no_row_counts : {texts after counts : List (List ℕ)} {digits : List ℕ} → texts ≡ digits ∷ after → after ≡ codes ":" ∷ counts → BeginsWithout RangeThen counts → BeginsWithout RowThen texts
no_row_counts parts colon none row rest x =
    none _ rest (subst (λ ts. RangeThen ts (record { first = row.least; last = row.most }) rest) (same_rest (same_rest parts x.parts) colon) x.bounds)

-- rows as a phrase that ends with the tokens
abbrev pub RowsThen : List (List ℕ) → List Row → List (List ℕ) → Type 0
RowsThen texts rows rest = AreRows texts rows

-- where a row and a comma are read, rows go on after the comma
rows_go_on : {left more : List (List ℕ)} {row : Row} {rows : List Row} → RowThen left row (codes "," ∷ more) → AreRows left rows → (xs : List Row) × AreRows more xs
rows_go_on row (last_row x) = absurd (apart_none refl (row_one x row).1)
rows_go_on row (more_rows {rows = xs} x later) = (xs, subst (λ ts. AreRows ts xs) (same_rest refl (row_one x row).1) later)

-- a row more, and a comma after it
pub rows_more : {whole left after more : List (List ℕ)} {done longer : List Row} {row : Row}
    → ReadsOn RowsThen capped_row whole done left → BeginsCapped RowThen capped_row left row after → longer ≡ done ++ row ∷ [] → after ≡ codes "," ∷ more → ReadsOn RowsThen capped_row whole longer more
rows_more {whole = whole} {left = left} {more = more} {done = done} {row = row} so_far begins pushed comma =
    let first : RowThen left begins.exact (codes "," ∷ more) = subst (RowThen left begins.exact) comma begins.phrase in
    record {
      exact = so_far.exact ++ begins.exact ∷ [];
      is_capped = pushed ∙ capped_more capped_row done so_far.exact row begins.exact so_far.is_capped begins.is_capped;
      onward = λ xs rest phrase. subst (AreRows whole) (sym (append_assoc so_far.exact (begins.exact ∷ []) xs)) (so_far.onward (begins.exact ∷ xs) rest (more_rows first phrase));
      back = λ rows rest phrase. let before = so_far.back rows rest phrase in rows_go_on first before.1;
    }

-- after a row and a comma, less is left
pub rows_smaller : {left after more : List (List ℕ)} {row : Row} → BeginsCapped RowThen capped_row left row after → after ≡ codes "," ∷ more → length more < length left
rows_smaller begins comma = let less = row_shorter begins.phrase in let longer = ap length comma in omega (arith, less, longer)

-- a row more, and nothing after it
pub rows_last : {whole left after : List (List ℕ)} {done longer : List Row} {row : Row}
    → ReadsOn RowsThen capped_row whole done left → BeginsCapped RowThen capped_row left row after → longer ≡ done ++ row ∷ [] → after ≡ [] → IsCapped AreRows (map capped_row) whole longer
rows_last {left = left} {done = done} {row = row} so_far begins pushed over = record {
  exact = so_far.exact ++ begins.exact ∷ [];
  phrase = so_far.onward (begins.exact ∷ []) [] (last_row (subst (RowThen left begins.exact) over begins.phrase));
  is_capped = pushed ∙ capped_more capped_row done so_far.exact row begins.exact so_far.is_capped begins.is_capped;
}

no_first : {left : List (List ℕ)} {rows : List Row} → BeginsWithout RowThen left → AreRows left rows → ⊥
no_first none (last_row {row = row} x) = none row [] x
no_first none (more_rows {more = more} {row = row} x later) = none row (codes "," ∷ more) x

-- what is left begins with no row, so the whole is no rows
pub rows_none : {whole left : List (List ℕ)} {done : List Row} → ReadsOn RowsThen capped_row whole done left → BeginsWithout RowThen left → AreNone AreRows whole
rows_none so_far none rows x = let before = so_far.back rows [] x in no_first none before.1

no_end : {left after : List (List ℕ)} {row : Row} {rows : List Row} → RowThen left row after → after ≢ [] → ((others : List (List ℕ)) → after ≡ codes "," ∷ others → ⊥) → AreRows left rows → ⊥
no_end row further no_comma (last_row x) = further (row_one row x).1
no_end row further no_comma (more_rows {more = more} x later) = no_comma more (row_one row x).1

-- after a row comes something other than a comma, so the whole is no rows
pub rows_stop : {whole left after : List (List ℕ)} {done : List Row} {row : Row}
    → ReadsOn RowsThen capped_row whole done left → BeginsCapped RowThen capped_row left row after → after ≢ [] → ((others : List (List ℕ)) → after ≡ codes "," ∷ others → ⊥) → AreNone AreRows whole
rows_stop so_far begins further no_comma rows x = let before = so_far.back rows [] x in no_end begins.phrase further no_comma before.1
