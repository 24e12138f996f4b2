-- Whether texts are what among, sequence or gcc counts is decided.
use Rattle.std.proofs.Common.{◌≡◌, ℕ, zero, suc, ◌<◌, ◌⊎◌, inl, inr, List, [], ◌∷◌, length, refl, ap, subst, ◌∙◌, arith}
use Rattle.std.specs.Prelude.{codes}
use Rattle.std.proofs.Math.Decide.{map_dec, dec_lt}
use Rattle.hk_text.specs.Lexemes.{IsWord}
use Rattle.hk_text.specs.Numbers.{IsNumber}
use Rattle.hk_text.proofs.Digits.{IsNumber-one}
use Rattle.hk_text.proofs.Deciding.{Begins, dec_begins, After, dec_after, dec_both, dec_either, dec_empty, dec_word, dec_number}
use Rattle.hk_lines.specs.Phrases.{Values, Row, Counting, RangeThen, NamesThen, last_name, more_name, SetThen, AreCounting, RowThen, AreRows, last_row, more_rows}
use Rattle.hk_lines.specs.inside.Pieces.{NumberThen, WordThen}
use Rattle.hk_lines.proofs.CountPhrases.{row_shorter}
use Rattle.hk_lines.proofs.Finding.{Finds, Decision, dec_number_then, dec_set}
use Rattle.hk_lines.proofs.ListPhrases.{ListThen, last_element, more_elements, dec_list}
use Rattle.hk_lines.proofs.TermLists.{word_shorter}

-- the texts of a range, from part to part
abbrev RangeTexts : (Values → List (List ℕ) → Type 0) → List (List ℕ) → Type 0
RangeTexts K texts = Finds NumberThen (λ m. After (codes "..") (Finds NumberThen (λ n. K (record { first = m; last = n })))) texts

-- whether texts begin with a range so
pub dec_range : Decision (Finds RangeThen)
dec_range K each texts = map_dec there (λ some. back some.0 some.1 some.2 some.3)
    (dec_number_then _ (λ m. dec_after (codes "..") _ (dec_number_then _ (λ n. each (record { first = m; last = n })))) texts)
  where
    there : RangeTexts K texts → Finds RangeThen K texts
    there (m, after, number, (between, dots, (n, rest, other, k))) = (
      record { first = m; last = n },
      rest,
      record {
        from = number.text;
        to = other.text;
        parts = number.parts ∙ ap (λ r. number.text ∷ r) (dots ∙ ap (λ r. codes ".." ∷ r) other.parts);
        from_is = number.number;
        to_is = other.number;
      },
      k,
    )

    back : (values : Values) (rest : List (List ℕ)) → RangeThen texts values rest → K values rest → RangeTexts K texts
    back values rest range k = (
      values.first,
      codes ".." ∷ range.to ∷ rest,
      record { text = range.from; parts = range.parts; number = range.from_is },
      (range.to ∷ rest, refl, (values.last, rest, record { text = range.to; parts = refl; number = range.to_is }, k)),
    )

-- whether texts begin with a word so
dec_word_then : Decision (Finds WordThen)
dec_word_then K each texts = map_dec
    (λ some. (some.0, some.1, record { parts = some.2; is_word = some.3.0 }, some.3.1))
    (λ some. (some.0, some.1, some.2.parts, (some.2.is_word, some.3)))
    (dec_begins (λ word rest. IsWord word × K word rest) (λ word rest. dec_both (dec_word word) (each word rest)) texts)

listed_names : {texts rest names : List (List ℕ)} → NamesThen texts names rest → ListThen WordThen (codes ")") texts names rest
listed_names (last_name x word) = last_element (record { parts = x; is_word = word })
listed_names (more_name x word later) = more_elements (record { parts = x; is_word = word }) (listed_names later)

names_listed : {texts rest names : List (List ℕ)} → ListThen WordThen (codes ")") texts names rest → NamesThen texts names rest
names_listed (last_element x) = last_name x.parts x.is_word
names_listed (more_elements x later) = more_name x.parts x.is_word (names_listed later)

-- whether texts begin with names so
pub dec_names : Decision (Finds NamesThen)
dec_names K each texts = map_dec
    (λ some. (some.0, some.1, names_listed some.2, some.3))
    (λ some. (some.0, some.1, listed_names some.2, some.3))
    (dec_list (λ texts rest x word. word_shorter word) dec_word_then K each texts)

-- the texts of a counting, from part to part
abbrev CountingTexts : List (List ℕ) → Type 0
CountingTexts texts = Finds NamesThen (λ names. Finds SetThen (λ set. Finds RangeThen (λ values rest. rest ≡ []))) texts

-- whether texts are a counting
pub dec_counting : (texts : List (List ℕ)) → Dec ((counting : Counting) × AreCounting texts counting)
dec_counting texts = map_dec there (λ some. back some.0 some.1)
    (dec_names _ (λ names. dec_set _ (λ set. dec_range _ (λ values. dec_empty))) texts)
  where
    there : CountingTexts texts → (counting : Counting) × AreCounting texts counting
    there (names, after, scope, (set, counts, set_is, (values, rest, range, over))) = (
      record { names = names; set = set; least = values.first; most = values.last },
      record { after = after; counts = counts; scope = scope; set = set_is; bounds = subst (RangeThen counts values) over range },
    )

    back : (counting : Counting) → AreCounting texts counting → CountingTexts texts
    back counting x = (counting.names, x.after, x.scope, (counting.set, x.counts, x.set, (record { first = counting.least; last = counting.most }, [], x.bounds, refl)))

-- what follows the digits of a row
abbrev RowRest : (Row → List (List ℕ) → Type 0) → List ℕ → List (List ℕ) → Type 0
RowRest K digits counts = (n : ℕ) × IsNumber digits n × Finds RangeThen (λ values. K (record { value = n; digits = digits; least = values.first; most = values.last })) counts

-- whether texts begin with a row so
pub dec_row : Decision (Finds RowThen)
dec_row K each texts = map_dec there (λ some. back some.0 some.1 some.2 some.3)
    (dec_begins (λ digits. After (codes ":") (RowRest K digits)) (λ digits. dec_after (codes ":") (RowRest K digits) (λ counts. by digits counts (dec_number digits))) texts)
  where
    by : (digits : List ℕ) (counts : List (List ℕ)) → Dec ((n : ℕ) × IsNumber digits n) → Dec (RowRest K digits counts)
    by digits counts (yes number) = map_dec
        (λ found. (number.0, number.1, found))
        (λ some. subst (λ n. Finds RangeThen (λ values. K (record { value = n; digits = digits; least = values.first; most = values.last })) counts) (IsNumber-one digits some.0 number.0 some.1 number.1) some.2)
        (dec_range _ (λ values. each (record { value = number.0; digits = digits; least = values.first; most = values.last })) counts)
    by digits counts (no none) = no (λ some. none (some.0, some.1))

    there : Begins (λ digits. After (codes ":") (RowRest K digits)) texts → Finds RowThen K texts
    there (digits, after, parts, (counts, colon, (n, number, (values, rest, range, k)))) = (
      record { value = n; digits = digits; least = values.first; most = values.last },
      rest,
      record { counts = counts; parts = parts ∙ ap (λ r. digits ∷ r) colon; value_is = number; bounds = range },
      k,
    )

    back : (row : Row) (rest : List (List ℕ)) → RowThen texts row rest → K row rest → Begins (λ digits. After (codes ":") (RowRest K digits)) texts
    back row rest x k = (row.digits, codes ":" ∷ x.counts, x.parts, (x.counts, refl, (row.value, x.value_is, (record { first = row.least; last = row.most }, rest, x.bounds, k))))

-- what follows a row: nothing, or a comma and rows of fewer texts
abbrev RowEnds : ℕ → Row → List (List ℕ) → Type 0
RowEnds fuel row after = (after ≡ []) ⊎ After (codes ",") (λ more. (length more < fuel) × ((rows : List Row) × AreRows more rows)) after

from_row : (fuel : ℕ) (texts : List (List ℕ)) → Finds RowThen (RowEnds fuel) texts → (rows : List Row) × AreRows texts rows
from_row fuel texts (row, after, x, inl over) = (row ∷ [], last_row (subst (RowThen texts row) over x))
from_row fuel texts (row, after, x, inr (more, same, (short, (rows, later)))) = (row ∷ rows, more_rows (subst (RowThen texts row) same x) later)

to_row : (fuel : ℕ) (texts : List (List ℕ)) → length texts < suc fuel → (rows : List Row) → AreRows texts rows → Finds RowThen (RowEnds fuel) texts
to_row fuel texts short rows (last_row {row = row} x) = (row, [], x, inl refl)
to_row fuel texts short rows (more_rows {more = more} {row = row} {rows = later} x others) =
    let long = row_shorter x in
    (row, codes "," ∷ more, x, inr (more, refl, (omega (arith, long, short), (later, others))))

-- whether texts are rows, where it is decided whether fewer texts are
later_rows : (fuel : ℕ) → ((texts : List (List ℕ)) → length texts < fuel → Dec ((rows : List Row) × AreRows texts rows)) → (more : List (List ℕ)) → Dec (length more < fuel)
    → Dec ((length more < fuel) × ((rows : List Row) × AreRows more rows))
later_rows fuel fewer more (yes less) = map_dec (λ some. (less, some)) (λ both. both.1) (fewer more less)
later_rows fuel fewer more (no long) = no (λ both. long both.0)

row_ends : (fuel : ℕ) → ((texts : List (List ℕ)) → length texts < fuel → Dec ((rows : List Row) × AreRows texts rows)) → (row : Row) (after : List (List ℕ)) → Dec (RowEnds fuel row after)
row_ends fuel fewer row after = dec_either (dec_empty after) (dec_after (codes ",") _ (λ more. later_rows fuel fewer more (dec_lt (length more) fuel)) after)

dec_rows_within : (fuel : ℕ) (texts : List (List ℕ)) → length texts < fuel → Dec ((rows : List Row) × AreRows texts rows)
dec_rows_within zero texts short = absurd (omega arith)
dec_rows_within (suc fuel) texts short = map_dec (from_row fuel texts) (λ some. to_row fuel texts short some.0 some.1) (dec_row (RowEnds fuel) (row_ends fuel (dec_rows_within fuel)) texts)

-- whether texts are rows
pub dec_rows : (texts : List (List ℕ)) → Dec ((rows : List Row) × AreRows texts rows)
dec_rows texts = dec_rows_within (suc (length texts)) texts (omega arith)
