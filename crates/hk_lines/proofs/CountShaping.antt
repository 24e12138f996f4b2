-- What the texts of a line say that begins with `among`, `sequence` or `gcc`.
use Rattle.std.proofs.Common.{◌≡◌, ℕ, List, ◌∷◌, map, refl, ap, subst, ◌∙◌}
use Rattle.std.specs.Prelude.{codes}
use Rattle.hk_text.specs.Numbers.{IsNumber}
use Rattle.hk_lines.specs.Phrases.{Row, Counting, NamesThen, AreCounting, AreRows}
use Rattle.hk_lines.specs.inside.Pieces.{NumberThen}
use Rattle.hk_lines.specs.Shapes.{SayNothing, capped, capped_counting, capped_row}
use Rattle.hk_lines.specs.inside.Capped.{BeginsCapped, BeginsWithout, IsCapped, AreNone}
use Rattle.hk_lines.specs.Statements.{Statement, Among, Sequence, Gcc, Says, says_header, says_variable, says_distinct, says_among, says_sequence, says_gcc, says_total, says_objective, says_new_group}
use Rattle.hk_text.proofs.TokenTexts.{apart, same_rest}
use Rattle.hk_lines.proofs.ScopeNames.{names_one}
use Rattle.hk_lines.proofs.Shaping.{SayCapped}

-- what among counts
record AmongParts (texts : List (List ℕ)) : Type 0 where
  inner : List (List ℕ)
  counting : Counting
  parts : texts ≡ codes "(" ∷ inner
  phrase : AreCounting inner counting

among_parts : {all texts : List (List ℕ)} {statement : Statement} → Says all statement → all ≡ codes "among" ∷ texts → AmongParts texts
among_parts (says_header x) is = absurd (apart 0 x is refl)
among_parts (says_variable x word phrase) is = absurd (apart 0 x is refl)
among_parts (says_distinct x words) is = absurd (apart 0 x is refl)
among_parts (says_among {more = more} {counting = counting} x phrase) is = record { inner = more; counting = counting; parts = same_rest is x; phrase = phrase }
among_parts (says_sequence x number counting) is = absurd (apart 0 x is refl)
among_parts (says_gcc x scope rows) is = absurd (apart 0 x is refl)
among_parts (says_total x terms bounds) is = absurd (apart 0 x is refl)
among_parts (says_objective x terms) is = absurd (apart 0 x is refl)
among_parts (says_new_group x) is = absurd (apart 0 x is refl)

-- the window of a sequence and what it counts
record SequenceParts (texts : List (List ℕ)) : Type 0 where
  digits : List ℕ
  window : ℕ
  inner : List (List ℕ)
  counting : Counting
  parts : texts ≡ digits ∷ codes "(" ∷ inner
  number : IsNumber digits window
  phrase : AreCounting inner counting

sequence_parts : {all texts : List (List ℕ)} {statement : Statement} → Says all statement → all ≡ codes "sequence" ∷ texts → SequenceParts texts
sequence_parts (says_header x) is = absurd (apart 0 x is refl)
sequence_parts (says_variable x word phrase) is = absurd (apart 0 x is refl)
sequence_parts (says_distinct x words) is = absurd (apart 0 x is refl)
sequence_parts (says_among x counting) is = absurd (apart 0 x is refl)
sequence_parts (says_sequence {more = more} {digits = digits} {window = window} {counting = counting} x number phrase) is =
    record { digits = digits; window = window; inner = more; counting = counting; parts = same_rest is x; number = number; phrase = phrase }
sequence_parts (says_gcc x scope rows) is = absurd (apart 0 x is refl)
sequence_parts (says_total x terms bounds) is = absurd (apart 0 x is refl)
sequence_parts (says_objective x terms) is = absurd (apart 0 x is refl)
sequence_parts (says_new_group x) is = absurd (apart 0 x is refl)

-- the names and the rows of a gcc
record GccParts (texts : List (List ℕ)) : Type 0 where
  inner : List (List ℕ)
  after : List (List ℕ)
  names : List (List ℕ)
  rows : List Row
  parts : texts ≡ codes "(" ∷ inner
  scope : NamesThen inner names after
  phrase : AreRows after rows

gcc_parts : {all texts : List (List ℕ)} {statement : Statement} → Says all statement → all ≡ codes "gcc" ∷ texts → GccParts texts
gcc_parts (says_header x) is = absurd (apart 0 x is refl)
gcc_parts (says_variable x word phrase) is = absurd (apart 0 x is refl)
gcc_parts (says_distinct x words) is = absurd (apart 0 x is refl)
gcc_parts (says_among x counting) is = absurd (apart 0 x is refl)
gcc_parts (says_sequence x number counting) is = absurd (apart 0 x is refl)
gcc_parts (says_gcc {more = more} {after = after} {names = names} {rows = rows} x scope phrase) is =
    record { inner = more; after = after; names = names; rows = rows; parts = same_rest is x; scope = scope; phrase = phrase }
gcc_parts (says_total x terms bounds) is = absurd (apart 0 x is refl)
gcc_parts (says_objective x terms) is = absurd (apart 0 x is refl)
gcc_parts (says_new_group x) is = absurd (apart 0 x is refl)

module _ {texts : List (List ℕ)} where
  -- `among (NAME, NAME) SET LEAST..MOST` says how many variables take values of a set
  pub among_said : {inner : List (List ℕ)} {counting : Counting} → texts ≡ codes "(" ∷ inner → IsCapped AreCounting capped_counting inner counting → SayCapped (codes "among" ∷ texts) (Among counting)
  among_said opening counting = (Among counting.exact, says_among (ap (λ ts. codes "among" ∷ ts) opening) counting.phrase, ap Among counting.is_capped)

  -- nothing is said without what is counted
  pub no_among : {inner : List (List ℕ)} → texts ≡ codes "(" ∷ inner → AreNone AreCounting inner → SayNothing (codes "among" ∷ texts)
  no_among opening none statement says =
      let parts = among_parts says refl in
      none parts.counting (subst (λ ts. AreCounting ts parts.counting) (same_rest parts.parts opening) parts.phrase)

  -- `sequence WINDOW (NAME, NAME) SET LEAST..MOST` says the same of each window
  pub sequence_said : {after inner : List (List ℕ)} {window : ℕ} {counting : Counting} → BeginsCapped NumberThen capped texts window after → after ≡ codes "(" ∷ inner
      → IsCapped AreCounting capped_counting inner counting → SayCapped (codes "sequence" ∷ texts) (Sequence window counting)
  sequence_said number opening counting = (
    Sequence number.exact counting.exact,
    says_sequence (ap (λ ts. codes "sequence" ∷ ts) (number.phrase.parts ∙ ap (λ ts. number.phrase.text ∷ ts) opening)) number.phrase.number counting.phrase,
    λ i. Sequence (number.is_capped i) (counting.is_capped i),
  )

  -- nothing is said without a window, a scope, or what is counted
  pub no_window : BeginsWithout NumberThen texts → SayNothing (codes "sequence" ∷ texts)
  no_window none statement says =
      let parts = sequence_parts says refl in
      none parts.window _ (record { text = parts.digits; parts = parts.parts; number = parts.number })

  pub no_window_scope : {after : List (List ℕ)} {window : ℕ} → BeginsCapped NumberThen capped texts window after → ((inner : List (List ℕ)) → after ≡ codes "(" ∷ inner → ⊥) → SayNothing (codes "sequence" ∷ texts)
  no_window_scope number none statement says =
      let parts = sequence_parts says refl in
      none parts.inner (same_rest number.phrase.parts parts.parts)

  pub no_sequence : {after inner : List (List ℕ)} {window : ℕ} → BeginsCapped NumberThen capped texts window after → after ≡ codes "(" ∷ inner → AreNone AreCounting inner → SayNothing (codes "sequence" ∷ texts)
  no_sequence number opening none statement says =
      let parts = sequence_parts says refl in
      let same = same_rest (same_rest number.phrase.parts parts.parts) opening in
      none parts.counting (subst (λ ts. AreCounting ts parts.counting) same parts.phrase)

  -- `gcc (NAME, NAME) ROW, ROW` says how many variables take each of some values
  pub gcc_said : {inner rest names : List (List ℕ)} {rows : List Row} → texts ≡ codes "(" ∷ inner → NamesThen inner names rest → IsCapped AreRows (map capped_row) rest rows → SayCapped (codes "gcc" ∷ texts) (Gcc names rows)
  gcc_said {names = names} opening scope rows = (Gcc names rows.exact, says_gcc (ap (λ ts. codes "gcc" ∷ ts) opening) scope rows.phrase, ap (Gcc names) rows.is_capped)

  -- nothing is said without names and rows
  pub no_gcc_names : {inner : List (List ℕ)} → texts ≡ codes "(" ∷ inner → BeginsWithout NamesThen inner → SayNothing (codes "gcc" ∷ texts)
  no_gcc_names opening none statement says =
      let parts = gcc_parts says refl in
      none parts.names parts.after (subst (λ ts. NamesThen ts parts.names parts.after) (same_rest parts.parts opening) parts.scope)

  pub no_gcc_rows : {inner rest names : List (List ℕ)} → texts ≡ codes "(" ∷ inner → NamesThen inner names rest → AreNone AreRows rest → SayNothing (codes "gcc" ∷ texts)
  no_gcc_rows opening scope none statement says =
      let parts = gcc_parts says refl in
      let same = (names_one (subst (λ ts. NamesThen ts parts.names parts.after) (same_rest parts.parts opening) parts.scope) scope).1 in
      none parts.rows (subst (λ ts. AreRows ts parts.rows) same parts.phrase)
