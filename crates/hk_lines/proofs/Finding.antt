-- Whether texts begin with a phrase whose value and rest have a property that is decided.
use Rattle.std.proofs.Common.{◌≡◌, ℕ, zero, suc, ◌<◌, ◌⊎◌, inl, inr, ℤ, pos, negsuc, List, [], ◌∷◌, length, refl, ap, subst, ◌∙◌, arith}
use Rattle.std.specs.Prelude.{codes}
use Rattle.std.proofs.Math.Decide.{map_dec, dec_lt}
use Rattle.hk_text.specs.Lexemes.{IsWord}
use Rattle.hk_text.specs.Numbers.{IsNumber}
use Rattle.hk_text.proofs.Digits.{IsNumber-one}
use Rattle.hk_lines.specs.Phrases.{Values, Term, SignedThen, then_plain, then_minus, ItemsThen, last_number, last_range, more_number, more_range, SetThen, set_range, set_empty, set_items, TermsThen, last_term, more_term, BoundsThen, then_bounds}
use Rattle.hk_lines.specs.inside.Pieces.{NumberThen}
use Rattle.hk_text.proofs.Deciding.{Begins, dec_begins, After, dec_after, dec_both, dec_either, dec_empty, dec_word, dec_number}

-- texts that begin with a phrase, where its value and the rest have a property
abbrev pub Finds : {X : Type 0} → (List (List ℕ) → X → List (List ℕ) → Type 0) → (X → List (List ℕ) → Type 0) → List (List ℕ) → Type 0
Finds {X} Phrase K texts = (x : X) × (rest : List (List ℕ)) × Phrase texts x rest × K x rest

-- whether texts begin with a number so
pub dec_number_then : (K : ℕ → List (List ℕ) → Type 0) → ((n : ℕ) (rest : List (List ℕ)) → Dec (K n rest)) → (texts : List (List ℕ)) → Dec (Finds NumberThen K texts)
dec_number_then K each texts = map_dec
    (λ some. (some.3.0, some.1, record { text = some.0; parts = some.2; number = some.3.1 }, some.3.2))
    (λ some. (some.2.text, some.1, some.2.parts, (some.0, some.2.number, some.3)))
    (dec_begins (λ text rest. (n : ℕ) × IsNumber text n × K n rest) (λ text rest. by text rest (dec_number text)) texts)
  where
    by : (text : List ℕ) (rest : List (List ℕ)) → Dec ((n : ℕ) × IsNumber text n) → Dec ((n : ℕ) × IsNumber text n × K n rest)
    by text rest (yes number) = map_dec
        (λ k. (number.0, number.1, k))
        (λ some. subst (λ n. K n rest) (IsNumber-one text some.0 number.0 some.1 number.1) some.2)
        (each number.0 rest)
    by text rest (no none) = no (λ some. none (some.0, some.1))

-- the property of a number with a sign, for the number after the sign
abbrev minus : (ℤ → List (List ℕ) → Type 0) → ℕ → List (List ℕ) → Type 0
minus K zero rest = ⊥
minus K (suc n) rest = K (negsuc n) rest

dec_minus : (K : ℤ → List (List ℕ) → Type 0) → ((z : ℤ) (rest : List (List ℕ)) → Dec (K z rest)) → (n : ℕ) (rest : List (List ℕ)) → Dec (minus K n rest)
dec_minus K each zero rest = no (λ none. none)
dec_minus K each (suc n) rest = each (negsuc n) rest

-- whether texts begin with a number with a sign so
pub dec_signed : (K : ℤ → List (List ℕ) → Type 0) → ((z : ℤ) (rest : List (List ℕ)) → Dec (K z rest)) → (texts : List (List ℕ)) → Dec (Finds SignedThen K texts)
dec_signed K each texts = map_dec to_signed (λ some. from_signed some.0 some.1 some.2 some.3)
    (dec_either
    (dec_number_then (λ n. K (pos n)) (λ n. each (pos n)) texts)
    (dec_after (codes "-") (Finds NumberThen (minus K)) (dec_number_then (minus K) (dec_minus K each)) texts))
  where
    below : (more rest : List (List ℕ)) (n : ℕ) → texts ≡ codes "-" ∷ more → NumberThen more n rest → minus K n rest → Finds SignedThen K texts
    below more rest zero same number k = absurd k
    below more rest (suc n) same number k = (negsuc n, rest, then_minus (same ∙ ap (λ r. codes "-" ∷ r) number.parts) number.number, k)

    to_signed : Finds NumberThen (λ n. K (pos n)) texts ⊎ After (codes "-") (Finds NumberThen (minus K)) texts → Finds SignedThen K texts
    to_signed (inl (n, rest, number, k)) = (pos n, rest, then_plain number.parts number.number, k)
    to_signed (inr (more, same, (n, rest, number, k))) = below more rest n same number k

    from_signed : (z : ℤ) (rest : List (List ℕ)) → SignedThen texts z rest → K z rest → Finds NumberThen (λ n. K (pos n)) texts ⊎ After (codes "-") (Finds NumberThen (minus K)) texts
    from_signed z rest (then_plain {text = text} {n = n} parts number) k = inl (n, rest, record { text = text; parts = parts; number = number }, k)
    from_signed z rest (then_minus {text = text} {n = n} parts number) k = inr (text ∷ rest, parts, (suc n, rest, record { text = text; parts = refl; number = number }, k))

-- whether texts begin with two bounds so
pub dec_bounds : (K : ℤ → ℤ → List (List ℕ) → Type 0) → ((least most : ℤ) (rest : List (List ℕ)) → Dec (K least most rest)) → (texts : List (List ℕ))
    → Dec ((least : ℤ) × (most : ℤ) × (rest : List (List ℕ)) × BoundsThen texts least most rest × K least most rest)
dec_bounds K each texts = map_dec
    (λ some. to_bounds some.0 some.1 some.2 some.3.0 some.3.1 some.3.2)
    (λ some. from_bounds some.0 some.1 some.2 some.3 some.4)
    (dec_signed
    (λ least. After (codes "..") (Finds SignedThen (K least)))
    (λ least. dec_after (codes "..") (Finds SignedThen (K least)) (dec_signed (K least) (each least)))
    texts)
  where
    to_bounds : (least : ℤ) (after : List (List ℕ)) → SignedThen texts least after → (more : List (List ℕ)) → after ≡ codes ".." ∷ more → Finds SignedThen (K least) more
        → (least : ℤ) × (most : ℤ) × (rest : List (List ℕ)) × BoundsThen texts least most rest × K least most rest
    to_bounds least after signed more same (most, rest, other, k) = (least, most, rest, then_bounds (subst (SignedThen texts least) same signed) other, k)

    from_bounds : (least most : ℤ) (rest : List (List ℕ)) → BoundsThen texts least most rest → K least most rest
        → Finds SignedThen (λ least. After (codes "..") (Finds SignedThen (K least))) texts
    from_bounds least most rest (then_bounds {more = more} signed other) k = (least, codes ".." ∷ more, signed, (more, refl, (most, rest, other, k)))

-- it is decided whether texts begin so, for each decided property
abbrev pub Decision : {X : Type 0} → ((X → List (List ℕ) → Type 0) → List (List ℕ) → Type 0) → Type 1
Decision {X} Found = (K : X → List (List ℕ) → Type 0) → ((x : X) (rest : List (List ℕ)) → Dec (K x rest)) → (texts : List (List ℕ)) → Dec (Found K texts)

-- fewer texts that begin with a phrase so
abbrev pub Shortly : {X : Type 0} → (List (List ℕ) → X → List (List ℕ) → Type 0) → ℕ → (X → List (List ℕ) → Type 0) → List (List ℕ) → Type 0
Shortly Phrase fuel K texts = (length texts < fuel) × Finds Phrase K texts

-- whether texts begin so, where it is decided by whether fewer texts do
pub by_length : {X : Type 0} (Phrase : List (List ℕ) → X → List (List ℕ) → Type 0)
    → ((fuel : ℕ) → Decision (Shortly Phrase fuel) → (K : X → List (List ℕ) → Type 0) → ((x : X) (rest : List (List ℕ)) → Dec (K x rest)) → (texts : List (List ℕ)) → length texts < suc fuel → Dec (Finds Phrase K texts))
    → (fuel : ℕ) → Decision (Shortly Phrase fuel)
by_length Phrase step zero K each texts = no (λ some. absurd (omega (arith, some.0)))
by_length {X = X} Phrase step (suc fuel) K each texts = by (dec_lt (length texts) (suc fuel)) (step fuel (by_length Phrase step fuel) K each texts)
  where
    by : Dec (length texts < suc fuel) → (length texts < suc fuel → Dec (Finds Phrase K texts)) → Dec (Shortly Phrase (suc fuel) K texts)
    by (yes short) at = map_dec (λ some. (short, some)) (λ some. some.1) (at short)
    by (no long) at = no (λ some. long some.0)

-- what follows an item of a set: the brace, or a comma and items of fewer texts
abbrev Ends : ℕ → (List Values → List (List ℕ) → Type 0) → ℕ → ℕ → List (List ℕ) → Type 0
Ends fuel K first last after =
    After (codes "}") (K (record { first = first; last = last } ∷ [])) after
    ⊎ After (codes ",") (Shortly ItemsThen fuel (λ items. K (record { first = first; last = last } ∷ items))) after

abbrev Item : ℕ → (List Values → List (List ℕ) → Type 0) → List (List ℕ) → Type 0
Item fuel K texts = Finds NumberThen (λ m after. Ends fuel K m m after ⊎ After (codes "..") (Finds NumberThen (Ends fuel K m)) after) texts

module _ (fuel : ℕ) (fewer : Decision (Shortly ItemsThen fuel)) (K : List Values → List (List ℕ) → Type 0) (each : (items : List Values) (rest : List (List ℕ)) → Dec (K items rest)) where
  dec_ends : (first last : ℕ) (after : List (List ℕ)) → Dec (Ends fuel K first last after)
  dec_ends first last after = dec_either
      (dec_after (codes "}") _ (each _) after)
      (dec_after (codes ",") _ (fewer (λ items. K (record { first = first; last = last } ∷ items)) (λ items. each (record { first = first; last = last } ∷ items))) after)

  dec_item : (texts : List (List ℕ)) → Dec (Item fuel K texts)
  dec_item texts = dec_number_then _ (λ m after. dec_either (dec_ends m m after) (dec_after (codes "..") _ (dec_number_then (Ends fuel K m) (dec_ends m)) after)) texts

  from_item : (texts : List (List ℕ)) → Item fuel K texts → Finds ItemsThen K texts
  from_item texts (m, after, number, inl (inl (rest, same, k))) =
      (record { first = m; last = m } ∷ [], rest, last_number (number.parts ∙ ap (λ r. number.text ∷ r) same) number.number, k)
  from_item texts (m, after, number, inl (inr (more, same, (short, (items, rest, others, k))))) =
      (record { first = m; last = m } ∷ items, rest, more_number (number.parts ∙ ap (λ r. number.text ∷ r) same) number.number others, k)
  from_item texts (m, after, number, inr (between, dots, (n, end, other, inl (rest, same, k)))) = (
    record { first = m; last = n } ∷ [],
    rest,
    last_range (number.parts ∙ ap (λ r. number.text ∷ r) (dots ∙ ap (λ r. codes ".." ∷ r) (other.parts ∙ ap (λ r. other.text ∷ r) same))) number.number other.number,
    k,
  )
  from_item texts (m, after, number, inr (between, dots, (n, end, other, inr (more, same, (short, (items, rest, others, k)))))) = (
    record { first = m; last = n } ∷ items,
    rest,
    more_range (number.parts ∙ ap (λ r. number.text ∷ r) (dots ∙ ap (λ r. codes ".." ∷ r) (other.parts ∙ ap (λ r. other.text ∷ r) same))) number.number other.number others,
    k,
  )

  to_item : (texts : List (List ℕ)) → length texts < suc fuel → (items : List Values) (rest : List (List ℕ)) → ItemsThen texts items rest → K items rest → Item fuel K texts
  to_item texts short items rest (last_number {text = text} {n = n} parts number) k = (n, codes "}" ∷ rest, record { text = text; parts = parts; number = number }, inl (inl (rest, refl, k)))
  to_item texts short items rest (last_range {from = from} {to = to} {m = m} {n = n} parts number other) k = (
    m,
    codes ".." ∷ to ∷ codes "}" ∷ rest,
    record { text = from; parts = parts; number = number },
    inr (to ∷ codes "}" ∷ rest, refl, (n, codes "}" ∷ rest, record { text = to; parts = refl; number = other }, inl (rest, refl, k))),
  )
  to_item texts short items rest (more_number {more = more} {text = text} {n = n} {items = later} parts number others) k =
      let long = ap length parts in
      (n, codes "," ∷ more, record { text = text; parts = parts; number = number }, inl (inr (more, refl, (omega (arith, long, short), (later, rest, others, k)))))
  to_item texts short items rest (more_range {more = more} {from = from} {to = to} {m = m} {n = n} {items = later} parts number other others) k =
      let long = ap length parts in (
        m,
        codes ".." ∷ to ∷ codes "," ∷ more,
        record { text = from; parts = parts; number = number },
        inr (to ∷ codes "," ∷ more, refl, (n, codes "," ∷ more, record { text = to; parts = refl; number = other }, inr (more, refl, (omega (arith, long, short), (later, rest, others, k))))),
      )

-- whether texts begin with the items of a set so
pub dec_items : (K : List Values → List (List ℕ) → Type 0) → ((items : List Values) (rest : List (List ℕ)) → Dec (K items rest)) → (texts : List (List ℕ)) → Dec (Finds ItemsThen K texts)
dec_items K each texts = map_dec (λ some. some.1) (λ some. (omega arith, some)) (by_length ItemsThen (λ fuel fewer K each texts short. map_dec (from_item fuel fewer K each texts) (λ some. to_item fuel fewer K each texts short some.0 some.1 some.2 some.3) (dec_item fuel fewer K each texts)) (suc (length texts)) K each texts)

abbrev SetTexts : (List Values → List (List ℕ) → Type 0) → List (List ℕ) → Type 0
SetTexts K texts =
    Finds NumberThen (λ m. After (codes "..") (Finds NumberThen (λ n. K (record { first = m; last = n } ∷ [])))) texts
    ⊎ After (codes "{") (λ more. After (codes "}") (K []) more ⊎ Finds ItemsThen K more) texts

-- whether texts begin with a set so
pub dec_set : (K : List Values → List (List ℕ) → Type 0) → ((set : List Values) (rest : List (List ℕ)) → Dec (K set rest)) → (texts : List (List ℕ)) → Dec (Finds SetThen K texts)
dec_set K each texts = map_dec to_set (λ some. from_set some.0 some.1 some.2 some.3)
    (dec_either
    (dec_number_then _ (λ m. dec_after (codes "..") _ (dec_number_then _ (λ n. each (record { first = m; last = n } ∷ [])))) texts)
    (dec_after (codes "{") _ (λ more. dec_either (dec_after (codes "}") (K []) (each []) more) (dec_items K each more)) texts))
  where
    to_set : SetTexts K texts → Finds SetThen K texts
    to_set (inl (m, after, number, (between, dots, (n, rest, other, k)))) = (
      record { first = m; last = n } ∷ [],
      rest,
      set_range (number.parts ∙ ap (λ r. number.text ∷ r) (dots ∙ ap (λ r. codes ".." ∷ r) other.parts)) number.number other.number,
      k,
    )
    to_set (inr (more, same, inl (rest, end, k))) = ([], rest, set_empty (same ∙ ap (λ r. codes "{" ∷ r) end), k)
    to_set (inr (more, same, inr (items, rest, found, k))) = (items, rest, set_items same found, k)

    from_set : (set : List Values) (rest : List (List ℕ)) → SetThen texts set rest → K set rest → SetTexts K texts
    from_set set rest (set_range {from = from} {to = to} {m = m} {n = n} parts number other) k =
        inl (m, codes ".." ∷ to ∷ rest, record { text = from; parts = parts; number = number }, (to ∷ rest, refl, (n, rest, record { text = to; parts = refl; number = other }, k)))
    from_set set rest (set_empty parts) k = inr (codes "}" ∷ rest, parts, inl (rest, refl, k))
    from_set set rest (set_items {more = more} parts found) k = inr (more, parts, inr (set, rest, found, k))

-- what follows the name of a term: the parenthesis, or a comma and terms of fewer texts
abbrev TermEnds : ℕ → (List Term → List (List ℕ) → Type 0) → ℤ → List ℕ → List (List ℕ) → Type 0
TermEnds fuel K coef name after =
    IsWord name
    × (After (codes ")") (K (record { coef = coef; name = name } ∷ [])) after
    ⊎ After (codes ",") (Shortly TermsThen fuel (λ terms. K (record { coef = coef; name = name } ∷ terms))) after)

abbrev TermTexts : ℕ → (List Term → List (List ℕ) → Type 0) → List (List ℕ) → Type 0
TermTexts fuel K texts = Finds SignedThen (λ coef. After (codes "*") (Begins (TermEnds fuel K coef))) texts

-- a number with a sign takes a text
pub signed_shorter : {texts rest : List (List ℕ)} {z : ℤ} → SignedThen texts z rest → length rest < length texts
signed_shorter (then_plain parts number) = let long = ap length parts in omega (arith, long)
signed_shorter (then_minus parts number) = let long = ap length parts in omega (arith, long)

module _ (fuel : ℕ) (fewer : Decision (Shortly TermsThen fuel)) (K : List Term → List (List ℕ) → Type 0) (each : (terms : List Term) (rest : List (List ℕ)) → Dec (K terms rest)) where
  dec_term_ends : (coef : ℤ) (name : List ℕ) (after : List (List ℕ)) → Dec (TermEnds fuel K coef name after)
  dec_term_ends coef name after = dec_both (dec_word name) (dec_either
      (dec_after (codes ")") _ (each _) after)
      (dec_after (codes ",") _ (fewer (λ terms. K (record { coef = coef; name = name } ∷ terms)) (λ terms. each (record { coef = coef; name = name } ∷ terms))) after))

  dec_term : (texts : List (List ℕ)) → Dec (TermTexts fuel K texts)
  dec_term texts = dec_signed _ (λ coef. dec_after (codes "*") _ (dec_begins (TermEnds fuel K coef) (dec_term_ends coef))) texts

  from_term : (texts : List (List ℕ)) → TermTexts fuel K texts → Finds TermsThen K texts
  from_term texts (coef, after, signed, (between, star, (name, end, parts, (word, inl (rest, same, k))))) = (
    record { coef = coef; name = name } ∷ [],
    rest,
    last_term (subst (SignedThen texts coef) (star ∙ ap (λ r. codes "*" ∷ r) (parts ∙ ap (λ r. name ∷ r) same)) signed) word,
    k,
  )
  from_term texts (coef, after, signed, (between, star, (name, end, parts, (word, inr (more, same, (short, (terms, rest, others, k))))))) = (
    record { coef = coef; name = name } ∷ terms,
    rest,
    more_term (subst (SignedThen texts coef) (star ∙ ap (λ r. codes "*" ∷ r) (parts ∙ ap (λ r. name ∷ r) same)) signed) word others,
    k,
  )

  to_term : (texts : List (List ℕ)) → length texts < suc fuel → (terms : List Term) (rest : List (List ℕ)) → TermsThen texts terms rest → K terms rest → TermTexts fuel K texts
  to_term texts short terms rest (last_term {coef = coef} {name = name} signed word) k =
      (coef, codes "*" ∷ name ∷ codes ")" ∷ rest, signed, (name ∷ codes ")" ∷ rest, refl, (name, codes ")" ∷ rest, refl, (word, inl (rest, refl, k)))))
  to_term texts short terms rest (more_term {more = more} {coef = coef} {name = name} {terms = later} signed word others) k =
      let long = signed_shorter signed in (
        coef,
        codes "*" ∷ name ∷ codes "," ∷ more,
        signed,
        (name ∷ codes "," ∷ more, refl, (name, codes "," ∷ more, refl, (word, inr (more, refl, (omega (arith, long, short), (later, rest, others, k)))))),
      )

-- whether texts begin with terms so
pub dec_terms : (K : List Term → List (List ℕ) → Type 0) → ((terms : List Term) (rest : List (List ℕ)) → Dec (K terms rest)) → (texts : List (List ℕ)) → Dec (Finds TermsThen K texts)
dec_terms K each texts = map_dec (λ some. some.1) (λ some. (omega arith, some)) (by_length TermsThen (λ fuel fewer K each texts short. map_dec (from_term fuel fewer K each texts) (λ some. to_term fuel fewer K each texts short some.0 some.1 some.2 some.3) (dec_term fuel fewer K each texts)) (suc (length texts)) K each texts)

-- the texts of no more than a set
pub dec_whole_set : (texts : List (List ℕ)) → Dec ((set : List Values) × SetThen texts set [])
dec_whole_set texts = map_dec
    (λ some. (some.0, subst (SetThen texts some.0) some.3 some.2))
    (λ some. (some.0, [], some.1, refl))
    (dec_set (λ set rest. rest ≡ []) (λ set. dec_empty) texts)

-- the texts of no more than terms
pub dec_whole_terms : (texts : List (List ℕ)) → Dec ((terms : List Term) × TermsThen texts terms [])
dec_whole_terms texts = map_dec
    (λ some. (some.0, subst (TermsThen texts some.0) some.3 some.2))
    (λ some. (some.0, [], some.1, refl))
    (dec_terms (λ terms rest. rest ≡ []) (λ terms. dec_empty) texts)

-- the texts of no more than two bounds
pub dec_whole_bounds : (texts : List (List ℕ)) → Dec ((least : ℤ) × (most : ℤ) × BoundsThen texts least most [])
dec_whole_bounds texts = map_dec
    (λ some. (some.0, some.1, subst (BoundsThen texts some.0 some.1) some.4 some.3))
    (λ some. (some.0, some.1, [], some.2, refl))
    (dec_bounds (λ least most rest. rest ≡ []) (λ least most. dec_empty) texts)
