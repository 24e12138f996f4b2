-- What texts say is decided.
use Rattle.std.proofs.Common.{◌≡◌, ℕ, ◌⊎◌, inl, inr, ℤ, List, [], ◌∷◌, refl, ap, subst, ◌∙◌}
use Rattle.std.specs.Prelude.{All, codes}
use Rattle.std.proofs.Math.Decide.{map_dec}
use Rattle.hk_text.specs.Lexemes.{IsWord}
use Rattle.hk_lines.specs.Phrases.{Values, Term, Row, Counting, NamesThen, SetThen, TermsThen, BoundsThen, AreCounting, AreRows}
use Rattle.hk_lines.specs.inside.Pieces.{NumberThen}
use Rattle.hk_lines.specs.Statements.{Statement, Header, Variable, Distinct, Among, Sequence, Gcc, Total, Objective, NewGroup, Says, says_header, says_variable, says_distinct, says_among, says_sequence, says_gcc, says_total, says_objective, says_new_group, scope_end}
use Rattle.hk_text.proofs.Deciding.{dec_both, dec_either, dec_all, dec_text, dec_texts, dec_word, Begins, dec_begins, After, dec_after}
use Rattle.hk_lines.proofs.CountTexts.{dec_names, dec_counting, dec_rows}
use Rattle.hk_lines.proofs.Finding.{Finds, dec_number_then, dec_terms, dec_whole_set, dec_whole_terms, dec_whole_bounds}

-- the end of a scope whose further names have a property
abbrev pub Closes : (List (List ℕ) → Type 0) → List (List ℕ) → Type 0
Closes K texts = (names : List (List ℕ)) × (texts ≡ scope_end names) × K names

-- whether texts are such an end
pub dec_closes : (K : List (List ℕ) → Type 0) → ((names : List (List ℕ)) → Dec (K names)) → (texts : List (List ℕ)) → Dec (Closes K texts)
dec_closes K each [] = no (λ some. at some.0 some.1)
  where
    at : (names : List (List ℕ)) → [] ≡ scope_end names → ⊥
    at [] same = cc
    at (name ∷ names) same = cc
dec_closes K each (text ∷ []) = map_dec
    (λ both. ([], ap (λ t. t ∷ []) both.0, both.1))
    (λ some. at some.0 some.1 some.2)
    (dec_both (dec_text text (codes ")")) (each []))
  where
    at : (names : List (List ℕ)) → text ∷ [] ≡ scope_end names → K names → (text ≡ codes ")") × K []
    at [] same k = (cc, k)
    at (name ∷ names) same k = cc
dec_closes K each (text ∷ name ∷ rest) = map_dec
    (λ both. (name ∷ both.1.0, ap (λ t. t ∷ name ∷ rest) both.0 ∙ ap (λ r. codes "," ∷ name ∷ r) both.1.1, both.1.2))
    (λ some. at some.0 some.1 some.2)
    (dec_both (dec_text text (codes ",")) (dec_closes (λ names. K (name ∷ names)) (λ names. each (name ∷ names)) rest))
  where
    at : (names : List (List ℕ)) → text ∷ name ∷ rest ≡ scope_end names → K names → (text ≡ codes ",") × Closes (λ names. K (name ∷ names)) rest
    at [] same k = cc
    at (other ∷ names) same k =
        let first : other ≡ name = cc in
        (cc, (names, cc, subst (λ one. K (one ∷ names)) first k))

-- the texts of each statement, from part to part
abbrev IsHeader : List (List ℕ) → Type 0
IsHeader texts = texts ≡ codes "hkm" ∷ codes "1" ∷ []

abbrev IsNewGroup : List (List ℕ) → Type 0
IsNewGroup texts = texts ≡ codes "group" ∷ []

abbrev IsVariable : List (List ℕ) → Type 0
IsVariable texts = After (codes "var") (Begins (λ name. After (codes "in") (λ more. IsWord name × ((set : List Values) × SetThen more set [])))) texts

abbrev IsDistinct : List (List ℕ) → Type 0
IsDistinct texts = After (codes "alldifferent") (After (codes "(") (Begins (λ name. Closes (λ names. All IsWord (name ∷ names))))) texts

abbrev IsAmong : List (List ℕ) → Type 0
IsAmong texts = After (codes "among") (After (codes "(") (λ more. (counting : Counting) × AreCounting more counting)) texts

abbrev IsSequence : List (List ℕ) → Type 0
IsSequence texts = After (codes "sequence") (Finds NumberThen (λ window. After (codes "(") (λ more. (counting : Counting) × AreCounting more counting))) texts

abbrev IsGcc : List (List ℕ) → Type 0
IsGcc texts = After (codes "gcc") (After (codes "(") (Finds NamesThen (λ names after. (rows : List Row) × AreRows after rows))) texts

abbrev IsTotal : List (List ℕ) → Type 0
IsTotal texts = After (codes "sum") (After (codes "(") (Finds TermsThen (λ terms bounds. (least : ℤ) × (most : ℤ) × BoundsThen bounds least most []))) texts

abbrev IsObjective : List (List ℕ) → Type 0
IsObjective texts = After (codes "minimize") (After (codes "(") (λ more. (terms : List Term) × TermsThen more terms [])) texts

dec_variable : (texts : List (List ℕ)) → Dec (IsVariable texts)
dec_variable = dec_after (codes "var") _ (dec_begins _ (λ name. dec_after (codes "in") _ (λ more. dec_both (dec_word name) (dec_whole_set more))))

dec_distinct : (texts : List (List ℕ)) → Dec (IsDistinct texts)
dec_distinct = dec_after (codes "alldifferent") _ (dec_after (codes "(") _ (dec_begins _ (λ name. dec_closes _ (λ names. dec_all IsWord dec_word (name ∷ names)))))

dec_among : (texts : List (List ℕ)) → Dec (IsAmong texts)
dec_among = dec_after (codes "among") _ (dec_after (codes "(") _ dec_counting)

dec_sequence : (texts : List (List ℕ)) → Dec (IsSequence texts)
dec_sequence = dec_after (codes "sequence") _ (dec_number_then _ (λ window. dec_after (codes "(") _ dec_counting))

dec_gcc : (texts : List (List ℕ)) → Dec (IsGcc texts)
dec_gcc = dec_after (codes "gcc") _ (dec_after (codes "(") _ (dec_names _ (λ names. dec_rows)))

dec_total : (texts : List (List ℕ)) → Dec (IsTotal texts)
dec_total = dec_after (codes "sum") _ (dec_after (codes "(") _ (dec_terms _ (λ terms. dec_whole_bounds)))

dec_objective : (texts : List (List ℕ)) → Dec (IsObjective texts)
dec_objective = dec_after (codes "minimize") _ (dec_after (codes "(") _ dec_whole_terms)

-- the texts of a statement of some kind
abbrev IsSome : List (List ℕ) → Type 0
IsSome texts =
    (((IsHeader texts ⊎ IsNewGroup texts) ⊎ IsVariable texts) ⊎ (IsDistinct texts ⊎ IsAmong texts))
    ⊎ ((IsSequence texts ⊎ IsGcc texts) ⊎ (IsTotal texts ⊎ IsObjective texts))

module _ {texts : List (List ℕ)} where
  says_some : IsSome texts → (s : Statement) × Says texts s
  says_some (inl (inl (inl (inl are)))) = (Header, says_header are)
  says_some (inl (inl (inl (inr are)))) = (NewGroup, says_new_group are)
  says_some (inl (inl (inr (after, is, (name, rest, parts, (more, in_, (word, (set, found)))))))) =
      (Variable name set, says_variable (is ∙ ap (λ r. codes "var" ∷ r) (parts ∙ ap (λ r. name ∷ r) in_)) word found)
  says_some (inl (inr (inl (after, is, (between, opens, (name, rest, parts, (names, ends, words))))))) =
      (Distinct (name ∷ names), says_distinct (is ∙ ap (λ r. codes "alldifferent" ∷ r) (opens ∙ ap (λ r. codes "(" ∷ r) (parts ∙ ap (λ r. name ∷ r) ends))) words)
  says_some (inl (inr (inr (after, is, (more, opens, (counting, found)))))) =
      (Among counting, says_among (is ∙ ap (λ r. codes "among" ∷ r) opens) found)
  says_some (inr (inl (inl (after, is, (window, rest, number, (more, opens, (counting, found))))))) =
      (Sequence window counting, says_sequence (is ∙ ap (λ r. codes "sequence" ∷ r) (number.parts ∙ ap (λ r. number.text ∷ r) opens)) number.number found)
  says_some (inr (inl (inr (after, is, (more, opens, (names, rest, scope, (rows, found))))))) =
      (Gcc names rows, says_gcc (is ∙ ap (λ r. codes "gcc" ∷ r) opens) scope found)
  says_some (inr (inr (inl (after, is, (more, opens, (terms, bounds, found, (least, most, between))))))) =
      (Total terms least most, says_total (is ∙ ap (λ r. codes "sum" ∷ r) opens) found between)
  says_some (inr (inr (inr (after, is, (more, opens, (terms, found)))))) =
      (Objective terms, says_objective (is ∙ ap (λ r. codes "minimize" ∷ r) opens) found)

  some_says : {s : Statement} → Says texts s → IsSome texts
  some_says (says_header are) = inl (inl (inl (inl are)))
  some_says (says_variable {more = more} {name = name} {set = set} are word found) =
      inl (inl (inr (name ∷ codes "in" ∷ more, are, (name, codes "in" ∷ more, refl, (more, refl, (word, (set, found)))))))
  some_says (says_distinct {name = name} {more = names} are words) =
      inl (inr (inl (codes "(" ∷ name ∷ scope_end names, are, (name ∷ scope_end names, refl, (name, scope_end names, refl, (names, refl, words))))))
  some_says (says_among {more = more} {counting = counting} are found) =
      inl (inr (inr (codes "(" ∷ more, are, (more, refl, (counting, found)))))
  some_says (says_sequence {more = more} {digits = digits} {window = window} {counting = counting} are number found) =
      inr (inl (inl (digits ∷ codes "(" ∷ more, are, (window, codes "(" ∷ more, record { text = digits; parts = refl; number = number }, (more, refl, (counting, found))))))
  some_says (says_gcc {more = more} {after = after} {names = names} {rows = rows} are scope found) =
      inr (inl (inr (codes "(" ∷ more, are, (more, refl, (names, after, scope, (rows, found))))))
  some_says (says_total {more = more} {bounds = bounds} {terms = terms} {least = least} {most = most} are found between) =
      inr (inr (inl (codes "(" ∷ more, are, (more, refl, (terms, bounds, found, (least, most, between))))))
  some_says (says_objective {more = more} {terms = terms} are found) =
      inr (inr (inr (codes "(" ∷ more, are, (more, refl, (terms, found)))))
  some_says (says_new_group are) = inl (inl (inl (inr are)))

-- what texts say
pub dec_says : (texts : List (List ℕ)) → Dec ((s : Statement) × Says texts s)
dec_says texts = map_dec says_some (λ some. some_says some.1)
    (dec_either
    (dec_either (dec_either (dec_either (dec_texts texts (codes "hkm" ∷ codes "1" ∷ [])) (dec_texts texts (codes "group" ∷ []))) (dec_variable texts)) (dec_either (dec_distinct texts) (dec_among texts)))
    (dec_either (dec_either (dec_sequence texts) (dec_gcc texts)) (dec_either (dec_total texts) (dec_objective texts))))
