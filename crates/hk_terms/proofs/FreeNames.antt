-- Names that a specification may have: words, not too long, and not reserved.
use Rattle.std.proofs.Common.{◌≡◌, ◌<◌, ◌≤◌, ℕ, zero, suc, true, List, [], ◌∷◌, length, map, nat_lt, nat_le, All, Any, Contains, refl, sym, subst, arith}
use Rattle.std.specs.List.{list_all, list_any}
use Rattle.std.proofs.lemmas.Bool.{false_from_ne_true, and_parts, and_from, not_from_false}
use Rattle.std.proofs.lemmas.Bool.Decides.{nat_tests}
use Rattle.std.proofs.lemmas.List.Elements.{All-head, All-tail}
use Rattle.std.proofs.lemmas.List.Folds.{Any-from_list_any, list_any-from_Any}
use Rattle.hk_spec.specs.Names.{is_word, is_name, is_free_name, starts_word, goes_on_word, reserved_words}
use Rattle.hk_text.specs.Bytes.{is_word_start, is_word_byte}
use Rattle.hk_text.specs.Lexemes.{IsWord}
use Rattle.hk_terms.proofs.NameLists.{listed_found}

-- an element that passes is the first, or is among the others
pub any_first : {X : Type 0} (P : X → Type 0) (x : X) (xs : List X) → P x → Any P (x ∷ xs)
any_first P x xs holds = (0, x, omega arith, refl, holds)

pub any_later : {X : Type 0} (P : X → Type 0) (x : X) (xs : List X) → Any P xs → Any P (x ∷ xs)
any_later P x xs (k, y, within, at, holds) = (suc k, y, omega arith, at, holds)

-- both crates take the same bytes for those of words
starts_same : (byte : ℕ) → is_word_start byte ≡ true → starts_word byte ≡ true
starts_same byte starts = grind (arith, nat_tests)

goes_on_same : (byte : ℕ) → is_word_byte byte ≡ true → goes_on_word byte ≡ true
goes_on_same byte goes_on = grind (arith, nat_tests)

all_go_on : (bytes : List ℕ) → list_all is_word_byte bytes ≡ true → list_all goes_on_word bytes ≡ true
all_go_on [] all = refl
all_go_on (byte ∷ more) all = let parts = and_parts _ _ all in and_from _ _ (goes_on_same byte parts.0) (all_go_on more parts.1)

-- a word of a line is a word of a specification
pub word_is_word : (word : List ℕ) → IsWord word → is_word word ≡ true
word_is_word [] is = absurd is
word_is_word (first ∷ more) is = and_from _ _ (starts_same first is.0) (all_go_on more is.1)

-- a word that is not too long is a name
pub word_is_name : (word : List ℕ) → IsWord word → length word ≤ 32 → is_name word ≡ true
word_is_name word is short = and_from _ _ (word_is_word word is) (le_tested _ _ short)
  where
    le_tested : (m n : ℕ) → m ≤ n → nat_le m n ≡ true
    le_tested m n below = grind (arith, nat_tests)

-- and one that is not reserved is a free name
pub word_is_free : (word : List ℕ) → IsWord word → length word ≤ 32 → (Contains reserved_words word → ⊥) → is_free_name word ≡ true
word_is_free word is short free =
    and_from _ _ (word_is_name word is short) (not_from_false _ (false_from_ne_true _ (λ found. free (listed_found reserved_words word found))))

-- names none of which is too long or reserved are free names
pub words_are_free : (names : List (List ℕ)) → All IsWord names → (Any (λ name. 32 < length name) names → ⊥) → (Any (Contains reserved_words) names → ⊥) → list_all is_free_name names ≡ true
words_are_free [] words short free = refl
words_are_free (name ∷ more) words short free =
    and_from _ _
    (word_is_free name (All-head IsWord name more words) (not_long name (λ long. short (any_first (λ n. 32 < length n) name more long))) (λ reserved. free (any_first (Contains reserved_words) name more reserved)))
    (words_are_free more (All-tail IsWord name more words) (λ long. short (any_later (λ n. 32 < length n) name more long)) (λ reserved. free (any_later (Contains reserved_words) name more reserved)))
  where
    not_long : (name : List ℕ) → (32 < length name → ⊥) → length name ≤ 32
    not_long name short = omega (arith, short)

-- what holds of an element of a list that is made of another holds of what it is made of, and the other way round
pub any_from_map : {X Y : Type 0} (P : Y → Type 0) (f : X → Y) (xs : List X) → Any P (map f xs) → Any (λ x. P (f x)) xs
any_from_map P f [] (k, y, within, at, holds) = absurd (omega arith)
any_from_map P f (x ∷ xs) (zero, y, within, at, holds) = any_first (λ x. P (f x)) x xs (subst P (sym at) holds)
any_from_map P f (x ∷ xs) (suc k, y, within, at, holds) = any_later (λ x. P (f x)) x xs (any_from_map P f xs (k, y, omega arith, at, holds))

pub any_to_map : {X Y : Type 0} (P : Y → Type 0) (f : X → Y) (xs : List X) → Any (λ x. P (f x)) xs → Any P (map f xs)
any_to_map P f [] (k, x, within, at, holds) = absurd (omega arith)
any_to_map P f (first ∷ xs) (zero, x, within, at, holds) = any_first P (f first) (map f xs) (subst (λ x. P (f x)) (sym at) holds)
any_to_map P f (first ∷ xs) (suc k, x, within, at, holds) = any_later P (f first) (map f xs) (any_to_map P f xs (k, x, omega arith, at, holds))

-- the test finds a long name, or there is none
pub long_found : (names : List (List ℕ)) → list_any (λ name. nat_lt 32 (length name)) names ≡ true → Any (λ name. 32 < length name) names
long_found names found =
    let (k, name, within, at, is) = Any-from_list_any (λ name. nat_lt 32 (length name)) names found in
    (k, name, within, at, below 32 (length name) is)
  where
    below : (m n : ℕ) → nat_lt m n ≡ true → m < n
    below m n h = grind (arith, nat_tests)

pub found_long : (names : List (List ℕ)) → Any (λ name. 32 < length name) names → list_any (λ name. nat_lt 32 (length name)) names ≡ true
found_long names (k, name, within, at, is) = list_any-from_Any (λ name. nat_lt 32 (length name)) names (k, name, within, at, tested 32 (length name) is)
  where
    tested : (m n : ℕ) → m < n → nat_lt m n ≡ true
    tested m n h = grind (arith, nat_tests)
