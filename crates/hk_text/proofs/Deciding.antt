-- Facts of numbers, lists and texts that hold or fail: each is decided.
use Rattle.std.proofs.Common.{◌≡◌, ℕ, suc, zero, ◌-◌, ◌<◌, ◌⊎◌, inl, inr, Bool, true, false, List, [], ◌∷◌, Option, Some, None, length, refl, sym, ap, subst, ◌∙◌, arith}
use Rattle.std.specs.Prelude.{All, Any}
use Rattle.std.specs.Bool.{Decides}
use Rattle.std.specs.Char.{digit_value}
use Rattle.std.specs.Cmp.Lexicographic.{pointwise}
use Rattle.std.specs.List.{list_all}
use Rattle.std.specs.List.Sorted.{IsStrictlyIncreasing}
use Rattle.std.specs.Str.{bytes_eq}
use Rattle.std.specs.Str.Parse.{AllDigits, digits_value}
use Rattle.std.proofs.Math.Decide.{map_dec, dec_lt}
use Rattle.std.proofs.lemmas.Bool.Decides.{Decides-eqb}
use Rattle.std.proofs.lemmas.List.Elements.{All-nil, All-cons, All-head, All-tail}
use Rattle.std.proofs.lemmas.Slice.Eq.{bytes_eq-Decides, slice_eq-Decides}
use Rattle.hk_text.specs.Bytes.{is_word_start, is_word_byte}
use Rattle.hk_text.specs.Lexemes.{IsWord}
use Rattle.hk_text.specs.Numbers.{IsPlain, IsNumber}

-- what a test decides
pub dec_test : {P : Type 0} (r : Bool) → Decides r P → Dec P
dec_test true d = yes (d.0 refl)
dec_test false d = no (λ p. let e = d.1 p in cc)

-- that a test passes, or that it fails
pub dec_true : (r : Bool) → Dec (r ≡ true)
dec_true true = yes refl
dec_true false = no (λ e. cc)

pub dec_false : (r : Bool) → Dec (r ≡ false)
dec_false true = no (λ e. cc)
dec_false false = yes refl

-- two facts
pub dec_both : {A B : Type 0} → Dec A → Dec B → Dec (A × B)
dec_both (yes a) (yes b) = yes (a, b)
dec_both (yes a) (no b) = no (λ both. b both.1)
dec_both (no a) b = no (λ both. a both.0)

-- one fact or another
pub dec_either : {A B : Type 0} → Dec A → Dec B → Dec (A ⊎ B)
dec_either (yes a) b = yes (inl a)
dec_either (no a) (yes b) = yes (inr b)
dec_either {A = A} {B = B} (no a) (no b) = no neither
  where
    neither : A ⊎ B → ⊥
    neither (inl x) = a x
    neither (inr y) = b y

-- a fact's opposite
pub dec_not : {A : Type 0} → Dec A → Dec (A → ⊥)
dec_not (yes a) = no (λ none. none a)
dec_not (no a) = yes a

-- that a value is there, or that there is none
pub dec_some : {X : Type 0} (o : Option X) → Dec ((x : X) × (o ≡ Some x))
dec_some None = no (λ some. let same = some.1 in cc)
dec_some (Some x) = yes (x, refl)

pub dec_none : {X : Type 0} (o : Option X) → Dec (o ≡ None)
dec_none None = yes refl
dec_none (Some x) = no (λ same. cc)

-- a fact of each number below another
pub dec_below : {P : ℕ → Type 0} → ((k : ℕ) → Dec (P k)) → (n : ℕ) → Dec ((k : ℕ) → k < n → P k)
dec_below each zero = yes (λ k below. absurd (omega arith))
dec_below {P = P} each (suc n) = by (each n) (dec_below each n)
  where
    last : ((k : ℕ) → k < n → P k) → P n → (k : ℕ) → k < suc n → P k
    last before at k below = from (dec_lt k n)
      where
        from : Dec (k < n) → P k
        from (yes less) = before k less
        from (no more) = let same : n ≡ k = omega arith in subst P same at

    by : Dec (P n) → Dec ((k : ℕ) → k < n → P k) → Dec ((k : ℕ) → k < suc n → P k)
    by (yes at) (yes before) = yes (last before at)
    by (yes at) (no before) = no (λ all. before (λ k below. all k (omega arith)))
    by (no at) before = no (λ all. at (all n (omega arith)))

-- a fact of each element
pub dec_all : {X : Type 0} (P : X → Type 0) → ((x : X) → Dec (P x)) → (xs : List X) → Dec (All P xs)
dec_all P each [] = yes (All-nil P)
dec_all P each (x ∷ xs) = map_dec (λ both. All-cons P x xs both.0 both.1) (λ all. (All-head P x xs all, All-tail P x xs all)) (dec_both (each x) (dec_all P each xs))

-- a fact of some element
pub dec_any : {X : Type 0} (P : X → Type 0) → ((x : X) → Dec (P x)) → (xs : List X) → Dec (Any P xs)
dec_any P each [] = no none
  where
    none : Any P [] → ⊥
    none (k, x, within, at, p) = absurd (omega (arith, within))
dec_any P each (x ∷ xs) = map_dec to from (dec_either (each x) (dec_any P each xs))
  where
    to : P x ⊎ Any P xs → Any P (x ∷ xs)
    to (inl p) = (0, x, omega arith, refl, p)
    to (inr (k, y, within, at, p)) = (suc k, y, omega (arith, within), at, p)

    from : Any P (x ∷ xs) → P x ⊎ Any P xs
    from (zero, y, within, at, p) = inl (subst P (sym at) p)
    from (suc k, y, within, at, p) = inr (k, y, omega (arith, within), at, p)

-- that a list is empty
pub dec_empty : {X : Type 0} (xs : List X) → Dec (xs ≡ [])
dec_empty [] = yes refl
dec_empty (x ∷ xs) = no (λ same. cc)

-- that numbers rise
pub dec_rising : (xs : List ℕ) → Dec (IsStrictlyIncreasing xs)
dec_rising xs = map_dec (λ all k below. all k (omega arith)) (λ all k below. all k (omega arith)) (dec_below (λ k. dec_lt _ _) (length xs - 1))

-- that two texts are one
pub dec_text : (xs ys : List ℕ) → Dec (xs ≡ ys)
dec_text xs ys = dec_test (bytes_eq xs ys) (bytes_eq-Decides xs ys)

-- that two lists of texts are one
pub dec_texts : (xs ys : List (List ℕ)) → Dec (xs ≡ ys)
dec_texts xs ys = dec_test (pointwise bytes_eq xs ys) (slice_eq-Decides bytes_eq-Decides xs ys (pointwise bytes_eq xs ys) refl)

-- that a text is a word
pub dec_word : (text : List ℕ) → Dec (IsWord text)
dec_word [] = no (λ word. word)
dec_word (first ∷ more) = dec_both (dec_true (is_word_start first)) (dec_true (list_all is_word_byte more))

-- that a text has no needless zero
dec_plain : (text : List ℕ) → Dec (IsPlain text)
dec_plain [] = no (λ plain. plain)
dec_plain (byte ∷ []) = yes tt
dec_plain (first ∷ second ∷ more) = dec_not (dec_test _ (Decides-eqb first 0x30))

-- that a text is digits
dec_digits : (text : List ℕ) → Dec (AllDigits 10 text)
dec_digits [] = yes tt
dec_digits (byte ∷ more) = dec_both (dec_lt (digit_value byte) 10) (dec_digits more)

-- that a text is a number, and which
pub dec_number : (text : List ℕ) → Dec ((n : ℕ) × IsNumber text n)
dec_number text = map_dec
    (λ both. (digits_value 10 text, record { plain = both.0; digits = both.1; value = refl }))
    (λ some. (some.1.plain, some.1.digits))
    (dec_both (dec_plain text) (dec_digits text))

-- texts that begin with a text, where it and the rest have a property
abbrev pub Begins : (List ℕ → List (List ℕ) → Type 0) → List (List ℕ) → Type 0
Begins K texts = (text : List ℕ) × (rest : List (List ℕ)) × (texts ≡ text ∷ rest) × K text rest

-- whether texts begin so
pub dec_begins : (K : List ℕ → List (List ℕ) → Type 0) → ((text : List ℕ) (rest : List (List ℕ)) → Dec (K text rest)) → (texts : List (List ℕ)) → Dec (Begins K texts)
dec_begins K each [] = no (λ some. let same = some.2 in cc)
dec_begins K each (text ∷ rest) = map_dec (λ k. (text, rest, refl, k)) (λ some. at some.0 some.1 some.2 some.3) (each text rest)
  where
    at : (t : List ℕ) (r : List (List ℕ)) → text ∷ rest ≡ t ∷ r → K t r → K text rest
    at t r same k =
        let first : t ≡ text = cc in
        let others : r ≡ rest = cc in
        subst (λ more. K text more) others (subst (λ one. K one r) first k)

-- texts that begin with this one, where the rest has a property
abbrev pub After : List ℕ → (List (List ℕ) → Type 0) → List (List ℕ) → Type 0
After mark K texts = (rest : List (List ℕ)) × (texts ≡ mark ∷ rest) × K rest

-- whether texts begin so
pub dec_after : (mark : List ℕ) (K : List (List ℕ) → Type 0) → ((rest : List (List ℕ)) → Dec (K rest)) → (texts : List (List ℕ)) → Dec (After mark K texts)
dec_after mark K each texts = map_dec
    (λ some. (some.1, some.2 ∙ ap (λ text. text ∷ some.1) some.3.0, some.3.1))
    (λ some. (mark, some.0, some.1, (refl, some.2)))
    (dec_begins (λ text rest. (text ≡ mark) × K rest) (λ text rest. dec_both (dec_text text mark) (each rest)) texts)

-- whether texts begin with this text
pub dec_first : (mark : List ℕ) (texts : List (List ℕ)) → Dec ((rest : List (List ℕ)) × (texts ≡ mark ∷ rest))
dec_first mark texts = map_dec (λ some. (some.0, some.1)) (λ some. (some.0, some.1, tt)) (dec_after mark (λ rest. Unit {0}) (λ rest. yes tt) texts)
