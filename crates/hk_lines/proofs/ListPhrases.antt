-- A list of elements with commas between them and a mark at its end: it has one reading, and is decided.
use Rattle.std.proofs.Common.{◌≡◌, ℕ, suc, ◌<◌, ◌⊎◌, inl, inr, false, List, [], ◌∷◌, length, refl, ap, subst, ◌∙◌, arith}
use Rattle.std.specs.Prelude.{codes}
use Rattle.std.specs.Str.{bytes_eq}
use Rattle.std.proofs.Math.Decide.{map_dec}
use Rattle.hk_text.proofs.Deciding.{dec_either, After, dec_after}
use Rattle.hk_lines.proofs.Finding.{Finds, Decision, Shortly, by_length}
use Rattle.hk_text.proofs.TokenTexts.{apart, same_rest}

-- elements, each but the last before a comma, and the closing mark
pub data ListThen {X : Type 0} (Element : List (List ℕ) → X → List (List ℕ) → Type 0) (close : List ℕ) : List (List ℕ) → List X → List (List ℕ) → Type 0 where
  last_element : {texts rest : List (List ℕ)} {x : X} → Element texts x (close ∷ rest) → ListThen Element close texts (x ∷ []) rest
  more_elements : {texts more rest : List (List ℕ)} {x : X} {xs : List X}
      → Element texts x (codes "," ∷ more) → ListThen Element close more xs rest → ListThen Element close texts (x ∷ xs) rest

-- tokens begin with one element
abbrev pub HasOne : {X : Type 0} → (List (List ℕ) → X → List (List ℕ) → Type 0) → Type 0
HasOne {X} Element = (texts rest rest' : List (List ℕ)) (x x' : X) → Element texts x rest → Element texts x' rest' → (x ≡ x') × (rest ≡ rest')

-- an element takes a text
abbrev pub TakesText : {X : Type 0} → (List (List ℕ) → X → List (List ℕ) → Type 0) → Type 0
TakesText {X} Element = (texts rest : List (List ℕ)) (x : X) → Element texts x rest → length rest < length texts

-- what follows an element: the closing mark, or a comma and a list of fewer texts
abbrev ElementEnds : {X : Type 0} → (List (List ℕ) → X → List (List ℕ) → Type 0) → List ℕ → ℕ → (List X → List (List ℕ) → Type 0) → X → List (List ℕ) → Type 0
ElementEnds {X} Element close fuel K x after = After close (K (x ∷ [])) after ⊎ After (codes ",") (Shortly (ListThen Element close) fuel (λ xs. K (x ∷ xs))) after

module _ {X : Type 0} {Element : List (List ℕ) → X → List (List ℕ) → Type 0} {close : List ℕ} where
  -- where an element has one reading, tokens begin with one list
  pub list_one : HasOne Element → bytes_eq close (codes ",") ≡ false → bytes_eq (codes ",") close ≡ false → {texts rest rest' : List (List ℕ)} {xs xs' : List X}
      → ListThen Element close texts xs rest → ListThen Element close texts xs' rest' → (xs ≡ xs') × (rest ≡ rest')
  list_one one other other' (last_element x) (last_element y) =
      let both = one _ _ _ _ _ x y in
      (ap (λ e. e ∷ []) both.0, same_rest refl both.1)
  list_one one other other' (last_element x) (more_elements y later) = absurd (apart 0 refl (one _ _ _ _ _ x y).1 other)
  list_one one other other' (more_elements x later) (last_element y) = absurd (apart 0 refl (one _ _ _ _ _ x y).1 other')
  list_one one other other' (more_elements {rest = rest} {x = e} {xs = es} x later) (more_elements {x = e'} {xs = es'} y later') =
      let both = one _ _ _ _ _ x y in
      let further = list_one one other other' (subst (λ texts. ListThen Element close texts es rest) (same_rest refl both.1) later) later' in
      (ap (λ first. first ∷ es) both.0 ∙ ap (λ others. e' ∷ others) further.0, further.1)

  from_element : (fuel : ℕ) (K : List X → List (List ℕ) → Type 0) (texts : List (List ℕ)) → Finds Element (ElementEnds Element close fuel K) texts → Finds (ListThen Element close) K texts
  from_element fuel K texts (x, after, element, inl (rest, same, k)) = (x ∷ [], rest, last_element (subst (Element texts x) same element), k)
  from_element fuel K texts (x, after, element, inr (more, same, (short, (xs, rest, others, k)))) =
      (x ∷ xs, rest, more_elements (subst (Element texts x) same element) others, k)

  to_element : TakesText Element → (fuel : ℕ) (K : List X → List (List ℕ) → Type 0) (texts : List (List ℕ)) → length texts < suc fuel → (xs : List X) (rest : List (List ℕ)) → ListThen Element close texts xs rest → K xs rest
      → Finds Element (ElementEnds Element close fuel K) texts
  to_element shorter fuel K texts short xs rest (last_element {x = x} element) k = (x, close ∷ rest, element, inl (rest, refl, k))
  to_element shorter fuel K texts short xs rest (more_elements {more = more} {x = x} {xs = later} element others) k =
      let long = shorter _ _ _ element in
      (x, codes "," ∷ more, element, inr (more, refl, (omega (arith, long, short), (later, rest, others, k))))

  -- where it is decided whether tokens begin with an element, it is decided whether they begin with a list
  pub dec_list : TakesText Element → Decision (Finds Element) → Decision (Finds (ListThen Element close))
  dec_list shorter find K each texts = map_dec (λ some. some.1) (λ some. (omega arith, some)) (by_length (ListThen Element close) step (suc (length texts)) K each texts)
    where
      ends : (fuel : ℕ) → Decision (Shortly (ListThen Element close) fuel) → (K : List X → List (List ℕ) → Type 0) → ((xs : List X) (rest : List (List ℕ)) → Dec (K xs rest))
          → (x : X) (after : List (List ℕ)) → Dec (ElementEnds Element close fuel K x after)
      ends fuel fewer K each x after = dec_either (dec_after close _ (each (x ∷ [])) after) (dec_after (codes ",") _ (fewer (λ xs. K (x ∷ xs)) (λ xs. each (x ∷ xs))) after)

      step : (fuel : ℕ) → Decision (Shortly (ListThen Element close) fuel) → (K : List X → List (List ℕ) → Type 0) → ((xs : List X) (rest : List (List ℕ)) → Dec (K xs rest))
          → (texts : List (List ℕ)) → length texts < suc fuel → Dec (Finds (ListThen Element close) K texts)
      step fuel fewer K each texts short = map_dec (from_element fuel K texts) (λ some. to_element shorter fuel K texts short some.0 some.1 some.2 some.3) (find (ElementEnds Element close fuel K) (ends fuel fewer K each) texts)
