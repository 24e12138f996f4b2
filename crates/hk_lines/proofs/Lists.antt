-- Lists that are read one element at a time: elements with commas between them, and a closing mark.
use Rattle.std.proofs.Common.{◌≡◌, ◌<◌, ℕ, List, [], ◌∷◌, ◌++◌, length, map, refl, sym, ap, ◌∙◌, subst, codes, arith}
use Rattle.std.proofs.lemmas.List.{append_assoc, map-append}
use Rattle.hk_lines.specs.inside.Capped.{BeginsCapped, BeginsWithout}
use Rattle.hk_text.proofs.TokenTexts.{same_first, same_rest}

-- texts that begin with a list: its first element, and then the closing mark or a comma and a list
pub data Opens {X : Type 0} (Element : List (List ℕ) → X → List (List ℕ) → Type 0) (Phrase : List (List ℕ) → List X → List (List ℕ) → Type 0) (close : List ℕ) : List (List ℕ) → List (List ℕ) → Type 0 where
  opens_last : {texts rest : List (List ℕ)} {x : X} → Element texts x (close ∷ rest) → Opens Element Phrase close texts rest
  opens_more : {texts more rest : List (List ℕ)} {x : X} {xs : List X} → Element texts x (codes "," ∷ more) → Phrase more xs rest → Opens Element Phrase close texts rest

-- a phrase is a list of such elements up to this mark
pub record IsListOf {X : Type 0} (Element : List (List ℕ) → X → List (List ℕ) → Type 0) (Phrase : List (List ℕ) → List X → List (List ℕ) → Type 0) (close : List ℕ) : Type 0 where
  pub last : {texts rest : List (List ℕ)} {x : X} → Element texts x (close ∷ rest) → Phrase texts (x ∷ []) rest
  pub more : {texts more rest : List (List ℕ)} {x : X} {xs : List X} → Element texts x (codes "," ∷ more) → Phrase more xs rest → Phrase texts (x ∷ xs) rest
  pub opens : {texts rest : List (List ℕ)} {xs : List X} → Phrase texts xs rest → Opens Element Phrase close texts rest
  pub one : {texts after other : List (List ℕ)} {x y : X} → Element texts x after → Element texts y other → after ≡ other
  pub shorter : {texts after : List (List ℕ)} {x : X} → Element texts x after → length after < length texts
  pub apart : close ≡ codes "," → ⊥

-- what was read so far and a phrase of what is left are a phrase of the whole, and where the whole begins with a phrase, so does what is left
pub record ReadsOn {X : Type 0} (Phrase : List (List ℕ) → List X → List (List ℕ) → Type 0) (cap : X → X) (whole : List (List ℕ)) (done : List X) (left : List (List ℕ)) : Type 0 where
  pub exact : List X
  pub is_capped : done ≡ map cap exact
  pub onward : (more : List X) (rest : List (List ℕ)) → Phrase left more rest → Phrase whole (exact ++ more) rest
  pub back : (items : List X) (rest : List (List ℕ)) → Phrase whole items rest → (more : List X) × Phrase left more rest

-- before the first element, all is left
pub on_start : {X : Type 0} (Phrase : List (List ℕ) → List X → List (List ℕ) → Type 0) (cap : X → X) (whole : List (List ℕ)) → ReadsOn Phrase cap whole [] whole
on_start Phrase cap whole = record { exact = []; is_capped = refl; onward = λ more rest phrase. phrase; back = λ items rest phrase. (items, phrase) }

-- the answers with one more are the elements with one more, capped
pub capped_more : {X : Type 0} (cap : X → X) (done exact : List X) (answer x : X) → done ≡ map cap exact → answer ≡ cap x → done ++ answer ∷ [] ≡ map cap (exact ++ x ∷ [])
capped_more cap done exact answer x is one = ap (λ xs. xs ++ answer ∷ []) is ∙ ap (λ y. map cap exact ++ y ∷ []) one ∙ sym (map-append cap exact (x ∷ []))

module _ {X : Type 0} {Element : List (List ℕ) → X → List (List ℕ) → Type 0} {Phrase : List (List ℕ) → List X → List (List ℕ) → Type 0} {close : List ℕ} (list : IsListOf Element Phrase close) where
  -- where an element and a comma are read, a phrase goes on after the comma
  goes_on : {left more rest : List (List ℕ)} {x : X} → Element left x (codes "," ∷ more) → Opens Element Phrase close left rest → (xs : List X) × Phrase more xs rest
  goes_on element (opens_last last) = absurd (list.apart (same_first refl (list.one last element)))
  goes_on {rest = rest} element (opens_more {xs = xs} first phrase) = (xs, subst (λ texts. Phrase texts xs rest) (same_rest refl (list.one first element)) phrase)

  -- an element more, and a comma after it
  pub on_more : {cap : X → X} {whole left after more : List (List ℕ)} {done longer : List X} {answer : X} → ReadsOn Phrase cap whole done left → BeginsCapped Element cap left answer after → longer ≡ done ++ answer ∷ [] → after ≡ codes "," ∷ more → ReadsOn Phrase cap whole longer more
  on_more {cap} {whole} {left} {after} {more} {done} {longer} {answer} so_far begins pushed comma =
      let element : Element left begins.exact (codes "," ∷ more) = subst (Element left begins.exact) comma begins.phrase in
      record {
        exact = so_far.exact ++ begins.exact ∷ [];
        is_capped = pushed ∙ capped_more cap done so_far.exact answer begins.exact so_far.is_capped begins.is_capped;
        onward = λ xs rest phrase. subst (λ items. Phrase whole items rest) (sym (append_assoc so_far.exact (begins.exact ∷ []) xs)) (so_far.onward (begins.exact ∷ xs) rest (list.more element phrase));
        back = λ items rest phrase. let before = so_far.back items rest phrase in goes_on element (list.opens before.1);
      }

  -- after an element and a comma, less is left
  pub on_shorter : {cap : X → X} {left after more : List (List ℕ)} {answer : X} → BeginsCapped Element cap left answer after → after ≡ codes "," ∷ more → length more < length left
  on_shorter {left = left} {after = after} {more = more} begins comma =
      let element : length after < length left = list.shorter begins.phrase in
      let longer : length after ≡ length (codes "," ∷ more) = ap (λ texts. length texts) comma in
      omega (arith, element, longer)

  -- an element more, and the closing mark after it
  pub on_last : {cap : X → X} {whole left after rest : List (List ℕ)} {done longer : List X} {answer : X} → ReadsOn Phrase cap whole done left → BeginsCapped Element cap left answer after → longer ≡ done ++ answer ∷ [] → after ≡ close ∷ rest → BeginsCapped Phrase (map cap) whole longer rest
  on_last {cap} {whole} {left} {after} {rest} {done} {longer} {answer} so_far begins pushed closes =
      let element : Element left begins.exact (close ∷ rest) = subst (Element left begins.exact) closes begins.phrase in
      record {
        exact = so_far.exact ++ begins.exact ∷ [];
        phrase = so_far.onward (begins.exact ∷ []) rest (list.last element);
        is_capped = pushed ∙ capped_more cap done so_far.exact answer begins.exact so_far.is_capped begins.is_capped;
      }

  no_opening : {left rest : List (List ℕ)} → BeginsWithout Element left → Opens Element Phrase close left rest → ⊥
  no_opening {rest = rest} none (opens_last {x = x} last) = none x (close ∷ rest) last
  no_opening none (opens_more {more = more} {x = x} first phrase) = none x (codes "," ∷ more) first

  -- what is left begins with no element, so the whole begins with no such phrase
  pub on_none : {cap : X → X} {whole left : List (List ℕ)} {done : List X} → ReadsOn Phrase cap whole done left → BeginsWithout Element left → BeginsWithout Phrase whole
  on_none so_far none items rest phrase = let before = so_far.back items rest phrase in no_opening none (list.opens before.1)

  no_end : {left after rest : List (List ℕ)} {x : X} → Element left x after → ((others : List (List ℕ)) → after ≡ codes "," ∷ others → ⊥) → ((others : List (List ℕ)) → after ≡ close ∷ others → ⊥) → Opens Element Phrase close left rest → ⊥
  no_end {rest = rest} element no_comma no_close (opens_last last) = no_close rest (list.one element last)
  no_end element no_comma no_close (opens_more {more = more} first phrase) = no_comma more (list.one element first)

  -- after an element comes neither a comma nor the closing mark, so the whole begins with no such phrase
  pub on_stop : {cap : X → X} {whole left after : List (List ℕ)} {done : List X} {answer : X} → ReadsOn Phrase cap whole done left → BeginsCapped Element cap left answer after → ((others : List (List ℕ)) → after ≡ codes "," ∷ others → ⊥) → ((others : List (List ℕ)) → after ≡ close ∷ others → ⊥) → BeginsWithout Phrase whole
  on_stop so_far begins no_comma no_close items rest phrase = let before = so_far.back items rest phrase in no_end begins.phrase no_comma no_close (list.opens before.1)
