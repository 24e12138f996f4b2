-- Where the name of a parameter or of a property stands: the names are one list, and none stands twice.
use Rattle.std.proofs.Common.{◌≡◌, ℕ, ◌+◌, ◌<◌, zero, suc, Bool, true, false, not, List, [], ◌∷◌, ◌++◌, length, map, option_map, Option, None, Some, slice_get, IsTrue, refl, sym, ap, ◌∙◌, subst, arith}
use Rattle.std.specs.List.{list_all, list_any}
use Rattle.std.specs.Str.{bytes_eq}
use Rattle.std.proofs.lemmas.Bool.{both_ways, and_parts, not-true}
use Rattle.std.proofs.lemmas.Map.Keys.{any_passes_from_place}
use Rattle.std.proofs.lemmas.Option.{slice_get-map, slice_get_within}
use Rattle.hk_kinds.specs.declared.kinds.Kind.{Kind}
use Rattle.hk_spec.specs.Names.{reserved_words, is_name, is_free_name, are_distinct}
use Rattle.hk_spec.specs.Scopes.{kinds_of}
use Rattle.hk_spec.specs.declared.expressions.Side.{Side}
use Rattle.hk_spec.specs.declared.expressions.Side.TheVariants.{Down, Up}
use Rattle.hk_spec.specs.declared.parts.Param.{Param}
use Rattle.hk_spec.specs.declared.parts.ParamKind.{ParamKind}
use Rattle.hk_spec.specs.declared.parts.PropDecl.{PropDecl}
use Rattle.hk_terms.specs.Names.{scope_of}
use Rattle.hk_terms.specs.Names.{Names, plain_words}
use Rattle.hk_terms.specs.Trees.{param_name, property_name, properties_of}
use Rattle.hk_terms.proofs.NameLists.{bytes_eq_self}

-- the names of parameters and properties
abbrev pub listed_names : Names → List (List ℕ)
listed_names names = map (λ (p : Param). p.name) names.params ++ (map (λ (p : PropDecl). p.name) names.down ++ map (λ (p : PropDecl). p.name) names.up)

-- none of the names is a reserved word, and none stands twice
pub record AreFree (names : Names) : Type 0 where
  pub free : IsTrue (list_all is_free_name (listed_names names))
  pub distinct : IsTrue (are_distinct (listed_names names))

-- a parameter or a property, by its place
pub data Source : Type 0 where
  Parameter : (place : ℕ) → Source
  Property : (side : Side) (place : ℕ) → Source

-- its place among all names
abbrev pub source_place : Names → Source → ℕ
source_place names (Parameter place) = place
source_place names (Property Down place) = length names.params + place
source_place names (Property Up place) = length names.params + (length names.down + place)

abbrev pub IsInside : Names → Source → Type 0
IsInside names (Parameter place) = place < length names.params
IsInside names (Property side place) = place < length (properties_of names side)

-- it is there, and has this name
pub record StandsAt (names : Names) (source : Source) (word : List ℕ) : Type 0 where
  pub inside : IsInside names source
  pub got : slice_get (listed_names names) (source_place names source) ≡ Some word

none_some : {X : Type 0} {x : X} {P : Type 0} → None ≡ Some x → P
none_some h = absurd cc

-- what stands in the first, and in the second of two lists
get_left : {X : Type 0} (xs ys : List X) (k : ℕ) {x : X} → slice_get xs k ≡ Some x → slice_get (xs ++ ys) k ≡ Some x
get_left [] ys k got = none_some got
get_left (x ∷ xs) ys zero got = got
get_left (x ∷ xs) ys (suc k) got = get_left xs ys k got

get_right : {X : Type 0} (xs ys : List X) (k n : ℕ) → n ≡ length xs + k → slice_get (xs ++ ys) n ≡ slice_get ys k
get_right [] ys k n is = ap (slice_get ys) (omega (arith, is))
get_right (x ∷ xs) ys k zero is = absurd (omega (arith, is))
get_right (x ∷ xs) ys k (suc n) is = get_right xs ys k n (omega (arith, is))

length_map : {X Y : Type 0} (f : X → Y) (xs : List X) → length (map f xs) ≡ length xs
length_map f [] = refl
length_map f (x ∷ xs) = let same = length_map f xs in omega (arith, same)

-- the name of a parameter that is there
pub param_stands : (names : Names) (place : ℕ) (p : Param) → slice_get names.params place ≡ Some p → StandsAt names (Parameter place) p.name
param_stands names place p got = record {
  inside = slice_get_within names.params place p got;
  got = get_left (map (λ (p : Param). p.name) names.params) _ place (slice_get-map (λ (p : Param). p.name) names.params place ∙ ap (option_map (λ (p : Param). p.name)) got);
}

-- the name of a property that is there
pub property_stands : (names : Names) (side : Side) (place : ℕ) (p : PropDecl) → slice_get (properties_of names side) place ≡ Some p → StandsAt names (Property side place) p.name
property_stands names Down place p got = record {
  inside = slice_get_within names.down place p got;
  got =
      get_right (map (λ (p : Param). p.name) names.params) _ place _ (ap (λ n. n + place) (sym (length_map (λ (p : Param). p.name) names.params)))
      ∙ get_left (map (λ (p : PropDecl). p.name) names.down) _ place (slice_get-map (λ (p : PropDecl). p.name) names.down place ∙ ap (option_map (λ (p : PropDecl). p.name)) got);
}
property_stands names Up place p got = record {
  inside = slice_get_within names.up place p got;
  got =
      get_right (map (λ (p : Param). p.name) names.params) _ (length names.down + place) _ (ap (λ n. n + (length names.down + place)) (sym (length_map (λ (p : Param). p.name) names.params)))
      ∙ get_right (map (λ (p : PropDecl). p.name) names.down) _ place _ (ap (λ n. n + place) (sym (length_map (λ (p : PropDecl). p.name) names.down)))
      ∙ slice_get-map (λ (p : PropDecl). p.name) names.up place ∙ ap (option_map (λ (p : PropDecl). p.name)) got;
}

-- where a test of the kind at a place passes, something is there
pub entry_from_test : {X K : Type 0} (test : Option K → Bool) (kind : X → K) (xs : List X) (k : ℕ) → test None ≡ false → test (slice_get (map kind xs) k) ≡ true → (x : X) × (slice_get xs k ≡ Some x)
entry_from_test test kind [] k none passes = absurd (both_ways _ none passes)
entry_from_test test kind (x ∷ xs) zero none passes = (x, refl)
entry_from_test test kind (x ∷ xs) (suc k) none passes = entry_from_test test kind xs k none passes

pub param_named : (names : Names) (place : ℕ) (test : Option ParamKind → Bool) → test None ≡ false → test (slice_get (scope_of names).params place) ≡ true → StandsAt names (Parameter place) (param_name (slice_get names.params place))
param_named names place test none passes =
    let found = entry_from_test test (λ (p : Param). p.kind) names.params place none passes in
    subst (StandsAt names (Parameter place)) (ap param_name (sym found.1)) (param_stands names place found.0 found.1)

pub property_named : (names : Names) (side : Side) (place : ℕ) (test : Option Kind → Bool) → test None ≡ false → test (slice_get (kinds_of (scope_of names) side) place) ≡ true → StandsAt names (Property side place) (property_name (slice_get (properties_of names side) place))
property_named names side place test none passes =
    let found = there side passes in
    subst (StandsAt names (Property side place)) (ap property_name (sym found.1)) (property_stands names side place found.0 found.1)
  where
    there : (side : Side) → test (slice_get (kinds_of (scope_of names) side) place) ≡ true → (p : PropDecl) × (slice_get (properties_of names side) place ≡ Some p)
    there Down passes = entry_from_test test (λ (p : PropDecl). p.kind) names.down place none passes
    there Up passes = entry_from_test test (λ (p : PropDecl). p.kind) names.up place none passes

same_some : {X : Type 0} {x y : X} → Some x ≡ Some y → x ≡ y
same_some h = cc

not_twice : (first : List ℕ) (more : List (List ℕ)) (k : ℕ) {word : List ℕ} → are_distinct (first ∷ more) ≡ true → Some first ≡ Some word → slice_get more k ≡ Some word → ⊥
not_twice first more k distinct here later =
    both_ways _ (not-true _ (and_parts _ _ distinct).0) (any_passes_from_place (bytes_eq first) more k first (later ∙ sym here) (bytes_eq_self first))

-- of distinct names each stands at one place
pub place_one : (names : List (List ℕ)) (i j : ℕ) {word : List ℕ} → are_distinct names ≡ true → slice_get names i ≡ Some word → slice_get names j ≡ Some word → i ≡ j
place_one [] i j distinct at also = none_some at
place_one (first ∷ more) zero zero distinct at also = refl
place_one (first ∷ more) zero (suc j) distinct at also = absurd (not_twice first more j distinct at also)
place_one (first ∷ more) (suc i) zero distinct at also = absurd (not_twice first more i distinct also at)
place_one (first ∷ more) (suc i) (suc j) distinct at also = ap suc (place_one more i j (and_parts _ _ distinct).1 at also)

same_source : (names : Names) (s t : Source) → IsInside names s → IsInside names t → source_place names s ≡ source_place names t → s ≡ t
same_source names (Parameter i) (Parameter j) a b same = ap Parameter same
same_source names (Parameter i) (Property Down j) a b same = absurd (omega (arith, a, b, same))
same_source names (Parameter i) (Property Up j) a b same = absurd (omega (arith, a, b, same))
same_source names (Property Down i) (Parameter j) a b same = absurd (omega (arith, a, b, same))
same_source names (Property Up i) (Parameter j) a b same = absurd (omega (arith, a, b, same))
same_source names (Property Down i) (Property Down j) a b same = ap (Property Down) (omega (arith, same))
same_source names (Property Down i) (Property Up j) a b same = absurd (omega (arith, a, b, same))
same_source names (Property Up i) (Property Down j) a b same = absurd (omega (arith, a, b, same))
same_source names (Property Up i) (Property Up j) a b same = ap (Property Up) (omega (arith, same))

-- a name is that of one parameter or property
pub source_one : (names : Names) (s t : Source) {word : List ℕ} → AreFree names → StandsAt names s word → StandsAt names t word → s ≡ t
source_one names s t free at also = same_source names s t at.inside also.inside (place_one (listed_names names) (source_place names s) (source_place names t) free.distinct at.got also.got)

passes_at : {X : Type 0} (test : X → Bool) (xs : List X) (k : ℕ) {x : X} → list_all test xs ≡ true → slice_get xs k ≡ Some x → test x ≡ true
passes_at test [] k all got = none_some got
passes_at test (first ∷ more) zero all got = subst (λ x. test x ≡ true) (same_some got) (and_parts _ _ all).0
passes_at test (first ∷ more) (suc k) all got = passes_at test more k (and_parts _ _ all).1 got

-- `v`, `i` and `n` are reserved
plain_reserved : (k : ℕ) {word : List ℕ} → slice_get plain_words k ≡ Some word → slice_get reserved_words k ≡ Some word
plain_reserved zero got = got
plain_reserved (suc zero) got = got
plain_reserved (suc (suc zero)) got = got
plain_reserved (suc (suc (suc k))) got = none_some got

-- a name is none of the words of the value, the position and the number of positions
pub source_not_plain : (names : Names) (s : Source) (k : ℕ) {word : List ℕ} → AreFree names → StandsAt names s word → slice_get plain_words k ≡ Some word → ⊥
source_not_plain names s k {word = word} free at got =
    let passes = and_parts (is_name word) (not (list_any (bytes_eq word) reserved_words)) (passes_at is_free_name (listed_names names) (source_place names s) free.free at.got) in
    both_ways _ (not-true _ passes.1) (any_passes_from_place (bytes_eq word) reserved_words k word (plain_reserved k got) (bytes_eq_self word))

-- each of these words has one place
pub plain_one : (i j : ℕ) {word : List ℕ} → slice_get plain_words i ≡ Some word → slice_get plain_words j ≡ Some word → i ≡ j
plain_one i j at also = place_one plain_words i j refl at also
