-- The names of a specification: each is a word, free, and none stands twice.
use Rattle.std.proofs.Common.{◌≡◌, ℕ, zero, suc, ◌≤◌, Bool, true, List, [], ◌∷◌, ◌++◌, length, map, Contains, Some, option_map, slice_get, unwrap_or, inl, inr, sym, ap, ◌∙◌, subst}
use Rattle.std.specs.List.{list_all}
use Rattle.std.proofs.lemmas.Bool.{both_ways, and_parts, not-true, leb-true}
use Rattle.std.proofs.lemmas.List.Folds.{list_all-append}
use Rattle.std.proofs.lemmas.Option.{slice_get-map}
use Rattle.hk_spec.specs.Names.{is_word, is_name, is_free_name, are_distinct, reserved_words}
use Rattle.hk_spec.specs.declared.expressions.Side.{Side}
use Rattle.hk_spec.specs.declared.expressions.Side.TheVariants.{Down, Up}
use Rattle.hk_spec.specs.declared.parts.Param.{Param}
use Rattle.hk_spec.specs.declared.parts.PropDecl.{PropDecl}
use Rattle.hk_text.specs.Lexemes.{IsWord}
use Rattle.hk_parse.specs.BlockLines.{IsTaken}
use Rattle.hk_print.specs.Expressions.{Naming, name_at, names_of_side, names_of_properties}
use Rattle.hk_terms.specs.Names.{Names}
use Rattle.hk_terms.specs.Trees.{properties_of}
use Rattle.hk_parse.proofs.FittingTexts.{AreWords}
use Rattle.hk_terms.proofs.NameLists.{distinct_twice, found_listed}
use Rattle.hk_parse.proofs.PrintedTexts.{Covers}
use Rattle.hk_print.proofs.PrintedTokens.{free_name_word}

-- the names of parameters
abbrev pub names_of_params : List Param → List (List ℕ)
names_of_params = map (λ (p : Param). p.name)

-- nothing stands in no list
pub none_there : {X : Type 0} {P : Type 0} (place : ℕ) {x : X} → slice_get [] place ≡ Some x → P
none_there place got = cc

module _ {X : Type 0} (name : X → List ℕ) where
  -- the name at a place is that of what stands there
  pub name_at_place : (xs : List X) (place : ℕ) (x : X) → slice_get xs place ≡ Some x → name_at (map name xs) place ≡ name x
  name_at_place xs place x got = ap (λ found. unwrap_or found []) (slice_get-map name xs place ∙ ap (option_map name) got)

  -- what holds of all names holds of that at a place
  pub holds_at_place : (test : List ℕ → Bool) (xs : List X) (place : ℕ) (x : X) → list_all test (map name xs) ≡ true → slice_get xs place ≡ Some x → test (name x) ≡ true
  holds_at_place test [] place x all got = none_there place got
  holds_at_place test (first ∷ xs) zero x all got = let same : first ≡ x = cc in subst (λ y. test (name y) ≡ true) same (and_parts _ _ all).0
  holds_at_place test (first ∷ xs) (suc place) x all got = holds_at_place test xs place x (and_parts _ _ all).1 got

-- a free name has at most 32 bytes
pub free_short : (name : List ℕ) → is_free_name name ≡ true → length name ≤ 32
free_short name free = leb-true (length name) 32 (and_parts (is_word name) _ (and_parts (is_name name) _ free).0).1

-- and it is not reserved
pub free_unreserved : (name : List ℕ) → is_free_name name ≡ true → Contains reserved_words name → ⊥
free_unreserved name free reserved = both_ways _ (not-true _ (and_parts (is_name name) _ free).1) (found_listed reserved_words name reserved)

-- where all names are free, so are the first
pub free_before : (before after : List (List ℕ)) → list_all is_free_name (before ++ after) ≡ true → list_all is_free_name before ≡ true
free_before before after free = (and_parts _ _ (sym (list_all-append is_free_name before after) ∙ free)).0

-- and those after them
pub free_after : (before after : List (List ℕ)) → list_all is_free_name (before ++ after) ≡ true → list_all is_free_name after ≡ true
free_after before after free = (and_parts _ _ (sym (list_all-append is_free_name before after) ∙ free)).1

-- a name that may stand after these
pub record IsNewName (before : List (List ℕ)) (name : List ℕ) : Type 0 where
  pub word : IsWord name
  pub short : length name ≤ 32
  pub free : IsTaken before name → ⊥

-- a name that stands after others in a list of free and distinct names is such a one
pub new_name : {names : List (List ℕ)} (before : List (List ℕ)) (name : List ℕ) (after : List (List ℕ)) → names ≡ before ++ name ∷ after → list_all is_free_name names ≡ true → are_distinct names ≡ true → IsNewName before name
new_name before name after parts all distinct = record { word = free_name_word name free; short = free_short name free; free = not_taken }
  where
    free : is_free_name name ≡ true
    free = (and_parts _ _ (free_after before (name ∷ after) (ap (list_all is_free_name) (sym parts) ∙ all))).0

    not_taken : IsTaken before name → ⊥
    not_taken (inl reserved) = free_unreserved name free reserved
    not_taken (inr twice) = both_ways _ (distinct_twice before after name (found_listed before name twice)) (ap are_distinct (sym parts) ∙ distinct)

module _ (params : List Param) (down up : List PropDecl) where
  -- the names of these parameters and properties
  abbrev pub naming_for : Naming
  naming_for = record { params = names_of_params params; down = names_of_properties down; up = names_of_properties up }

  param_covered : (place : ℕ) (p : Param) → slice_get params place ≡ Some p → name_at (names_of_params params) place ≡ p.name
  param_covered place p got = name_at_place (λ (p : Param). p.name) params place p got

  -- it covers them all
  pub all_covered : Covers naming_for (record { params = params; down = down; up = up })
  all_covered = record { param = param_covered; property = by }
    where
      by : (side : Side) (place : ℕ) (p : PropDecl) → slice_get (properties_of (record { params = params; down = down; up = up }) side) place ≡ Some p → name_at (names_of_side naming_for side) place ≡ p.name
      by Down place p got = name_at_place (λ (p : PropDecl). p.name) down place p got
      by Up place p got = name_at_place (λ (p : PropDecl). p.name) up place p got

  -- and the parameters with the properties of one side
  pub down_covered : Covers naming_for (record { params = params; down = down; up = [] })
  down_covered = record { param = param_covered; property = by }
    where
      by : (side : Side) (place : ℕ) (p : PropDecl) → slice_get (properties_of (record { params = params; down = down; up = [] }) side) place ≡ Some p → name_at (names_of_side naming_for side) place ≡ p.name
      by Down place p got = name_at_place (λ (p : PropDecl). p.name) down place p got
      by Up place p got = none_there place got

  pub up_covered : Covers naming_for (record { params = params; down = []; up = up })
  up_covered = record { param = param_covered; property = by }
    where
      by : (side : Side) (place : ℕ) (p : PropDecl) → slice_get (properties_of (record { params = params; down = []; up = up }) side) place ≡ Some p → name_at (names_of_side naming_for side) place ≡ p.name
      by Down place p got = none_there place got
      by Up place p got = name_at_place (λ (p : PropDecl). p.name) up place p got

-- free names are words
pub free_words : (names : Names) → list_all is_free_name (names_of_params names.params) ≡ true → list_all is_free_name (names_of_properties names.down) ≡ true → list_all is_free_name (names_of_properties names.up) ≡ true → AreWords names
free_words names params down up = record {
  param = λ place p got. free_name_word p.name (holds_at_place (λ (p : Param). p.name) is_free_name names.params place p params got);
  property = by;
}
  where
    by : (side : Side) (place : ℕ) (p : PropDecl) → slice_get (properties_of names side) place ≡ Some p → IsWord p.name
    by Down place p got = free_name_word p.name (holds_at_place (λ (p : PropDecl). p.name) is_free_name names.down place p down got)
    by Up place p got = free_name_word p.name (holds_at_place (λ (p : PropDecl). p.name) is_free_name names.up place p up got)
