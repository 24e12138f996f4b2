-- The names of a scope, one after the other.
use Rattle.std.proofs.Common.{◌≡◌, ℕ, List, [], ◌∷◌, All, refl, sym, ap, subst, ◌∙◌}
use Rattle.std.specs.Prelude.{codes}
use Rattle.std.proofs.lemmas.List.Elements.{All-nil, All-cons, All-head, All-tail}
use Rattle.hk_text.specs.Lexemes.{IsWord}
use Rattle.hk_lines.specs.Phrases.{NamesThen, last_name, more_name}
use Rattle.hk_lines.specs.Statements.{scope_end}
use Rattle.hk_text.proofs.TokenTexts.{apart, same_first, same_rest}

-- a first name and further ones, with all that stands between and after them
pub record IsScopeOf (texts names : List (List ℕ)) : Type 0 where
  pub first : List ℕ
  pub more : List (List ℕ)
  pub names_are : names ≡ first ∷ more
  pub texts_are : texts ≡ first ∷ scope_end more
  pub words : All IsWord (first ∷ more)

-- names up to the last token are a scope
pub scope_of_names : {texts names rest : List (List ℕ)} → NamesThen texts names rest → rest ≡ [] → IsScopeOf texts names
scope_of_names (last_name {rest = rest} {name = name} x word) over = record {
  first = name;
  more = [];
  names_are = refl;
  texts_are = x ∙ ap (λ ts. name ∷ codes ")" ∷ ts) over;
  words = All-cons IsWord name [] word (All-nil IsWord);
}
scope_of_names (more_name {name = name} {names = names} x word later) over =
    let scope = scope_of_names later over in
    record {
      first = name;
      more = names;
      names_are = refl;
      texts_are = x ∙ ap (λ ts. name ∷ codes "," ∷ ts) scope.texts_are ∙ ap (λ ns. name ∷ scope_end ns) (sym scope.names_are);
      words = All-cons IsWord name names word (subst (All IsWord) (sym scope.names_are) scope.words);
    }

-- a scope is names up to the last token
pub names_of_scope : {texts : List (List ℕ)} (first : List ℕ) (more : List (List ℕ)) → texts ≡ first ∷ scope_end more → All IsWord (first ∷ more) → NamesThen texts (first ∷ more) []
names_of_scope first [] x words = last_name x (All-head IsWord first [] words)
names_of_scope first (second ∷ more) x words =
    more_name x (All-head IsWord first (second ∷ more) words) (names_of_scope second more refl (All-tail IsWord first (second ∷ more) words))

-- tokens begin with one list of names
pub names_one : {texts rest rest' names names' : List (List ℕ)} → NamesThen texts names rest → NamesThen texts names' rest' → (names ≡ names') × (rest ≡ rest')
names_one (last_name x word) (last_name y word') = (ap (λ name. name ∷ []) (same_first x y), same_rest refl (same_rest x y))
names_one (last_name x word) (more_name y word' later) = absurd (apart 1 x y refl)
names_one (more_name x word later) (last_name y word') = absurd (apart 1 x y refl)
names_one (more_name {rest = rest} {name = name} {names = names} x word later) (more_name {name = name'} {names = names'} y word' later') =
    let both = names_one (subst (λ texts. NamesThen texts names rest) (same_rest refl (same_rest x y)) later) later' in
    (ap (λ n. n ∷ names) (same_first x y) ∙ ap (λ ns. name' ∷ ns) both.0, both.1)
