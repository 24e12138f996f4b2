-- Facts of texts and lists that hold or fail: each is decided.
use Rattle.std.proofs.Common.{◌≡◌, ℕ, ◌-◌, ◌<◌, ◌≤◌, ◌⊎◌, List, [], ◌∷◌, subst, ◌∙◌}
use Rattle.std.specs.Prelude.{Contains}
use Rattle.std.specs.List.{list_any}
use Rattle.std.specs.Str.{bytes_eq}
use Rattle.std.proofs.Math.Decide.{map_dec, dec_le}
use Rattle.hk_text.specs.Numbers.{IsNumber}
use Rattle.hk_text.proofs.Digits.{IsNumber-one}
use Rattle.hk_terms.specs.Names.{WritesUpTo}
use Rattle.hk_terms.proofs.NameLists.{listed_found, found_listed}
use Rattle.hk_text.proofs.Deciding.{dec_test, dec_number}

-- that a text is listed
pub dec_listed : (names : List (List ℕ)) (name : List ℕ) → Dec (Contains names name)
dec_listed names name = dec_test (list_any (bytes_eq name) names) (listed_found names name, found_listed names name)

-- that the number that a text writes is within a limit
pub dec_up_to : (most : ℕ) (text : List ℕ) → Dec (WritesUpTo most text)
dec_up_to most text = by (dec_number text)
  where
    by : Dec ((n : ℕ) × IsNumber text n) → Dec (WritesUpTo most text)
    by (yes (n, number)) = map_dec (λ small m is. subst (λ k. k ≤ most) (IsNumber-one text n m number is) small) (λ all. all n number) (dec_le n most)
    by (no none) = yes (λ n number. absurd (none (n, number)))
