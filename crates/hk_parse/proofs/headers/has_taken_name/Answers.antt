use Rattle.std.proofs.Common.{◌≡◌, map, refl, sym, ◌∙◌, inl, inr, false, List}
use Rattle.std.specs.List.{list_any}
use Rattle.std.specs.Str.{bytes_eq}
use Rattle.std.proofs.lemmas.Bool.{both_ways, not-true, not_from_false}
use Rattle.hk_spec.specs.Names.{reserved_words}
use Rattle.hk_parse.specs.BlockLines.{param_names}
use Rattle.hk_parse.specs.inside.Headers.{plain_param}
use Rattle.hk_parse.specs.declared.headers.ParamWords.{ParamWords}
use Rattle.hk_terms.proofs.NameLists.{reserved_found, found_reserved, any_of_map}
use Rattle.hk_parse.proofs.headers.has_taken_name.Goals as goal

-- the test over the parameters is that over their names
same_test : (params : List ParamWords) → list_any (λ name. list_any (bytes_eq name) reserved_words) (param_names (map plain_param params)) ≡ list_any (λ param. list_any (bytes_eq param.name.now) reserved_words) params
same_test params = any_of_map _ (λ p. p.name) (map plain_param params) ∙ any_of_map _ plain_param params

pub returns-then-has_reserved_name : goal.returns-then-has_reserved_name
returns-then-has_reserved_name c =
    (λ _. inl (reserved_found _ (same_test c.args.params.now ∙ sym c.has_reserved_name.ensures ∙ c.if-has_reserved_name.true)), λ _. refl)

pub returns : goal.returns
returns c =
    let params = c.args.params.now in
    let none : list_any (λ name. list_any (bytes_eq name) reserved_words) (param_names (map plain_param params)) ≡ false = same_test params ∙ sym c.has_reserved_name.ensures ∙ c.if-has_reserved_name.false in (
      λ twice. inr (sym c.in_ok-have_distinct_names.ensures ∙ not-true _ twice),
      λ fault. elim fault [ inl reserved ↦ absurd (both_ways _ none (found_reserved _ reserved)) | inr twice ↦ not_from_false _ (c.in_ok-have_distinct_names.ensures ∙ twice) ],
    )
