use Rattle.std.proofs.Common.{◌≡◌, ◌<◌, List, length, map, nat_lt, sym, ◌∙◌, inl, inr, arith}
use Rattle.std.specs.List.{list_any}
use Rattle.std.proofs.lemmas.List.{length-map}
use Rattle.hk_parse.specs.BlockLines.{param_names}
use Rattle.hk_parse.specs.inside.Headers.{plain_param}
use Rattle.hk_parse.specs.LineTexts.{ParamText}
use Rattle.hk_parse.specs.declared.headers.ParamWords.{ParamWords}
use Rattle.hk_terms.proofs.FreeNames.{any_from_map, any_to_map, long_found, found_long}
use Rattle.hk_terms.proofs.NameLists.{any_of_map}
use Rattle.hk_parse.proofs.headers.passes_limit.Goals as goal

-- the test over the parameters is that over their names
same_test : (params : List ParamWords) → list_any (λ name. nat_lt 32 (length name)) (param_names (map plain_param params)) ≡ list_any (λ param. nat_lt 32 (length param.name.now)) params
same_test params = any_of_map _ (λ p. p.name) (map plain_param params) ∙ any_of_map _ plain_param params

pub returns : goal.returns
returns c =
    let params = c.args.params.now in
    let texts = map plain_param params in
    let long : ParamText → Type 0 = λ p. 32 < length p.name in (
      λ found. inr (inl (any_from_map (λ name. 32 < length name) (λ p. p.name) texts (long_found (param_names texts) (same_test params ∙ sym c.has_long_name.ensures ∙ found)))),
      λ fault. elim fault [
        | inl name ↦ absurd (omega arith)
        | inr more ↦ elim more [
          | inl some ↦ c.has_long_name.ensures ∙ sym (same_test params) ∙ found_long (param_names texts) (any_to_map (λ name. 32 < length name) (λ p. p.name) texts some)
          | inr many ↦ absurd (omega (arith, many, length-map params plain_param))
        ]
      ],
    )
