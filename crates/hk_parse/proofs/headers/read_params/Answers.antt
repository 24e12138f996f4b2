use Rattle.std.proofs.Common.{[], ◌∷◌, ◌∙◌, map, refl, sym, ap, subst, true≢false, rules}
use Rattle.std.proofs.lemmas.List.{map-append}
use Rattle.hk_text.specs.Texts.{texts_of}
use Rattle.hk_parse.specs.inside.Headers.{plain_param}
use Rattle.hk_parse.proofs.Parameters.{ParamsSoFar, params_start, params_none, params_more, params_last}
use Rattle.hk_parse.proofs.headers.read_params.Goals as goal

pub params-init : goal.params-init
params-init c = record {
  tokens = c.requires.tokens;
  reads = subst (λ params. ParamsSoFar (texts_of c.args.line.now c.args.tokens.now) (map plain_param params) (texts_of c.args.line.now c.args.tokens.now)) (sym c.requires.empty)
      (params_start (λ is. true≢false (sym (c.is_only.ensures.1 is) ∙ c.if-is_only.false)));
}

pub returns-in_default-clause-none : goal.returns-in_default-clause-none
returns-in_default-clause-none c = λ _. params_none c.params.invariant.reads (c.in_default.ensures.none refl)

pub params-preserved : goal.params-preserved
params-preserved c = record {
  tokens = c.in-Some-after_text.ensures.tokens;
  reads = params_more c.params.invariant.reads c.in-Some.ensures.some (ap (map plain_param) c.in_ok-push.ensures.ok ∙ map-append plain_param c.params.params (c.in-Some.param ∷ [])) c.in-Some-after_text.ensures.some;
}

pub returns-in-params-clause-some : goal.returns-in-params-clause-some
returns-in-params-clause-some c = λ _.
    params_last c.params.invariant.reads c.in-Some.ensures.some (ap (map plain_param) c.in_ok-push.ensures.ok ∙ map-append plain_param c.params.params (c.in-Some.param ∷ [])) (c.is_only-in-params.ensures.0 (search rules))
