use Rattle.std.proofs.Common.{All, length, map}
use Rattle.hk_text.specs.Texts.{texts_of}
use Rattle.hk_parse.specs.inside.Headers.{plain_param}
use Rattle.hk_text.specs.Tokens.{IsTokenIn}
use Rattle.hk_parse.proofs.Parameters.{ParamsSoFar}
use Rattle.hk_parse.proofs.headers.read_params.Given as goal

abbrev pub invariant-params : goal.invariant-params
invariant-params l = record {
  tokens : All (IsTokenIn l.line) l.rest;
  reads : ParamsSoFar (texts_of l.line l.tokens) (map plain_param l.params) (texts_of l.line l.rest);
}

abbrev pub decreases-params : goal.decreases-params
decreases-params l = length (texts_of l.line l.rest)
