use Rattle.std.proofs.Common.{◌≡◌, ◌++◌, map, drop}
use Rattle.hk_parse.specs.inside.Headers.{param_text, plain_param}
use Rattle.hk_parse.proofs.headers.declared_params.Given as goal

abbrev pub invariant-loop-param : goal.invariant-loop-param
invariant-loop-param l = map plain_param l.params ≡ map param_text l.declared ++ map plain_param (drop l.param-index l.params)
