use Rattle.std.proofs.Common.{◌≡◌, map, take, true}
use Rattle.hk_spec.specs.Names.{are_distinct}
use Rattle.hk_parse.specs.BlockLines.{param_names}
use Rattle.hk_parse.specs.inside.Headers.{plain_param}
use Rattle.hk_terms.proofs.NameLists.{now_of}
use Rattle.hk_parse.proofs.headers.add_names.Given as goal

abbrev pub invariant-loop-param : goal.invariant-loop-param
invariant-loop-param l = record {
  seen : map now_of l.seen.keys ≡ take l.param-index (param_names (map plain_param l.params));
  distinct : are_distinct (take l.param-index (param_names (map plain_param l.params))) ≡ true;
}
