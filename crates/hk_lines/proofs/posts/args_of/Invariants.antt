use Rattle.hk_text.specs.Tokens.{IsTokenIn}
use Rattle.std.proofs.Common.{All, length}
use Rattle.hk_text.specs.Texts.{texts_of}
use Rattle.hk_lines.specs.PostShapes.{args_of, capped_arg}
use Rattle.hk_lines.specs.Posts.{ArgsThen}
use Rattle.hk_lines.proofs.Lists.{ReadsOn}
use Rattle.hk_lines.proofs.posts.args_of.Given as goal

abbrev pub invariant-found : goal.invariant-found
invariant-found l = record {
  tokens : All (IsTokenIn l.line) l.rest;
  reads : ReadsOn ArgsThen capped_arg (texts_of l.line l.tokens) (args_of l.found) (texts_of l.line l.rest);
}

abbrev pub decreases-found : goal.decreases-found
decreases-found l = length (texts_of l.line l.rest)
