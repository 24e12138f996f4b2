use Rattle.hk_text.specs.Tokens.{IsTokenIn}
use Rattle.std.proofs.Common.{All, length}
use Rattle.hk_text.specs.Texts.{texts_of}
use Rattle.hk_lines.specs.Posts.{NumbersThen}
use Rattle.hk_lines.specs.Shapes.{capped_signed}
use Rattle.hk_lines.proofs.Lists.{ReadsOn}
use Rattle.hk_lines.proofs.posts.numbers_of.Given as goal

abbrev pub invariant-numbers : goal.invariant-numbers
invariant-numbers l = record {
  tokens : All (IsTokenIn l.line) l.rest;
  reads : ReadsOn NumbersThen capped_signed (texts_of l.line l.tokens) l.numbers (texts_of l.line l.rest);
}

abbrev pub decreases-numbers : goal.decreases-numbers
decreases-numbers l = length (texts_of l.line l.rest)
