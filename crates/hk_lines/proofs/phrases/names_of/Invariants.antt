use Rattle.hk_text.specs.Tokens.{IsTokenIn}
use Rattle.std.proofs.Common.{All, length, map}
use Rattle.hk_text.specs.Texts.{texts_of}
use Rattle.hk_lines.specs.Phrases.{NamesThen}
use Rattle.hk_lines.proofs.Lists.{ReadsOn}
use Rattle.hk_lines.proofs.Membership.{now_of}
use Rattle.hk_lines.proofs.phrases.names_of.Given as goal

abbrev pub invariant-names : goal.invariant-names
invariant-names l = record {
  tokens : All (IsTokenIn l.line) l.rest;
  reads : ReadsOn NamesThen (λ name. name) (texts_of l.line l.tokens) (map now_of l.names) (texts_of l.line l.rest);
}

abbrev pub decreases-names : goal.decreases-names
decreases-names l = length (texts_of l.line l.rest)
