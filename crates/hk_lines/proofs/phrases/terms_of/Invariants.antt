use Rattle.hk_text.specs.Tokens.{IsTokenIn}
use Rattle.std.proofs.Common.{All, length}
use Rattle.hk_text.specs.Texts.{texts_of}
use Rattle.hk_lines.specs.Plain.{terms_of}
use Rattle.hk_lines.specs.Phrases.{TermsThen}
use Rattle.hk_lines.specs.Shapes.{capped_term}
use Rattle.hk_lines.proofs.Lists.{ReadsOn}
use Rattle.hk_lines.proofs.phrases.terms_of.Given as goal

abbrev pub invariant-terms : goal.invariant-terms
invariant-terms l = record {
  tokens : All (IsTokenIn l.line) l.rest;
  reads : ReadsOn TermsThen capped_term (texts_of l.line l.tokens) (terms_of l.terms) (texts_of l.line l.rest);
}

abbrev pub decreases-terms : goal.decreases-terms
decreases-terms l = length (texts_of l.line l.rest)
