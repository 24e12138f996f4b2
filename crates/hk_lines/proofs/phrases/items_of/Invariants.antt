use Rattle.hk_text.specs.Tokens.{IsTokenIn}
use Rattle.std.proofs.Common.{All, length}
use Rattle.hk_text.specs.Texts.{texts_of}
use Rattle.hk_lines.specs.Plain.{values_of}
use Rattle.hk_lines.specs.Phrases.{ItemsThen}
use Rattle.hk_lines.specs.Shapes.{capped_values}
use Rattle.hk_lines.proofs.Lists.{ReadsOn}
use Rattle.hk_lines.proofs.phrases.items_of.Given as goal

abbrev pub invariant-items : goal.invariant-items
invariant-items l = record {
  tokens : All (IsTokenIn l.line) l.rest;
  reads : ReadsOn ItemsThen capped_values (texts_of l.line l.tokens) (values_of l.items) (texts_of l.line l.rest);
}

abbrev pub decreases-items : goal.decreases-items
decreases-items l = length (texts_of l.line l.rest)
