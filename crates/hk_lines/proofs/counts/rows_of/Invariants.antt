use Rattle.hk_text.specs.Tokens.{IsTokenIn}
use Rattle.std.proofs.Common.{All, length}
use Rattle.hk_text.specs.Texts.{texts_of}
use Rattle.hk_lines.specs.Plain.{rows_of}
use Rattle.hk_lines.specs.Shapes.{capped_row}
use Rattle.hk_lines.proofs.CountReading.{RowsThen}
use Rattle.hk_lines.proofs.Lists.{ReadsOn}
use Rattle.hk_lines.proofs.counts.rows_of.Given as goal

abbrev pub invariant-rows : goal.invariant-rows
invariant-rows l = record {
  tokens : All (IsTokenIn l.line) l.left;
  reads : ReadsOn RowsThen capped_row (texts_of l.line l.tokens) (rows_of l.rows) (texts_of l.line l.left);
}

abbrev pub decreases-rows : goal.decreases-rows
decreases-rows l = length (texts_of l.line l.left)
