use Rattle.std.proofs.Common.{length, All, ◌<◌}
use Rattle.hk_text.specs.Texts.{texts_of}
use Rattle.hk_text.specs.Tokens.{IsTokenIn}
use Rattle.hk_terms.proofs.NumbersRead.{IsReading}
use Rattle.hk_terms.proofs.braces.values_of.Given as goal

abbrev pub invariant-numbers : goal.invariant-numbers
invariant-numbers l = record {
  reading : IsReading (texts_of l.line l.tokens) l.last l.made (texts_of l.line l.left);
  tokens : All (IsTokenIn l.line) l.left;
  shorter : length l.left < length l.tokens;
}

abbrev pub decreases-numbers : goal.decreases-numbers
decreases-numbers l = length l.left
