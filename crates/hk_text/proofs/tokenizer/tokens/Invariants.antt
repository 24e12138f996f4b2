use Rattle.std.proofs.Common.{◌≡◌, ◌+◌, List, ◌++◌, length}
use Rattle.hk_text.specs.declared.tokenizer.Token.{Token}
use Rattle.hk_text.specs.Tokens.{Ending, Splits}
use Rattle.hk_text.proofs.tokenizer.tokens.Given as goal

-- however the rest falls into tokens, the line falls into those found and these
abbrev pub invariant-tokens : goal.invariant-tokens
invariant-tokens l = record {
  splits : (ending : Ending) (others : List Token) → Splits ending l.place l.rest others → Splits ending 0 l.line (l.found ++ others);
  counted : l.place + length l.rest ≡ length l.line;
}

abbrev pub decreases-tokens : goal.decreases-tokens
decreases-tokens l = length l.rest
