-- What the steps of the tokenizer answer.
use Rattle.std.specs.Prelude.{◌≡◌, List, ℕ, ◌≤◌, ◌<◌}
use Rattle.hk_text.specs.declared.tokenizer.Next.{Next}
use Rattle.hk_text.specs.declared.tokenizer.Next.TheVariants.{Found, Quiet, Stuck}
use Rattle.hk_text.specs.declared.tokenizer.TextFault.{TextFault}
use Rattle.hk_text.specs.declared.tokenizer.TextFault.TheVariants.{NotAscii, BadByte, Memory}
use Rattle.hk_text.specs.Tokens.{BeginsWith, IsQuiet, IsStuck}

-- what comes first in bytes that stand at `place` in their line
abbrev pub ComesNext : ℕ → List ℕ → Next → Type 0
ComesNext place bytes (Found token rest) = BeginsWith place bytes token rest.now
ComesNext place bytes Quiet = IsQuiet bytes
ComesNext place bytes (Stuck column byte) = IsStuck place bytes column byte

-- the fault of a bad byte in this column: whether it is ASCII, and the column
abbrev pub IsFaultAt : ℕ → ℕ → TextFault → Type 0
IsFaultAt column byte (NotAscii named) = (named ≡ column) × (128 ≤ byte)
IsFaultAt column byte (BadByte named) = (named ≡ column) × (byte < 128)
IsFaultAt column byte Memory = ⊥
