-- Texts that references point to.
use Rattle.std.proofs.Common.{ℕ, List, Bor}

-- the text behind a reference
abbrev pub now_of : Bor (List ℕ) → List ℕ
now_of text = text.now
