-- The lines of a text.
use Rattle.std.specs.Prelude.{List, [], ◌∷◌, ℕ, ◌==◌, if◌then◌else◌}

-- the lines with the byte put in front of the first
abbrev pub with_first : ℕ → List (List ℕ) → List (List ℕ)
with_first byte [] = (byte ∷ []) ∷ []
with_first byte (line ∷ more) = (byte ∷ line) ∷ more

-- the lines of a text: each is ended by LF, and bytes after the last LF are a line where there are any
abbrev pub lines : List ℕ → List (List ℕ)
lines [] = []
lines (byte ∷ rest) = if byte == 10 then ([] ∷ lines rest) else with_first byte (lines rest)
