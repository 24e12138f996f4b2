-- What is answered of where the passes of a node leave it.
use Rattle.std.specs.Prelude.{◌≡◌, ℕ, Option, None, Some}
use Rattle.hk_prop.specs.Contents.{Content, first_empty}
use Rattle.hk_prop.specs.declared.settled.Settled.{Settled}
use Rattle.hk_prop.specs.declared.settled.Settled.TheVariants as settled

-- the variable that an answer names
abbrev pub empty_of : Settled → Option ℕ
empty_of settled.Stands = None
empty_of (settled.Empty variable) = Some variable

-- the answer names the first variable without value, where there is one, and else no variable
abbrev pub IsSettled : Settled → Content → Type 0
IsSettled answer at = empty_of answer ≡ first_empty at.domains
