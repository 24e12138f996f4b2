-- The one refusal of the bytes of a model that spell no problem.
use Rattle.std.specs.Prelude.{◌≡◌, ℕ, ◌+◌, ◌⊎◌, List, length, None, IsSome}
use Rattle.hk_text.specs.Lines.{lines}
use Rattle.hk_model.specs.declared.refusal.ModelError.{ModelError}
use Rattle.hk_model.specs.declared.refusal.ModelError.TheVariants.{Refused, Memory}
use Rattle.hk_draft.specs.declared.kinds.RefusalKind.{RefusalKind}
use Rattle.hk_draft.specs.declared.kinds.RefusalKind.TheVariants.{Unfinished}
use Rattle.hk_model.specs.LineFaults.{IsFirstFault}
use Rattle.hk_model.specs.Models.{Declared, nothing_declared, AreGoodLines, IsFirstBadLine}

-- the refusal of a model: its first bad line, with the first kind of its faults; where all lines are good and there is no header, or a specification is left open, the line after the last, as Unfinished
pub data IsRefusal : List ℕ → ℕ → RefusalKind → Type 0 where
  refused_line : {bytes line : List ℕ} {number : ℕ} {before : Declared} {kind : RefusalKind}
      → IsFirstBadLine bytes number line before → IsFirstFault before line kind → IsRefusal bytes number kind
  no_end : {bytes : List ℕ} {after : Declared} → AreGoodLines nothing_declared (lines bytes) after → (after.problem ≡ None) ⊎ IsSome after.block
      → IsRefusal bytes (length (lines bytes) + 1) Unfinished

-- what an answer other than a problem says of the bytes of a model: the refusal is theirs; want of memory says nothing
abbrev pub IsErrorOf : List ℕ → ModelError → Type 0
IsErrorOf bytes (Refused refusal) = IsRefusal bytes refusal.line refusal.kind
IsErrorOf bytes Memory = Unit {0}
