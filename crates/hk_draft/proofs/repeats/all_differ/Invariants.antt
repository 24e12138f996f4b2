use Rattle.std.proofs.Common.{◌≢◌, ℕ, ◌+◌, ◌<◌, get_or}
use Rattle.hk_draft.proofs.SortedTexts.{any_text}
use Rattle.hk_draft.proofs.repeats.all_differ.Given as goal

-- no text is the same as the next so far
abbrev pub invariant-loop-place : goal.invariant-loop-place
invariant-loop-place l = (k : ℕ) → k + 1 < l.place → (get_or l.texts k any_text).now ≢ (get_or l.texts (k + 1) any_text).now
