use Rattle.std.proofs.Common.{◌<◌, ◌≤◌, ℕ}
use Rattle.hk_layers.specs.inside.Marked.{IsAt}
use Rattle.hk_layers.proofs.marks.find.Given as goal

-- no candidate so far is the step
abbrev pub invariant-loop-number : goal.invariant-loop-number
invariant-loop-number l = (number : ℕ) → l.initial.first ≤ number → number < l.number → IsAt l.candidates.rows l.step number → ⊥
