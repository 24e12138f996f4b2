use Rattle.std.proofs.Common.{◌≡◌, ◌∷◌}
use Rattle.hk_spec.specs.Library.{counted, shifts_from, step_by}
use Rattle.hk_spec.specs.declared.expressions.Side.TheVariants.{Down}
use Rattle.hk_lib.proofs.sequences.steps.Given as goal

-- the first step, and the shifts of the places so far
abbrev pub invariant-loop-place : goal.invariant-loop-place
invariant-loop-place l = l.steps ≡ step_by Down counted ∷ shifts_from 0 l.place
