use Rattle.std.proofs.Common.{◌≡◌, ◌+◌, length, map}
use Rattle.hk_layers.proofs.Targets.{TakesRest}
use Rattle.hk_layers.proofs.olds.take_half.Given as goal
use Rattle.hk_text.specs.Sets.{members}

-- what the entries of the rows that are left lead to is still to be taken in
abbrev pub invariant-loop-turn : goal.invariant-loop-turn
invariant-loop-turn l = record {
  long : length l.sets ≡ length l.fn.sets;
  turns : l._turn + length (members l.left) ≡ length (members l.half);
  taken : TakesRest l.olds (length l.fn.sets) l.count (map (λ row. l.first + row) (members l.half)) (map (λ row. l.first + row) (members l.left)) l.fn.sets l.sets;
}
