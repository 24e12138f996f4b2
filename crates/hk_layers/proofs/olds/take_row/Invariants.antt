use Rattle.std.proofs.Common.{◌≡◌, length, get_or}
use Rattle.hk_table.specs.declared.entries.Entry.TheVariants.{Gone}
use Rattle.hk_layers.proofs.Targets.{TakenUpTo}
use Rattle.hk_layers.specs.inside.Targets.{leads_to}
use Rattle.hk_layers.proofs.olds.take_row.Given as goal

-- the entries before this one are taken in
abbrev pub invariant-loop-place : goal.invariant-loop-place
invariant-loop-place l = record {
  long : length l.sets ≡ length l.fn.sets;
  taken : TakenUpTo (λ place. leads_to l.count (get_or l.entries place Gone)) l.fn.sets l.sets l.place;
}
