use Rattle.std.proofs.Common.{◌≡◌, ◌↔◌, ℕ, ◌<◌, length, slice_index}
use Rattle.std.specs.Prelude.{slice_set}
use Rattle.hk_base.specs.Sets.{Has}
use Rattle.hk_text.specs.Sets.{members}
use Rattle.hk_prop.proofs.narrowing.remove_all.Given as goal

-- of the values that are to go, those that aren't left are gone
abbrev pub invariant-values : goal.invariant-values
invariant-values l = record {
  long : length l.domains.sets ≡ length l.fn.domains.sets;
  others : l.domains.sets ≡ slice_set l.fn.domains.sets l.variable (slice_index l.domains.sets l.variable);
  within : (value : ℕ) → value < 128 → Has l.left value → Has l.gone value;
  removed : (value : ℕ) → value < 128 → Has (slice_index l.domains.sets l.variable) value ↔ (Has (slice_index l.fn.domains.sets l.variable) value × (Has l.gone value → Has l.left value));
  stack : l.domains.stack ≡ l.fn.domains.stack;
}

abbrev pub decreases-values : goal.decreases-values
decreases-values l = length (members l.left)
