use Rattle.std.proofs.Common.{refl}
use Rattle.hk_arena.proofs.Properties.{length-shape}
use Rattle.hk_arena.proofs.states.read_state.Goals as goal

pub loop-at-init : goal.loop-at-init
loop-at-init c = record { nums = refl; sets = refl; long = length-shape c.requires.shape; left = refl }
