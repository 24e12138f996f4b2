use Rattle.std.proofs.Common.{refl, sym, ◌∙◌, ap, arith}
use Rattle.hk_trail.specs.Levels.{Levels}
use Rattle.hk_trail.proofs.store.Store.pop.Goals as goal

pub returns-clause-written : goal.returns-clause-written
returns-clause-written g c =
    let nums = c.pop.ensures.written in
    let bits = c.pop-2.ensures.written in
    let words = c.pop-3.ensures.written in
    let written = ap (λ (v : Levels). v.written) c.self.view_is in (
      record { nums = nums.0; bits = bits.0; words = words.0 },
      sym written ∙ rw (nums.1, bits.1, words.1) refl,
      record { nums = nums.2; bits = bits.2; words = words.2 },
      omega (arith, nums.3, bits.3, words.3),
    )
