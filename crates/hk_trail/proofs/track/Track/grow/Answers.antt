use Rattle.std.proofs.Common.{◌≡◌, length, reverse, replicate, length-append, refl, sym, ◌∙◌, ap, arith}
use Rattle.std.proofs.Math.ListN.{length-replicate}
use Rattle.hk_trail.specs.Levels.{PoolLevels}
use Rattle.hk_trail.proofs.Levelling.{length-stack, saved_contents-closed}
use Rattle.hk_trail.proofs.Marking.{none-resized, IsKept-grown}
use Rattle.hk_trail.proofs.track.Track.grow.Goals as goal

pub invariant_of-self-in_err-grow : goal.invariant_of-self-in_err-grow
invariant_of-self-in_err-grow g c =
    let stack = ap (λ (v : PoolLevels g.row.T.Denot). v.stack) c.self.view_is in
    let closed : length c.self.inside.below.items ≡ 0 = sym (length-stack c.self.inside.entries c.self.inside.below.items (reverse c.self.inside.log.items) c.self.inside.cells) ∙ (ap length stack ∙ c.requires.depth) in
    IsKept-grown c.self.inside.cells c.grow.new.self c.self.inside.stamps.items c.resize.new.self.items c.self.inside.log.items c.self.inside.entries c.self.inside.below.items c.self.invariant closed (λ none. none-resized _ _ none (λ k d new old. c.in_ok-resize.ensures.by_index.0 k d (omega (arith, c.in_ok-resize.ensures.len, c.resize.new.self.ok)) (omega (arith, c.self.inside.stamps.ok)))
    (λ k d old new. c.in_ok-resize.ensures.by_index.1 k d refl (omega (arith, c.self.inside.stamps.ok)) (omega (arith, c.in_ok-resize.ensures.len, c.resize.new.self.ok))))
    (omega (arith, ap length c.in_err-grow.ensures.refused, c.in_ok-resize.ensures.len, c.resize.new.self.ok, c.len-len.ensures))

pub invariant_of-self-2 : goal.invariant_of-self-2
invariant_of-self-2 g c =
    let stack = ap (λ (v : PoolLevels g.row.T.Denot). v.stack) c.self.view_is in
    let closed : length c.self.inside.below.items ≡ 0 = sym (length-stack c.self.inside.entries c.self.inside.below.items (reverse c.self.inside.log.items) c.self.inside.cells) ∙ (ap length stack ∙ c.requires.depth) in
    IsKept-grown c.self.inside.cells c.grow.new.self c.self.inside.stamps.items c.resize.new.self.items c.self.inside.log.items c.self.inside.entries c.self.inside.below.items c.self.invariant closed (λ none. none-resized _ _ none (λ k d new old. c.in_ok-resize.ensures.by_index.0 k d (omega (arith, c.in_ok-resize.ensures.len, c.resize.new.self.ok)) (omega (arith, c.self.inside.stamps.ok)))
    (λ k d old new. c.in_ok-resize.ensures.by_index.1 k d refl (omega (arith, c.self.inside.stamps.ok)) (omega (arith, c.in_ok-resize.ensures.len, c.resize.new.self.ok))))
    (omega (arith, ap length c.in_ok-grow.ensures.ok, length-append c.self.inside.cells (replicate c.args.n c.args.value), length-replicate c.args.n c.args.value, c.in_ok-resize.ensures.len, c.resize.new.self.ok, c.len-len.ensures))

pub returns-clause-stack : goal.returns-clause-stack
returns-clause-stack g c =
    let stack = ap (λ (v : PoolLevels g.row.T.Denot). v.stack) c.self.view_is in
    let closed : length c.self.inside.below.items ≡ 0 = sym (length-stack c.self.inside.entries c.self.inside.below.items (reverse c.self.inside.log.items) c.self.inside.cells) ∙ (ap length stack ∙ c.requires.depth) in
    saved_contents-closed _ _ _ _ _ closed ∙ stack
