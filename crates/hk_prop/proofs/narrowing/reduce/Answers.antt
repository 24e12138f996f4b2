use Rattle.std.proofs.Common.{◌↔◌, ◌<◌, ◌^◌, bit_and, slice_index, ap, ◌∙◌, subst}
use Rattle.std.specs.Prelude.{slice_set}
use Rattle.std.specs.Int.{bit_not, w128}
use Rattle.hk_base.specs.Sets.{Has}
use Rattle.hk_prop.proofs.Removals.{lacking, reduced_is}
use Rattle.hk_prop.proofs.narrowing.reduce.Goals as goal

pub returns-clause-sets : goal.returns-clause-sets
returns-clause-sets c =
    let x = c.args.variable in
    let old = c.args.domains.now.sets in
    let new = c.remove_all.new.domains.sets in
    let set = c.args.set in
    let small = c.ranges.set.fits in
    let gone = bit_and c.values-had.result (bit_not w128 set) in
    let had_is = c.values-had.ensures.set in
    let now_small : slice_index new x < 2 ^ 128 = subst (λ n. n < 2 ^ 128) c.values-left.ensures.set c.values-left.ensures.within in
    c.in_ok-remove_all.ensures.others ∙ ap (λ s. slice_set old x s)
    (reduced_is (slice_index old x) set (slice_index new x) gone small now_small (λ v low. subst (λ h. Has gone v ↔ (Has h v × (Has set v → ⊥))) had_is (lacking c.values-had.result set v small low)) c.requires.inside c.in_ok-remove_all.ensures.removed)
