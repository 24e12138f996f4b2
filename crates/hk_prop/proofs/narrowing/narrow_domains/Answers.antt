use Rattle.std.proofs.Common.{◌≡◌, ℕ, ◌<◌, ◌≤◌, List, length, slice_index, arith, sym, ap, ◌∙◌, subst}
use Rattle.hk_base.specs.Sets.{Has}
use Rattle.hk_prop.specs.Passes.{pruned}
use Rattle.hk_prop.specs.Supports.{all_allow}
use Rattle.hk_prop.specs.Works.{tables_of}
use Rattle.hk_prop.proofs.Prunings.{pruned_has}
use Rattle.hk_prop.proofs.narrowing.narrow_domains.Goals as goal

pub reduce_all-requires-clause-few : goal.reduce_all-requires-clause-few
reduce_all-requires-clause-few c =
    let valid = c.domains-model.ensures.valid in
    omega (arith, c.in_ok-narrow.ensures.long, c.requires.long, valid.named, valid.variables)

pub reduce_all-requires-clause-inside : goal.reduce_all-requires-clause-inside
reduce_all-requires-clause-inside c = λ x value within has.
    let p = c.args.problem.now in
    let old = c.args.sets.now in
    let inside : x < length old = omega (arith, within, c.in_ok-narrow.ensures.long) in
    let had = (pruned_has (all_allow p.domains p.groups (tables_of c.args.work.now)) old x value inside).0 (subst (λ (sets : List ℕ). Has (slice_index sets x) value) c.in_ok-narrow.ensures.narrow has) in
    subst (λ (sets : List ℕ). Has (slice_index sets x) value) c.requires.sets had.1

pub returns-clause-domains : goal.returns-clause-domains
returns-clause-domains c =
    let p = c.args.problem.now in
    c.in_ok-reduce_all.ensures.sets ∙ (c.in_ok-narrow.ensures.narrow ∙ ap (λ (sets : List ℕ). pruned p.domains p.groups (tables_of c.args.work.now) sets) c.requires.sets)
