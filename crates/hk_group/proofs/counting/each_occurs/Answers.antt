use Rattle.std.proofs.Common.{◌≡◌, ℕ, ℤ, pos, List, get_or, subst, ◌∙◌, refl}
use Rattle.std.proofs.lemmas.List.{take_all}
use Rattle.std.proofs.lemmas.List.Elements.{All-more}
use Rattle.hk_spec.specs.Meanings.{LiesFrom, occurrences, EachOccurs}
use Rattle.hk_group.specs.Solutions.{scope_values}
use Rattle.hk_group.proofs.SumSizes.{within_same}
use Rattle.hk_group.proofs.Counts.{lies_same}
use Rattle.hk_group.proofs.counting.each_occurs.Goals as goal

pub loop-row-preserved : goal.loop-row-preserved
loop-row-preserved c =
    let row = get_or c.args.rows.now c.loop-row.row-index (0, pos 0, pos 0) in
    let whole = scope_values c.args.scope.now c.args.values.now in
    let is = c.requires.rows c.loop-row.row-index (0, pos 0, pos 0) c.loop-row-test.true in
    let counted : c.from.result ≡ occurrences row.0 whole = c.from.ensures ∙ c.counts_of-counts.ensures row.0 is.small in
    All-more (λ (row : ℕ × ℤ × ℤ). LiesFrom row.1 row.2 (pos (occurrences row.0 whole))) c.args.rows.now c.loop-row.row-index (0, pos 0, pos 0) c.loop-row-test.true c.loop-row.invariant
    (lies_same (within_same row.1 is.bounds.least_within) (within_same row.2 is.bounds.most_within) counted (c.lies_from.ensures.0 c.if-not-lies_from.false))

pub returns : goal.returns
returns c =
    let every = take_all c.loop-row.row-index c.args.rows.now c.loop-row-test.false in
    ((λ some. subst (λ (rows : List (ℕ × ℤ × ℤ)). EachOccurs rows (scope_values c.args.scope.now c.args.values.now)) every c.loop-row.invariant), (λ all. refl))
