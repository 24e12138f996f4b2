use Rattle.std.proofs.Common.{◌*◌, ◌≤◌, All, arith, ap, subst, refl}
use Rattle.std.proofs.lemmas.List.{take_all}
use Rattle.std.proofs.lemmas.List.Elements.{All-more}
use Rattle.hk_group.specs.Groups.{PlainGroup}
use Rattle.hk_group.specs.Limits.{most_group_entries}
use Rattle.hk_group.specs.Widths.{group_values}
use Rattle.hk_group.proofs.widths.each_fits.Goals as goal

pub loop-group-preserved : goal.loop-group-preserved
loop-group-preserved c =
    All-more (λ (g : PlainGroup). c.args.width * group_values c.args.domains.now g ≤ most_group_entries) c.args.groups.now c.loop-group.group-index c.group-item.result c.loop-group-test.true c.loop-group.invariant
    (subst (λ (g : PlainGroup). c.args.width * group_values c.args.domains.now g ≤ most_group_entries) c.group-item.is (omega (arith, c.if-width-group_values-gt-GROUP_ENTRIES.false, ap (λ n. c.args.width * n) c.group_values.ensures.sum)))

pub returns : goal.returns
returns c =
    let every = take_all c.loop-group.group-index c.args.groups.now c.loop-group-test.false in
    ((λ some. subst (All (λ (g : PlainGroup). c.args.width * group_values c.args.domains.now g ≤ most_group_entries)) every c.loop-group.invariant), (λ all. refl))
