use Rattle.std.proofs.Common.{[], inr, All, sym, subst}
use Rattle.std.proofs.lemmas.List.Elements.{All-push}
use Rattle.hk_group.specs.Groups.{IsGroup}
use Rattle.hk_draft.specs.declared.items.Item.{Item}
use Rattle.hk_draft.specs.Items.{gather}
use Rattle.hk_draft.specs.inside.Items.{AreSmallItems, IsSmallRule}
use Rattle.hk_draft.proofs.Runs.{gathered_more, all_back}
use Rattle.hk_draft.proofs.grouping.push_groups.Goals as goal

pub groups-preserved : goal.groups-preserved
groups-preserved c =
    let inv = c.groups.invariant in
    let run = c.first_run.result.0.now in
    let after = c.first_run.result.1.now in
    let group = c.in_ok-composed.field-0 in
    record {
      gathered =
          gathered_more c.groups.groups c.push.new.self group c.groups.rest.now run after (gather [] c.args.items.now) inv.gathered inv.begins
          c.first_run.ensures.parts c.first_run.ensures.run c.in_ok-composed.ensures.parts c.in_ok-push.ensures.ok;
      begins = inr c.first_run.ensures.next;
      composed = subst (All IsGroup) (sym c.in_ok-push.ensures.ok) (All-push IsGroup c.groups.groups group inv.composed c.in_ok-composed.ensures.rules);
      small = all_back (λ (item : Item). IsSmallRule item.rule) run after (subst AreSmallItems c.first_run.ensures.parts inv.small);
    }
