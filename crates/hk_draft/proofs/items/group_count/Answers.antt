use Rattle.std.proofs.Common.{◌≡◌, ◌≤◌, ◌+◌, List, ◌∷◌, max, drop, sym, ap, subst, ◌∙◌}
use Rattle.std.proofs.lemmas.List.{drop_more}
use Rattle.hk_group.specs.Groups.{Part}
use Rattle.hk_draft.specs.declared.items.Item.{Item}
use Rattle.hk_draft.specs.Drafts.{put}
use Rattle.hk_draft.specs.Items.{gather, rule_parts}
use Rattle.hk_draft.proofs.MoreItems.{put_count, few_more, one_of, one_if}
use Rattle.hk_draft.proofs.items.group_count.Goals as goal

pub loop-item-preserved : goal.loop-item-preserved
loop-item-preserved c =
    let groups : List (List Part) = c.loop-item.invariant.0 in
    let item : Item = c.item-item.result in
    let index = c.loop-item.item-index in
    let here : drop index c.args.items.now ≡ item ∷ drop (index + 1) c.args.items.now =
    drop_more c.args.items.now index item c.loop-item-test.true ∙ ap (λ (first : Item). first ∷ drop (index + 1) c.args.items.now) (sym c.item-item.is) in
    let counted : c.max-count.result ≡ max (c.loop-item.count + one_if item.starts) 1 = c.max-count.ensures ∙ ap (λ n. max (c.loop-item.count + n) 1) (c.from.ensures ∙ one_of item.starts) in (
      put item.starts groups (rule_parts item.rule),
      put_count item.starts groups (rule_parts item.rule) ∙ ap (λ n. max (n + one_if item.starts) 1) c.loop-item.invariant.1 ∙ sym counted,
      ap (gather groups) (sym here) ∙ c.loop-item.invariant.2,
      subst (λ n. n ≤ index + 1) (sym counted) (few_more item.starts c.loop-item.count index c.loop-item.invariant.3),
    )
