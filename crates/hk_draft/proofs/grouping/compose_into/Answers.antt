use Rattle.hk_draft.proofs.SmallItems.{specs_some}
use Rattle.hk_draft.proofs.grouping.compose_into.Goals as goal

pub compose-requires-clause-some : goal.compose-requires-clause-some
compose-requires-clause-some c =
    specs_some c.push_items.new.specs c.push_items.new.scopes c.args.items.now c.in_ok-push_items.ensures.lengths c.in_ok-push_items.ensures.parts c.requires.some c.requires.small
