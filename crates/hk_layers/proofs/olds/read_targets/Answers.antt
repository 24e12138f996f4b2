use Rattle.std.proofs.Common.{length, ◌∙◌, ap}
use Rattle.hk_layers.proofs.Targets.{TakeIn-empty, empty_long, held_targets, held_within}
use Rattle.hk_layers.specs.Spots.{PlainSpot}
use Rattle.hk_layers.proofs.olds.read_targets.Goals as goal
use Rattle.hk_text.specs.Sets.{members}

pub returns-clause-targets : goal.returns-clause-targets
returns-clause-targets c = λ old old_next rows next are.
    let count = c.value_count.ensures ∙ ap (λ (s : PlainSpot). length (members s.values)) c.spot.view_is in
    let long = empty_long _ _ _ _ c.take_into.ensures.long c.in_ok-empty_sets.ensures count in
    held_targets c.args.spot.now _ _ _ _ old old_next c.requires.count long rows next are (TakeIn-empty _ _ _ _ _ _ _ c.in_ok-empty_sets.ensures count c.take_into.ensures.taken)

pub returns-clause-within : goal.returns-clause-within
returns-clause-within c =
    let count = c.value_count.ensures ∙ ap (λ (s : PlainSpot). length (members s.values)) c.spot.view_is in
    let long = empty_long _ _ _ _ c.take_into.ensures.long c.in_ok-empty_sets.ensures count in
    held_within _ _ _ _ _ (TakeIn-empty _ _ _ _ _ _ _ c.in_ok-empty_sets.ensures count c.take_into.ensures.taken) long
