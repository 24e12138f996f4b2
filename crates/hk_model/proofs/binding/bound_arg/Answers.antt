use Rattle.std.proofs.Common.{◌≤◌, ◌<◌}
use Rattle.hk_group.specs.Limits.{value_count}
use Rattle.std.proofs.lemmas.List.Elements.{All-weaker}
use Rattle.hk_model.proofs.PostFits.{small_arg_set}
use Rattle.hk_model.proofs.binding.bound_arg.Goals as goal

pub set_of_values-requires-clause-ordered : goal.set_of_values-requires-clause-ordered
set_of_values-requires-clause-ordered c =
    All-weaker (λ values. (values.first ≤ values.last) × (values.last < value_count)) (λ values. values.first ≤ values.last) (λ values both. both.0) c.as_slice.result.now
    (small_arg_set c.requires.0 c.args.arg.now c.in-Set.set c.as_slice.result.now c.in-Set.is c.as_slice.ensures c.requires.1)

pub set_of_values-requires-clause-within : goal.set_of_values-requires-clause-within
set_of_values-requires-clause-within c =
    All-weaker (λ values. (values.first ≤ values.last) × (values.last < value_count)) (λ values. values.last < value_count) (λ values both. both.1) c.as_slice.result.now
    (small_arg_set c.requires.0 c.args.arg.now c.in-Set.set c.as_slice.result.now c.in-Set.is c.as_slice.ensures c.requires.1)
