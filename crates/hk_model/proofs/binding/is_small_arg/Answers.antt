use Rattle.hk_model.proofs.PostFits.{small_set_arg}
use Rattle.hk_model.proofs.binding.is_small_arg.Goals as goal

pub returns-in-Set : goal.returns-in-Set
returns-in-Set c = small_set_arg c.args.count c.args.arg.now c.in-Set.set c.as_slice.result.now c.is_small_set.result c.in-Set.is c.as_slice.ensures c.is_small_set.ensures
