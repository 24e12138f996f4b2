use Rattle.std.proofs.Common.{not, true≢false, sym, ap, ◌∙◌, inl, inr}
use Rattle.hk_lines.specs.PostShapes.{args_of}
use Rattle.hk_model.proofs.PostFits.{some_large_arg}
use Rattle.hk_model.proofs.binding.post_passes_limit.Goals as goal

pub returns-then-not-has_room-clause-passes : goal.returns-then-not-has_room-clause-passes
returns-then-not-has_room-clause-passes c = λ _. inl (λ room. true≢false (sym (c.has_room.ensures.1 room) ∙ c.if-not-has_room.true))

pub returns-clause-passes : goal.returns-clause-passes
returns-clause-passes c = λ passes. inr (some_large_arg c.args.count (args_of c.args.args.now) (λ all. true≢false (sym passes ∙ ap not (c.are_small_args.ensures.1 all))))
