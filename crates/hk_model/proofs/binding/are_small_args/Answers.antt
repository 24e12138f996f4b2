use Rattle.std.proofs.Common.{All, true≢false, refl, sym, ◌∙◌, subst}
use Rattle.std.proofs.lemmas.List.{take_all}
use Rattle.hk_model.specs.Postings.{IsSmallArg}
use Rattle.hk_lines.specs.PostShapes.{plain_arg, args_of}
use Rattle.hk_model.proofs.PostFits.{small_at}
use Rattle.hk_model.proofs.binding.are_small_args.Goals as goal

pub returns-then-not-is_small_arg : goal.returns-then-not-is_small_arg
returns-then-not-is_small_arg c = (
  λ never. absurd (true≢false (sym never)),
  λ all.
      let small = subst (λ arg. IsSmallArg c.args.count (plain_arg arg)) (sym c.arg-item.is) (small_at c.args.count c.args.args.now c.loop-arg.arg-index c.arg-item.result c.loop-arg-test.true all) in
      absurd (true≢false (sym (c.is_small_arg.ensures.1 small) ∙ c.if-not-is_small_arg.true)),
)

pub returns : goal.returns
returns c = (
  λ _. subst (λ args. All (IsSmallArg c.args.count) (args_of args)) (take_all c.loop-arg.arg-index c.args.args.now c.loop-arg-test.false) c.loop-arg.invariant,
  λ _. refl,
)
