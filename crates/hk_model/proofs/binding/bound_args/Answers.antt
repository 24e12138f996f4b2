use Rattle.std.proofs.Common.{◌≡◌, ◌++◌, ◌∷◌, [], sym, subst, rules}
use Rattle.hk_model.specs.Postings.{IsSmallArg, IsArgOf}
use Rattle.hk_lines.specs.PostShapes.{plain_arg}
use Rattle.hk_model.proofs.PostFits.{small_at, bound_more}
use Rattle.hk_model.proofs.binding.bound_args.Goals as goal

pub bound_arg-requires : goal.bound_arg-requires
bound_arg-requires c = (c.requires.0, subst (λ arg. IsSmallArg c.requires.0 (plain_arg arg)) (sym c.arg-item.is) (small_at c.requires.0 c.args.args.now c.loop-arg.arg-index c.arg-item.result c.loop-arg-test.true c.requires.1))

pub loop-arg-preserved : goal.loop-arg-preserved
loop-arg-preserved c =
    let is : IsArgOf (plain_arg c.arg-item.result) c.in_ok-bound_arg.field-0 = search rules in
    let pushed : c.push.new.self ≡ c.loop-arg.bound ++ c.in_ok-bound_arg.field-0 ∷ [] = search rules in
    bound_more c.args.args.now c.loop-arg.arg-index c.arg-item.result c.loop-arg.bound c.push.new.self c.in_ok-bound_arg.field-0 c.loop-arg-test.true c.loop-arg.invariant
    (subst (λ arg. IsArgOf (plain_arg arg) c.in_ok-bound_arg.field-0) c.arg-item.is is) pushed
