use Rattle.std.proofs.Common.{◌++◌, ◌∙◌, List, ℕ, ap, arith, codes, subst, sym, take_all}
use Rattle.std.specs.List.{flat_map}
use Rattle.hk_base.specs.Lists.{AppendsFront}
use Rattle.hk_spec.specs.declared.parts.Param.{Param}
use Rattle.hk_text.proofs.Appending.{AppendsFront-item, OnErr-always}
use Rattle.hk_print.specs.Printed.{param_pieces}
use Rattle.hk_print.specs.Pieces.{piece, spaced}
use Rattle.hk_print.proofs.Spacing.{spaced_items}
use Rattle.hk_print.proofs.params.print_more_params.Goals as goal

next : Param → List (List (List ℕ))
next param = piece (codes ",") ++ param_pieces param

pub returns-in_err-print_next_param-clause-err : goal.returns-in_err-print_next_param-clause-err
unfolding next
returns-in_err-print_next_param-clause-err c =
    let text = λ (param : Param). spaced (next param) in
    OnErr-always c.from_residual.result
    (subst (AppendsFront c.args.out.now c.print_next_param.new.out) (sym (spaced_items next c.args.params.now))
    (AppendsFront-item text c.args.params.now c.loop-param.param-index c.param-item.result c.args.out.now c.loop-param.out c.print_next_param.new.out (omega arith) c.loop-param.invariant
    (subst (λ (param : Param). AppendsFront c.loop-param.out c.print_next_param.new.out (text param)) c.param-item.is c.in_err-print_next_param.ensures.err)))

pub returns-clause-ok : goal.returns-clause-ok
unfolding next
returns-clause-ok c =
    c.loop-param.invariant
    ∙ ap (λ params. c.args.out.now ++ flat_map (λ (param : Param). spaced (next param)) params) (take_all c.loop-param.param-index c.args.params.now (omega arith))
    ∙ ap (λ xs. c.args.out.now ++ xs) (sym (spaced_items next c.args.params.now))
