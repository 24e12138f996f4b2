use Rattle.std.proofs.Common.{List, ◌++◌, codes, ap, subst, ◌∙◌}
use Rattle.hk_base.specs.Lists.{AppendsFront}
use Rattle.hk_spec.specs.Specifications.{Specification}
use Rattle.hk_spec.specs.declared.parts.Param.{Param}
use Rattle.hk_text.proofs.Appending.{OnErr-always, OnErr-then}
use Rattle.hk_print.specs.Printed.{params_pieces}
use Rattle.hk_print.specs.Pieces.{spaced}
use Rattle.hk_print.proofs.Joined.{OnOk-then}
use Rattle.hk_print.proofs.Lines.{line_end, line_name, line_rest, line_whole}
use Rattle.hk_print.proofs.blocks.print_first_line.Goals as goal

pub returns-in_err-print_word-clause-err : goal.returns-in_err-print_word-clause-err
returns-in_err-print_word-clause-err c =
    let named = c.as_slice.ensures ∙ ap (λ (s : Specification). s.name) c.spec.view_is in
    OnErr-always c.from_residual-in_err-print_word.result
    (line_name (codes "spec") c.args.spec.now.name c.as_slice.result.now (params_pieces c.args.spec.now.params) c.args.out.now c.push_all.new.self c.print_word.new.out named c.in_ok-push_all.ensures.ok c.in_err-print_word.ensures.err)

pub returns-in_err-print_params-clause-err : goal.returns-in_err-print_params-clause-err
returns-in_err-print_params-clause-err c =
    let named = c.as_slice.ensures ∙ ap (λ (s : Specification). s.name) c.spec.view_is in
    let params = c.as_slice-2.ensures ∙ ap (λ (s : Specification). s.params) c.spec.view_is in
    let part = subst (λ (all : List Param). AppendsFront c.print_word.new.out c.print_params.new.out (spaced (params_pieces all))) params c.in_err-print_params.ensures.err in
    OnErr-always c.from_residual-in_err-print_params.result
    (line_rest (codes "spec") c.args.spec.now.name c.as_slice.result.now (params_pieces c.args.spec.now.params) c.args.out.now c.push_all.new.self c.print_word.new.out c.print_params.new.out named c.in_ok-push_all.ensures.ok c.in_ok-print_word.ensures.ok part)

pub returns-clause-ok : goal.returns-clause-ok
returns-clause-ok c =
    let named = c.as_slice.ensures ∙ ap (λ (s : Specification). s.name) c.spec.view_is in
    let params = c.as_slice-2.ensures ∙ ap (λ (s : Specification). s.params) c.spec.view_is in
    let rest = c.in_ok-print_params.ensures.ok ∙ ap (λ (all : List Param). c.print_word.new.out ++ spaced (params_pieces all)) params in
    OnOk-then c.push_all-2.result
    (line_whole (codes "spec") c.args.spec.now.name c.as_slice.result.now (params_pieces c.args.spec.now.params) c.args.out.now c.push_all.new.self c.print_word.new.out c.print_params.new.out c.push_all-2.new.self named c.in_ok-push_all.ensures.ok c.in_ok-print_word.ensures.ok rest)
    c.push_all-2.ensures.ok

pub returns-clause-err : goal.returns-clause-err
returns-clause-err c =
    let named = c.as_slice.ensures ∙ ap (λ (s : Specification). s.name) c.spec.view_is in
    let params = c.as_slice-2.ensures ∙ ap (λ (s : Specification). s.params) c.spec.view_is in
    let rest = c.in_ok-print_params.ensures.ok ∙ ap (λ (all : List Param). c.print_word.new.out ++ spaced (params_pieces all)) params in
    OnErr-then c.push_all-2.result
    (line_end (codes "spec") c.args.spec.now.name c.as_slice.result.now (params_pieces c.args.spec.now.params) c.args.out.now c.push_all.new.self c.print_word.new.out c.print_params.new.out c.push_all-2.new.self named c.in_ok-push_all.ensures.ok c.in_ok-print_word.ensures.ok rest)
    c.push_all-2.ensures.err
