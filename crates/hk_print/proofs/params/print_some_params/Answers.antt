use Rattle.std.proofs.Common.{◌++◌, codes}
use Rattle.hk_text.proofs.Appending.{AppendsFront-after, AppendsFront-first, OnErr-always, OnErr-then}
use Rattle.hk_print.specs.Printed.{comma_params, param_pieces}
use Rattle.hk_print.specs.Pieces.{spaced}
use Rattle.hk_print.proofs.Joined.{appended_after, AppendsFront-none, OnOk-then}
use Rattle.hk_print.proofs.params.print_some_params.Goals as goal

pub returns-in_err-print_param-clause-err : goal.returns-in_err-print_param-clause-err
returns-in_err-print_param-clause-err c =
    let first = spaced (param_pieces c.args.first.now) in
    let left = spaced (comma_params c.args.more.now) ++ codes " )" in
    OnErr-always c.from_residual-in_err-print_param.result
    (AppendsFront-after c.args.out.now c.push_all.new.self c.print_param.new.out (codes " (") (first ++ left) c.in_ok-push_all.ensures.ok
    (AppendsFront-first c.push_all.new.self c.print_param.new.out first left c.in_err-print_param.ensures.err))

pub returns-in_err-print_more_params-clause-err : goal.returns-in_err-print_more_params-clause-err
returns-in_err-print_more_params-clause-err c =
    let first = spaced (param_pieces c.args.first.now) in
    let more = spaced (comma_params c.args.more.now) in
    OnErr-always c.from_residual-in_err-print_more_params.result
    (AppendsFront-after c.args.out.now c.push_all.new.self c.print_more_params.new.out (codes " (") (first ++ (more ++ codes " )")) c.in_ok-push_all.ensures.ok
    (AppendsFront-after c.push_all.new.self c.print_param.new.out c.print_more_params.new.out first (more ++ codes " )") c.in_ok-print_param.ensures.ok
    (AppendsFront-first c.print_param.new.out c.print_more_params.new.out more (codes " )") c.in_err-print_more_params.ensures.err)))

pub returns-clause-ok : goal.returns-clause-ok
returns-clause-ok c =
    let first = spaced (param_pieces c.args.first.now) in
    let more = spaced (comma_params c.args.more.now) in
    OnOk-then c.push_all-2.result
    (λ ended.
    appended_after c.args.out.now c.push_all.new.self c.push_all-2.new.self (codes " (") (first ++ (more ++ codes " )")) c.in_ok-push_all.ensures.ok
    (appended_after c.push_all.new.self c.print_param.new.out c.push_all-2.new.self first (more ++ codes " )") c.in_ok-print_param.ensures.ok
    (appended_after c.print_param.new.out c.print_more_params.new.out c.push_all-2.new.self more (codes " )") c.in_ok-print_more_params.ensures.ok ended)))
    c.push_all-2.ensures.ok

pub returns-clause-err : goal.returns-clause-err
returns-clause-err c =
    let first = spaced (param_pieces c.args.first.now) in
    let more = spaced (comma_params c.args.more.now) in
    OnErr-then c.push_all-2.result
    (λ same.
    AppendsFront-after c.args.out.now c.push_all.new.self c.push_all-2.new.self (codes " (") (first ++ (more ++ codes " )")) c.in_ok-push_all.ensures.ok
    (AppendsFront-after c.push_all.new.self c.print_param.new.out c.push_all-2.new.self first (more ++ codes " )") c.in_ok-print_param.ensures.ok
    (AppendsFront-after c.print_param.new.out c.print_more_params.new.out c.push_all-2.new.self more (codes " )") c.in_ok-print_more_params.ensures.ok (AppendsFront-none c.print_more_params.new.out c.push_all-2.new.self (codes " )") same))))
    c.push_all-2.ensures.err
