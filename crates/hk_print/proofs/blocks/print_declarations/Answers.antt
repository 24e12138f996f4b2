use Rattle.std.proofs.Common.{List, ◌++◌, codes, map, ap, subst, ◌∙◌}
use Rattle.hk_base.specs.Lists.{AppendsFront}
use Rattle.hk_spec.specs.Specifications.{Specification}
use Rattle.hk_spec.specs.declared.parts.PropDecl.{PropDecl}
use Rattle.hk_text.proofs.Appending.{AppendsFront-after, AppendsFront-first, OnErr-always}
use Rattle.hk_print.specs.Printed.{first_line, lines_text, property_line}
use Rattle.hk_print.specs.Pieces.{line_text}
use Rattle.hk_print.proofs.Lines.{lines_first}
use Rattle.hk_print.proofs.blocks.print_declarations.Goals as goal

pub returns-in_err-print_first_line-clause-err : goal.returns-in_err-print_first_line-clause-err
returns-in_err-print_first_line-clause-err c =
    let s = c.args.spec.now in
    let more = map (property_line (codes "down")) s.down ++ map (property_line (codes "up")) s.up in
    OnErr-always c.from_residual.result (AppendsFront-first c.args.out.now c.print_first_line.new.out (line_text (first_line s)) (lines_text more) c.in_err-print_first_line.ensures.err)

pub returns-in_err-print_properties-clause-err : goal.returns-in_err-print_properties-clause-err
returns-in_err-print_properties-clause-err c =
    let s = c.args.spec.now in
    let down = map (property_line (codes "down")) s.down in
    let up = map (property_line (codes "up")) s.up in
    let shown = c.as_slice.ensures ∙ ap (λ (s : Specification). s.down) c.spec.view_is in
    let part = subst (λ (all : List PropDecl). AppendsFront c.print_first_line.new.out c.print_properties.new.out (lines_text (map (property_line (codes "down")) all))) shown c.in_err-print_properties.ensures.err in
    OnErr-always c.from_residual-in_err-print_properties.result
    (AppendsFront-after c.args.out.now c.print_first_line.new.out c.print_properties.new.out (line_text (first_line s)) (lines_text (down ++ up)) c.in_ok-print_first_line.ensures.ok
    (lines_first c.print_first_line.new.out c.print_properties.new.out down up part))
