use Rattle.std.proofs.Common.{◌++◌, ◌∙◌, ap, arith, subst, sym, take_all}
use Rattle.std.specs.List.{flat_map}
use Rattle.std.proofs.lemmas.List.Folds.{flat_map-map}
use Rattle.hk_base.specs.Lists.{AppendsFront}
use Rattle.hk_spec.specs.declared.parts.PropDecl.{PropDecl}
use Rattle.hk_text.proofs.Appending.{AppendsFront-item, OnErr-always}
use Rattle.hk_print.specs.Printed.{property_line}
use Rattle.hk_print.specs.Pieces.{line_text}
use Rattle.hk_print.proofs.properties.print_properties.Goals as goal

pub returns-in_err-print_property-clause-err : goal.returns-in_err-print_property-clause-err
returns-in_err-print_property-clause-err c =
    let text = λ (p : PropDecl). line_text (property_line c.args.side.now p) in
    OnErr-always c.from_residual.result
    (subst (AppendsFront c.args.out.now c.print_property.new.out) (sym (flat_map-map line_text (property_line c.args.side.now) c.args.properties.now))
    (AppendsFront-item text c.args.properties.now c.loop-property.property-index c.property-item.result c.args.out.now c.loop-property.out c.print_property.new.out (omega arith) c.loop-property.invariant
    (subst (λ (p : PropDecl). AppendsFront c.loop-property.out c.print_property.new.out (text p)) c.property-item.is c.in_err-print_property.ensures.err)))

pub returns-clause-ok : goal.returns-clause-ok
returns-clause-ok c =
    let text = λ (p : PropDecl). line_text (property_line c.args.side.now p) in
    c.loop-property.invariant
    ∙ ap (λ properties. c.args.out.now ++ flat_map text properties) (take_all c.loop-property.property-index c.args.properties.now (omega arith))
    ∙ ap (λ xs. c.args.out.now ++ xs) (sym (flat_map-map line_text (property_line c.args.side.now) c.args.properties.now))
