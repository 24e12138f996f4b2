use Rattle.std.proofs.Common.{◌≡◌, List, ℕ, ◌||◌, sym, ap, ◌∙◌}
use Rattle.std.specs.List.{list_any}
use Rattle.std.specs.Str.{bytes_eq}
use Rattle.std.proofs.lemmas.Bool.{or_left, or_right}
use Rattle.hk_spec.specs.declared.parts.Param.{Param}
use Rattle.hk_spec.specs.declared.parts.PropDecl.{PropDecl}
use Rattle.hk_parse.specs.BlockLines.{Part, part_names}
use Rattle.hk_parse.proofs.PartsGrow.{name_found}
use Rattle.hk_parse.proofs.blocks.Block.has_name.Goals as goal

-- the tests on the lists of the struct are those on what the contract sees
found_in : (name : List ℕ) (view part : Part) → view ≡ part →
    list_any (bytes_eq name) (part_names part) ≡ (list_any (λ (p : Param). bytes_eq name p.name) view.params || (list_any (λ (p : PropDecl). bytes_eq name p.name) view.down || list_any (λ (p : PropDecl). bytes_eq name p.name) view.up))
found_in name view part same = ap (λ p. list_any (bytes_eq name) (part_names p)) (sym same) ∙ name_found view name

pub returns-then-has_param : goal.returns-then-has_param
returns-then-has_param c =
    let also = λ (p : Param). bytes_eq c.args.name.now p.name in
    sym (found_in c.args.name.now _ c.args.self.now c.self.view_is ∙ or_left _ _ (ap (list_any also) (sym c.as_slice.ensures) ∙ sym c.has_param.ensures ∙ c.if-has_param.true))

pub returns-then-has_property : goal.returns-then-has_property
returns-then-has_property c =
    let test = λ (p : PropDecl). bytes_eq c.args.name.now p.name in
    sym (found_in c.args.name.now _ c.args.self.now c.self.view_is ∙ or_right _ _ (or_left _ _ (ap (list_any test) (sym c.as_slice-2.ensures) ∙ sym c.has_property.ensures ∙ c.if-has_property.true)))

pub returns : goal.returns
returns c =
    let test = λ (p : PropDecl). bytes_eq c.args.name.now p.name in
    let also = λ (p : Param). bytes_eq c.args.name.now p.name in
    let no_params = ap (list_any also) (sym c.as_slice.ensures) ∙ sym c.has_param.ensures ∙ c.if-has_param.false in
    let no_down = ap (list_any test) (sym c.as_slice-2.ensures) ∙ sym c.has_property.ensures ∙ c.if-has_property.false in
    sym (found_in c.args.name.now _ c.args.self.now c.self.view_is ∙ ap (λ b. b || (list_any test c.self.inside.down || list_any test c.self.inside.up)) no_params ∙ ap (λ b. b || list_any test c.self.inside.up) no_down ∙ ap (list_any test) (sym c.as_slice-3.ensures) ∙ sym c.has_property-2.ensures)
