use Rattle.std.proofs.Common.{◌≡◌, ◌*◌, length, All, arith, sym, ◌∙◌, ap, subst}
use Rattle.std.proofs.lemmas.List.{length-map}
use Rattle.std.proofs.lemmas.List.Elements.{All-map}
use Rattle.hk_group.specs.Groups.{group_down_shape}
use Rattle.hk_kinds.specs.Shapes.{HasShape}
use Rattle.hk_layers.proofs.FlatUps.{rows_are, seen_downs}
use Rattle.hk_layers.specs.Layers.{Half}
use Rattle.hk_layers.proofs.way_up.up_layer.Goals as goal
use Rattle.hk_text.specs.Sets.{members}

pub raise_rows-requires-clause-downs : goal.raise_rows-requires-clause-downs
raise_rows-requires-clause-downs c =
    let shape = group_down_shape c.args.spot.now.group in
    subst (All (HasShape shape)) (sym (seen_downs _ _ _ _ c.front.view_is c.front.invariant)) (All-map (HasShape shape) (λ (half : Half). half.down) c.args.front.now.halves c.requires.front)

pub raise_rows-requires-clause-few : goal.raise_rows-requires-clause-few
raise_rows-requires-clause-few c = omega (arith, ap length (seen_downs _ _ _ _ c.front.view_is c.front.invariant), length-map c.args.front.now.halves (λ (half : Half). half.down))

pub raise_rows-requires-clause-leads : goal.raise_rows-requires-clause-leads
raise_rows-requires-clause-leads c =
    let long : length c.front.inside.downs.rows ≡ length c.args.front.now.halves = ap length (seen_downs _ _ _ _ c.front.view_is c.front.invariant) ∙ length-map c.args.front.now.halves _ in
    c.requires.leads ∙ ap (λ n. n * length (members c.args.spot.now.values)) (sym long)

pub returns-clause-up : goal.returns-clause-up
returns-clause-up c = λ marks steps next leads below.
    rows_are c.args.spot.now marks steps next _ _ _ _ _ _ (seen_downs _ _ _ _ c.front.view_is c.front.invariant) leads below c.in_ok-raise_rows.ensures.entries c.in_ok-raise_rows.ensures.ups
