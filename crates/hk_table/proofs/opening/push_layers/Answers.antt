use Rattle.std.proofs.Common.{◌≡◌, ◌∷◌, ◌++◌, [], map, sym, ◌∙◌, ap, subst, arith, OnOk}
use Rattle.std.proofs.lemmas.List.{drop_all}
use Rattle.hk_table.proofs.ValueSets.{members-none}
use Rattle.hk_table.specs.Opening.{opening_layers, opening_row}
use Rattle.hk_table.proofs.opening.push_layers.Goals as goal
use Rattle.hk_text.specs.Sets.{members}

pub returns : goal.returns
returns c =
    let down = c.args.shape.now.down in
    let up = c.args.shape.now.up in
    let sets = c.as_slice-set-items.result.now in
    let none = drop_all c.loop-set.set-index sets (omega arith) in
    subst (λ layers. OnOk c.push_layer-2.result (c.push_layer-2.new.layers ≡ layers))
    (sym (c.loop-set.invariant
    ∙ ap (λ sets. c.loop-set.layers ++ opening_layers down up (map members sets)) none
    ∙ ap (λ values. c.loop-set.layers ++ (opening_row down up values ∷ []) ∷ []) (sym members-none)))
    c.push_layer-2.ensures
