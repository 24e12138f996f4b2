use Rattle.std.proofs.Common.{◌≡◌, ◌*◌, length, ap, sym, ◌∙◌}
use Rattle.std.proofs.lemmas.List.{with_items_is}
use Rattle.std.specs.Vec.{with_items}
use Rattle.hk_kinds.specs.Parts.{with_part}
use Rattle.hk_kinds.specs.Rows.{Rows}
use Rattle.hk_kinds.proofs.RowLists.{laid, laid_within, laid_write}
use Rattle.hk_kinds.proofs.rows.States.write_row.Goals as goal

pub write_at-requires : goal.write_at-requires
write_at-requires c =
    let wide : length c.as_slice.result.now ≡ c.self.inside.width = ap length c.as_slice.ensures ∙ (c.requires.width ∙ ap (λ (r : Rows). r.width) (sym c.self.view_is)) in
    rw wide (laid_within _ _ _ _ _ _ c.self.view_is c.self.invariant c.requires.place (ap length c.as_mut_slice.ensures.value))

pub returns : goal.returns
returns c =
    let wide : length c.as_slice.result.now ≡ c.self.inside.width = ap length c.as_slice.ensures ∙ (c.requires.width ∙ ap (λ (r : Rows). r.width) (sym c.self.view_is)) in
    let written : c.write_at.new.properties ≡ with_part (c.args.i * c.self.inside.width) c.args.state.now c.self.inside.properties.items = cc (c.write_at.ensures, c.as_slice.ensures, c.as_mut_slice.ensures.value, wide) in
    let items : (with_items c.self.inside.properties c.write_at.new.properties).items ≡ c.write_at.new.properties = with_items_is c.self.inside.properties _ (c.write_at.auto.properties ∙ c.as_mut_slice.ensures.len) in
    ap (laid c.self.inside.count c.self.inside.width) (items ∙ written) ∙ laid_write _ _ _ _ _ _ c.self.view_is c.self.invariant c.requires.place c.requires.width
