use Rattle.std.proofs.Common.{◌≡◌, ◌*◌, [], length, get_or, ap, sym, ◌∙◌}
use Rattle.std.proofs.lemmas.List.{with_items_is}
use Rattle.std.specs.Vec.{with_items}
use Rattle.hk_kinds.specs.Joins.{state_join}
use Rattle.hk_kinds.specs.Parts.{part_at, with_part}
use Rattle.hk_kinds.specs.Rows.{Rows}
use Rattle.hk_kinds.proofs.RowLists.{laid, laid_within, laid_at, laid_wide, laid_write, length-state_join}
use Rattle.hk_kinds.proofs.rows.States.join_row.Goals as goal

pub join_at-requires-clause-place : goal.join_at-requires-clause-place
join_at-requires-clause-place c =
    let wide : length c.as_slice.result.now ≡ c.self.inside.width = ap length c.as_slice.ensures ∙ (c.requires.kinds ∙ ap (λ (r : Rows). r.width) (sym c.self.view_is)) in
    rw wide (laid_within _ _ _ _ _ _ c.self.view_is c.self.invariant c.requires.place (ap length c.as_mut_slice.ensures.value))

pub returns : goal.returns
returns c =
    let wide : length c.as_slice.result.now ≡ c.self.inside.width = ap length c.as_slice.ensures ∙ (c.requires.kinds ∙ ap (λ (r : Rows). r.width) (sym c.self.view_is)) in
    let there : part_at (c.args.i * c.self.inside.width) c.self.inside.width c.self.inside.properties.items ≡ get_or c.args.self.now.rows c.args.i [] = laid_at _ _ _ _ _ c.self.view_is c.requires.place in
    let joined : c.join_at.new.properties ≡ with_part (c.args.i * c.self.inside.width) (state_join c.args.shape.now (get_or c.args.self.now.rows c.args.i []) c.args.state.now) c.self.inside.properties.items = cc (c.join_at.ensures, c.as_slice.ensures, c.as_slice-2.ensures, c.as_mut_slice.ensures.value, wide, there) in
    let items : (with_items c.self.inside.properties c.join_at.new.properties).items ≡ c.join_at.new.properties = with_items_is c.self.inside.properties _ (c.join_at.auto.properties ∙ c.as_mut_slice.ensures.len) in
    let row : length (state_join c.args.shape.now (get_or c.args.self.now.rows c.args.i []) c.args.state.now) ≡ c.args.self.now.width = length-state_join _ _ _ ∙ laid_wide _ _ _ _ _ c.self.view_is c.self.invariant c.requires.place in
    ap (laid c.self.inside.count c.self.inside.width) (items ∙ joined) ∙ laid_write _ _ _ _ _ _ c.self.view_is c.self.invariant c.requires.place row
