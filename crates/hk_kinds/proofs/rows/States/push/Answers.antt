use Rattle.std.proofs.Common.{◌≡◌, ◌+◌, ◌++◌, length, arith, ap, ◌∙◌}
use Rattle.hk_kinds.proofs.RowLists.{laid, laid_length, laid_push}
use Rattle.hk_kinds.proofs.rows.States.push.Goals as goal

pub overflow_add-self : goal.overflow_add-self
overflow_add-self c =
    let count : c.self.inside.count ≡ length c.args.self.now.rows = laid_length _ _ _ _ c.self.view_is in
    omega arith

pub returns-clause-ok : goal.returns-clause-ok
returns-clause-ok c =
    let items : c.extend_from_slice.new.self.items ≡ c.self.inside.properties.items ++ c.args.state.now = c.in_ok-extend_from_slice.ensures.items ∙ ap (λ row. c.self.inside.properties.items ++ row) c.as_slice.ensures in
    ap (laid (c.self.inside.count + 1) c.self.inside.width) items ∙ laid_push _ _ _ _ _ c.self.view_is c.self.invariant c.requires.width
